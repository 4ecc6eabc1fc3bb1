-- A backup that is being activated: the Path that activates goes down, the Resv comes up, and then the call has turned.
use Rattle.std.proofs.{Common.{◌≡◌, ◌≤◌, ◌<◌, ◌⊎◌, ℕ, zero, suc, ◌+◌, ◌-◌, Bool, true, false, nat_eq, List, [], ◌∷◌, refl, sym, ◌∙◌, ap, subst, arith, inl, inr}, lemmas.Bool.cases_lt}
use Rattle.std.specs.{Prelude.{Option, Some}, List.AllByRecursion}
use Rattle.ason_base.specs.{Network.Network, declared.calls.CallState.TheVariants.Turned, declared.calls.Phase.Phase, declared.calls.Role.Role, declared.calls.Phase.TheVariants.{Asked, Held, Armed, Live, Closing, Falling}, declared.ids.CallNo.CallNo, declared.ids.Lsp.Lsp, declared.ids.NodeId.NodeId, declared.messages.Msg.Msg, declared.messages.Msg.TheVariants.{Path, Resv}, declared.messages.PathRole.TheVariants.Back, declared.tables.CallRec.CallRec, declared.tables.Leg.Leg, declared.tables.Out.Out}
use Rattle.ason_base.proofs.Numbers.{self-number}
use Rattle.mesh_rules.specs.declared.changes.CallChange.TheVariants as call
use Rattle.mesh_rules.specs.{declared.events.MeshEvent.MeshEvent, declared.events.MeshEvent.TheVariants.Take, Calls.{call_with, find_call, is_turning, turned, with_call}, Changes.Answer, Events.{on_first, step}, Legs.{is_beyond_asked, with_phase}, LocalNodes.local_node, Machine.{Mesh, commit, without_first}, Messages.{arrival, on_message}, Resvs.is_expected, Turns.{decided, has_any}}
use Rattle.mesh_nodes.proofs.{CallList.{find-with_call, found-number}, LegList.same_lsp-refl}
use Rattle.lsp_laws.specs.{HopLaw.{leg_at, mail_between, messages_of}, HopShapes.{IsTorn, LegKind, AskedLeg, phase_kind}}
use Rattle.lsp_laws.proofs.{hops.AnswersTaken.{ByArmed, ByAsked, ByTorn, TakesResv, takes_resv}, hops.Chain.{ChainHop, LegFitsPlan}, hops.LegChanges.previous_none, hops.LegKinds.same_phase, hops.Plans.{IsPlanRoute, Plan, hops, node_at}, hops.Purposes.{Purpose, purpose_role}, hops.Taken.up_hop}
use Rattle.mesh_laws.specs.{AloneLaw.{is_refusal, sent_in}, Sweeps.takes_one}
use Rattle.mesh_laws.proofs.{soon.OneHop.{Activates, IsResvOf, activation-ends, activation-goes-on, answer-passes, comes-held, is-awaited}, soon.Delays.{down-grows, down_to, there_and_back, up_from}, soon.Soon.{ByMail, Goal, IsDone, Within}, soon.Swept.StandsIn, soon.Activating.{CallHasTurned, SaysActivation, BackupStandsBy, turning_goal}, soon.Words.take-is}

-- a leg that isn't torn and not Asked takes a Resv where it is Armed alone
torn-one : (r : Role) (f : Phase) → is_beyond_asked f ≡ true → IsTorn r (phase_kind f) → ⊥
torn-one r Asked beyond torn = cc beyond
torn-one r Closing beyond torn = cc beyond
torn-one r Falling beyond torn = cc beyond
torn-one r Held beyond torn = elim torn [ ]
torn-one r Armed beyond torn = elim torn [ ]
torn-one r Live beyond torn = elim torn [ ]

asked-one : (f : Phase) → is_beyond_asked f ≡ true → phase_kind f ≡ AskedLeg → ⊥
asked-one Asked beyond is = cc beyond
asked-one Held beyond is = cc is
asked-one Armed beyond is = cc is
asked-one Live beyond is = cc is
asked-one Closing beyond is = cc is
asked-one Falling beyond is = cc is

armed-one : (r : Role) (f : Phase) (kind : LegKind) → phase_kind f ≡ kind → is_beyond_asked f ≡ true →
    TakesResv r kind → f ≡ Armed
armed-one _ f _ is beyond ByArmed = same_phase f Armed is
armed-one r f _ is beyond ByAsked = absurd (asked-one f beyond is)
armed-one r f kind is beyond (ByTorn torn) = absurd (torn-one r f beyond (rw (← is) at torn))

module _ (t : Network) (delay : ℕ → ℕ → ℕ) (q : Purpose) (p : Plan) (b : Lsp) (n : NodeId) (k : CallNo)
    (route : IsPlanRoute t b.ingress p) (first : node_at p 0 ≡ n) (s : Mesh) where
  abbrev Good : MeshEvent → Type 0
  Good e = BackupStandsBy t q p b n k s e

  abbrev goal : Goal
  goal = turning_goal t delay q p b n k

  -- a Path that activates is taken
  down : (e : MeshEvent) (j i : ℕ) (m : Msg) → Good e → i < hops p → Activates b m →
      j + down_to delay p (suc i) ≡ there_and_back delay p → e ≡ Take (node_at p (suc i)) (node_at p i) →
      StandsIn (s.mail (node_at p i).0 (node_at p (suc i)).0) m [] →
      Within goal (delay (node_at p (suc i)).0) j (step t s e)
  down e j i m good below tells left is waits =
      subst (λ x. Within goal (delay (node_at p (suc i)).0) j (step t s x)) (sym is)
      (by_end (cases_lt (suc i) (hops p)))
    where
      rest : List Msg
      rest = waits.later

      was : s.mail (node_at p i).0 (node_at p (suc i)).0 ≡
          Path b tells.egress tells.link tells.route tells.set tells.back (Back true tells.work tells.primary) ∷ rest
      was = waits.all ∙ ap (λ x. x ∷ rest) tells.is

      none : AllByRecursion (λ o. is_refusal o.msg ≡ false) (sent_in t s (Take (node_at p (suc i)) (node_at p i)))
      none = subst (λ x. AllByRecursion (λ (o : Out). is_refusal o.msg ≡ false) (sent_in t s x)) is good.none_refused

      held : (g : Leg) × (leg_at s b (node_at p (suc i)) ≡ Some g) × (g.phase ≡ Held)
      held = comes-held t q s b p i route good.chain below tells.egress tells.link tells.route tells.set tells.back
          tells.work tells.primary rest was

      by_end : (suc i < hops p) ⊎ (hops p ≤ suc i) →
          Within goal (delay (node_at p (suc i)).0) j (step t s (Take (node_at p (suc i)) (node_at p i)))
      by_end (inl small) =
          let on = activation-goes-on t q s b p i route good.chain below tells.egress tells.link tells.route tells.set
          tells.back tells.work tells.primary rest was held.0 held.1 held.2 none small in
          let before = on.2.0 in
          let long = down-grows delay p (suc (suc i)) (hops p) small in
          ByMail (j - delay (node_at p (suc i)).0 (node_at p (suc (suc i))).0) (node_at p (suc i)).0
          (node_at p (suc (suc i))).0 on.0 before (omega (arith, left, long))
          (inl (record {
            place = suc i;
            below = small;
            tells = on.1;
            from = refl;
            to = refl;
            left = omega (arith, left, long);
          }))
          on.2.1
      by_end (inr end) =
          let on = activation-ends t q s b p i route good.chain below tells.egress tells.link tells.route tells.set
          tells.back tells.work tells.primary rest was held.0 held.1 held.2 none end in
          let last : suc i ≡ hops p = omega (arith, below, end) in
          let downs : down_to delay p (suc i) ≡ down_to delay p (hops p) = ap (down_to delay p) last in
          let ups : up_from delay p (suc i) ≡ up_from delay p (hops p) = ap (up_from delay p) last in
          ByMail (up_from delay p i) (node_at p (suc i)).0 (node_at p i).0 on.0 on.2.0 (omega (arith, left, downs, ups))
          (inr (record { place = i; below = below; tells = on.1; from = refl; to = refl; left = refl })) on.2.1

  -- A Resv is taken

  module _ (good-event : MeshEvent) (good : BackupStandsBy t q p b n k s good-event) (i : ℕ) (below : i < hops p)
      (m : Msg)
      (tells : IsResvOf b m)
      (waits : StandsIn (s.mail (node_at p (suc i)).0 (node_at p i).0) m []) where
    abbrev rest : List Msg
    rest = waits.later

    was : s.mail (node_at p (suc i)).0 (node_at p i).0 ≡ Resv b tells.egress tells.link tells.label ∷ rest
    was = waits.all ∙ ap (λ x. x ∷ rest) tells.is

    leg : (g : Leg) × (leg_at s b (node_at p i) ≡ Some g) × (is_beyond_asked g.phase ≡ true)
    leg = good.reserved i (omega (arith, below))

    armed : leg.0.phase ≡ Armed
    armed =
        let hop : ChainHop q p i (leg_at s b (node_at p i)) (leg_at s b (node_at p (suc i)))
        (mail_between s b (node_at p i) (node_at p (suc i)))
        (Resv b tells.egress tells.link tells.label ∷ messages_of b rest) =
        up_hop t q s b p i route good.chain below (Resv b tells.egress tells.link tells.label) rest was
        (same_lsp-refl b) in
        let takes = takes_resv (purpose_role q) _ _ _ _ hop.shape in
        armed-one (purpose_role q) leg.0.phase (phase_kind leg.0.phase) refl leg.2 (rw (leg.1) at takes)

    -- away from the ingress
    passes : (j : ℕ) → suc j ≡ i →
        Within goal (delay (node_at p i).0) (up_from delay p i) (step t s (Take (node_at p i) (node_at p (suc i))))
    passes j is =
        let on = answer-passes t q s b p i route good.chain below tells.egress tells.link tells.label rest was leg.0
        leg.1 armed j is in
        let ups : up_from delay p (suc j) ≡ up_from delay p i = ap (up_from delay p) is in
        let hop : delay (node_at p (suc j)).0 (node_at p j).0 ≡ delay (node_at p i).0 (node_at p j).0 =
        ap (λ (x : ℕ). delay (node_at p x).0 (node_at p j).0) is in
        ByMail (up_from delay p j) (node_at p i).0 (node_at p j).0 on.0 on.2.0 (omega (arith, ups, hop))
        (inr (record {
          place = j;
          below = omega (arith, is, below);
          tells = on.1;
          from = ap (λ (x : ℕ). (node_at p x).0) (sym is);
          to = refl;
          left = refl;
        }))
        on.2.1

  -- A Resv comes to the ingress: the call has turned

  decides : (works backs : Bool) → backs ≡ false → (c : CallRec) → (g : Option Leg) → (legs : List Leg) →
      (decided legs c g Turned works backs).calls ≡ call.Put c ∷ []
  decides true false e c g legs = refl
  decides false false e c g legs = refl
  decides works true e c g legs = absurd (cc e)

  turns-call : (calls : List CallRec) (c : CallRec) → find_call k calls ≡ Some c →
      find_call k (with_call (turned c) calls) ≡ Some (turned c)
  turns-call calls c found =
      let number : c.call ≡ k = found-number k calls c found in
      let is : nat_eq c.call.0 k.0 ≡ true = rw number (self-number k.0) in
      find-with_call (turned c) calls k ∙ rw is refl

  -- what an answer at the ingress makes of the call
  turned-after : (u d : NodeId) → d ≡ n → (a : Answer) (c : CallRec) → a.calls ≡ call.Put (turned c) ∷ [] →
      find_call k (s.nodes n.0).calls ≡ Some c →
      find_call k ((commit (without_first s u.0 d.0) d.0 a).nodes n.0).calls ≡ Some (turned c)
  turned-after u d is a c calls found = rw (is, self-number n.0, calls) (turns-call (s.nodes n.0).calls c found)

  module _ (e : MeshEvent) (good : BackupStandsBy t q p b n k s e) (below : 0 < hops p) (m : Msg) (tells : IsResvOf b m)
      (waits : StandsIn (s.mail (node_at p 1).0 (node_at p 0).0) m []) (g : Leg)
      (here : leg_at s b (node_at p 0) ≡ Some g) (is_armed : g.phase ≡ Armed) where
    abbrev d : NodeId
    d = node_at p 0

    was-first : s.mail (node_at p 1).0 (node_at p 0).0 ≡ Resv b tells.egress tells.link tells.label ∷ waits.later
    was-first = waits.all ∙ ap (λ x. x ∷ waits.later) tells.is

    fits : LegFitsPlan t q b p 0 g
    fits = rw here at (good.chain.fits 0 (omega arith))

    called : call_with g.lsp (s.nodes d.0).calls ≡ Some good.call
    called = subst (λ (x : Lsp). call_with x (s.nodes d.0).calls ≡ Some good.call) (sym fits.own)
        (subst (λ (x : NodeId). call_with b (s.nodes x.0).calls ≡ Some good.call) (sym first) good.named)

    puts-turned : (on_message (local_node t d) (s.nodes d.0) (node_at p 1)
        (Resv b tells.egress tells.link tells.label)).calls ≡ call.Put (turned good.call) ∷ []
    puts-turned =
        let waited : is_expected (arrival b tells.egress (node_at p 1) tells.link) tells.label g ≡ false =
        rw is_armed refl in
        let awaited = is-awaited t q s b p 0 route good.chain below tells.egress tells.link tells.label waits.later
        was-first g here is_armed in
        let turning : is_turning good.call.state ≡ true = rw (good.turning g here is_armed) refl in
        let none : has_any good.call.back_reports ≡ false = rw good.unhit refl in
        rw (here, waited, awaited, previous_none t q b p g fits, called, turning)
        (decides (has_any good.call.work_reports) (has_any good.call.back_reports) none (turned good.call)
        (Some (with_phase Live g)) (s.nodes d.0).legs)

    turns : CallHasTurned n k (step t s (Take (node_at p 0) (node_at p 1)))
    turns =
        let a : Answer = on_message (local_node t d) (s.nodes d.0) (node_at p 1)
        (Resv b tells.egress tells.link tells.label) in
        record {
          call = turned good.call;
          found = subst (λ ms. find_call k ((commit (without_first s (node_at p 1).0 d.0) d.0
              (on_first (local_node t d) (s.nodes d.0) (node_at p 1) ms)).nodes n.0).calls ≡ Some (turned good.call))
              (sym was-first)
              (turned-after (node_at p 1) d first a good.call puts-turned good.found);
          state = refl;
        }

  -- Either message

  up : (e : MeshEvent) (good : BackupStandsBy t q p b n k s e) (i : ℕ) (m : Msg) → i < hops p → IsResvOf b m →
      e ≡ Take (node_at p i) (node_at p (suc i)) → StandsIn (s.mail (node_at p (suc i)).0 (node_at p i).0) m [] →
      Within goal (delay (node_at p i).0) (up_from delay p i) (step t s e)
  up e good zero m below tells is waits =
      let l = leg e good 0 below m tells waits in
      IsDone (subst (λ x. CallHasTurned n k (step t s x)) (sym is)
      (turns e good below m tells waits l.0 l.1 (armed e good 0 below m tells waits)))
  up e good (suc j) m below tells is waits =
      subst (λ x. Within goal (delay (node_at p (suc j)).0) (up_from delay p (suc j)) (step t s x)) (sym is)
      (passes e good (suc j) below m tells waits j refl)

  -- A message that tells of the activation brings it nearer as it is taken.
  pub activation-nears : (e : MeshEvent) (j u d : ℕ) (m : Msg) → BackupStandsBy t q p b n k s e →
      SaysActivation delay p b j u d m → takes_one u d e ≡ 1 → StandsIn (s.mail u d) m [] →
      Within (turning_goal t delay q p b n k) (delay d) j (step t s e)
  activation-nears e j u d m good (inl is) one waits =
      let taken : takes_one (node_at p is.place).0 (node_at p (suc is.place)).0 e ≡ 1 = rw (← is.from, ← is.to) one in
      subst (λ x. Within goal (delay x) j (step t s e)) (sym is.to)
      (down e j is.place m good is.below is.tells is.left
      (take-is (node_at p is.place) (node_at p (suc is.place)) e taken) (rw (is.from, is.to) at waits))
  activation-nears e j u d m good (inr is) one waits =
      let taken : takes_one (node_at p (suc is.place)).0 (node_at p is.place).0 e ≡ 1 = rw (← is.from, ← is.to) one in
      subst (λ x. Within goal (delay x) j (step t s e)) (sym is.to)
      (subst (λ x. Within goal (delay (node_at p is.place).0) x (step t s e)) (sym is.left)
      (up e good is.place m is.below is.tells
      (take-is (node_at p (suc is.place)) (node_at p is.place) e taken) (rw (is.from, is.to) at waits)))
