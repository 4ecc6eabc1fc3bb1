-- A message that is taken goes on by one hop: a Notify up, a Path that activates down, its Resv up.
use Rattle.std.proofs.Common.{◌≡◌, ◌≤◌, ◌<◌, ℕ, suc, Bool, true, false, List, [], ◌∷◌, drop, refl, sym, ◌∙◌, ap, subst, arith, inl}
use Rattle.std.specs.{Prelude.{Option, Some}, List.AllByRecursion}
use Rattle.ason_base.specs.{Network.Network, declared.calls.Phase.TheVariants.{Held, Armed, Live}, declared.codes.ErrCode.ErrCode, declared.ids.LinkId.LinkId, declared.ids.Lsp.Lsp, declared.ids.NodeId.NodeId, declared.messages.Msg.Msg, declared.messages.Msg.TheVariants.{Path, Resv, Notify}, declared.messages.PathRole.PathRole, declared.messages.PathRole.TheVariants.Back, declared.steps.Step.Step, declared.tables.Leg.Leg, declared.tables.Out.Out}
use Rattle.ason_base.proofs.Numbers.{self-number}
use Rattle.mesh_rules.specs.{declared.events.MeshEvent.TheVariants.Take, declared.neighbours.Neighbour.Neighbour, Activations.{busy_to, resv_to}, ActivationAnswers.is_confirmed, Changes.{Answer, puts, sends, to_node}, Events.{on_first, step}, Legs.{following, is_closing, is_contended, is_over, with_phase}, LocalNodes.local_node, Machine.{Mesh, commit, without_first}, Messages.{arrival, on_message}, Reports.reported, Resvs.is_expected}
use Rattle.lsp_laws.specs.HopLaw.{leg_at, mail_between, messages_of}
use Rattle.mesh_nodes.proofs.LegList.{same_lsp-refl}
use Rattle.lsp_laws.proofs.{hops.ActivationRule.resv-is, hops.AnswersTaken.resv_armed, hops.Chain.{Chain, ChainHop, LegFitsPlan}, hops.LegChanges.{following_is, following_none, in_label_is, in_use_out, previous_is}, hops.LegKinds.held_leg, hops.PathComes.path-comes, hops.PathTaken.active_taken, hops.Plans.{IsPlanRoute, Plan, fibre_at, hops, link_at, node_at}, hops.Purposes.{LabelsMeet, Purpose, in_label_of, purpose_role}, hops.Taken.up_hop}
use Rattle.mesh_laws.specs.AloneLaw.{is_refusal, sent_in}
use Rattle.mesh_laws.proofs.soon.Swept.{StandsIn}

-- What is sent

-- the message is under way from a to b
abbrev pub IsOnWay : Mesh → NodeId → NodeId → Msg → Type 0
IsOnWay s a b m = (before : List Msg) × StandsIn (s.mail a.0 b.0) m before

-- what an answer sends first of all is under way
sent-first : (s : Mesh) (n h : NodeId) (a : Answer) (m : Msg) → a.sent ≡ to_node h m ∷ [] →
    IsOnWay (commit s n.0 a) n h m
sent-first s n h a m is = (
  s.mail n.0 h.0,
  record { later = []; all = rw (self-number n.0, is, self-number h.0) refl },
)

-- the step that takes the first message from u to d
took : (t : Network) (s : Mesh) (u d h : NodeId) (m n : Msg) (rest : List Msg) (a : Answer) →
    s.mail u.0 d.0 ≡ m ∷ rest → on_message (local_node t d) (s.nodes d.0) u m ≡ a → a.sent ≡ to_node h n ∷ [] →
    IsOnWay (step t s (Take d u)) d h n
took t s u d h m n rest a was answers is =
    subst (λ ms. IsOnWay (commit (without_first s u.0 d.0) d.0 (on_first (local_node t d) (s.nodes d.0) u ms)) d h n)
    (sym was)
    (sent-first (without_first s u.0 d.0) d h (on_message (local_node t d) (s.nodes d.0) u m) n
    (ap (λ (x : Answer). x.sent) answers ∙ is))

-- A Notify

-- A Notify that is taken between the ends of its LSP's route goes on to the node before.
pub notice-passes : (t : Network) (q : Purpose) (s : Mesh) (l : Lsp) (p : Plan) (j : ℕ) (g : Leg) →
    LegFitsPlan t q l p (suc j) g → suc j < hops p → leg_at s l (node_at p (suc j)) ≡ Some g →
    is_closing g.phase ≡ false → (e names : NodeId) (k : LinkId) (code : ErrCode) (down : Bool) →
    reported code ≡ Some down → (rest : List Msg) →
    s.mail (node_at p (suc (suc j))).0 (node_at p (suc j)).0 ≡ Notify l e names k code ∷ rest →
    IsOnWay (step t s (Take (node_at p (suc j)) (node_at p (suc (suc j))))) (node_at p (suc j)) (node_at p j)
    (Notify l e names k code)
notice-passes t q s l p j g fits small here stands e names k code down told rest was =
    took t s (node_at p (suc (suc j))) (node_at p (suc j)) (node_at p j) (Notify l e names k code)
    (Notify l e names k code) rest (sends (to_node (node_at p j) (Notify l e names k code) ∷ [])) was
    (rw (
      here,
      stands,
      following_is t q l p (suc j) g fits small,
      self-number (node_at p (suc (suc j))).0,
      told,
      previous_is t q l p j g fits,
    ) refl) refl

-- A Path that activates

-- it activates the LSP's backup
pub record Activates (l : Lsp) (m : Msg) : Type 0 where
  pub egress : NodeId
  pub link : LinkId
  pub route : List Step
  pub set : List ℕ
  pub back : Option ℕ
  pub work : ℕ
  pub primary : List Step
  pub is : m ≡ Path l egress link route set back (Back true work primary)

-- a Resv of the LSP
pub record IsResvOf (l : Lsp) (m : Msg) : Type 0 where
  pub egress : NodeId
  pub link : LinkId
  pub label : ℕ
  pub is : m ≡ Resv l egress link label

module _ (t : Network) (q : Purpose) (s : Mesh) (l : Lsp) (p : Plan) (i : ℕ) (route : IsPlanRoute t l.ingress p)
    (chain : Chain t q l p (leg_at s l) (mail_between s l)) (below : i < hops p)
    (e : NodeId) (k : LinkId) (r : List Step) (set : List ℕ) (label : Option ℕ) (work : ℕ) (primary : List Step)
    (rest : List Msg)
    (was : s.mail (node_at p i).0 (node_at p (suc i)).0 ≡ Path l e k r set label (Back true work primary) ∷ rest)
  where
    abbrev u : NodeId
    u = node_at p i

    abbrev d : NodeId
    d = node_at p (suc i)

    abbrev role : PathRole
    role = Back true work primary

    open path-comes t q s l p i route chain below e k r set label role rest was use {hop, over}

    -- the leg that it comes to is Held
    pub comes-held : (g : Leg) × (leg_at s l d ≡ Some g) × (g.phase ≡ Held)
    comes-held = held_leg (leg_at s l d) ((active_taken (purpose_role q) _ _ _ _ hop.shape).held)

    module _ (g : Leg) (here : leg_at s l (node_at p (suc i)) ≡ Some g) (held : g.phase ≡ Held) where
      fits : LegFitsPlan t q l p (suc i) g
      fits = rw here at (chain.fits (suc i) below)

      -- where its label is busy a refusal is sent
      refuses : is_contended (s.nodes d.0).legs g ≡ true →
          on_message (local_node t d) (s.nodes d.0) u (Path l e k r set label role) ≡
          sends (busy_to (local_node t d) g u ∷ [])
      refuses busy =
          rw (here, held, previous_is t q l p i g fits, self-number u.0, over, self-number (link_at p i).0, busy) refl

      refused-sent : (b : Bool) → is_contended (s.nodes d.0).legs g ≡ b →
          AllByRecursion (λ o. is_refusal o.msg ≡ false) (sent_in t s (Take d u)) → b ≡ false
      refused-sent false is none = refl
      refused-sent true is none =
          let all : AllByRecursion (λ (o : Out). is_refusal o.msg ≡ false)
          (on_message (local_node t d) (s.nodes d.0) u (Path l e k r set label role)).sent =
          subst (λ ms. AllByRecursion (λ (o : Out). is_refusal o.msg ≡ false)
          (on_first (local_node t d) (s.nodes d.0) u ms).sent) was none in
          let one : AllByRecursion (λ (o : Out). is_refusal o.msg ≡ false) (busy_to (local_node t d) g u ∷ []) =
          subst (λ (a : Answer). AllByRecursion (λ (o : Out). is_refusal o.msg ≡ false) a.sent) (refuses is) all in
          absurd (cc (one.0))

      module _ (none : AllByRecursion (λ o. is_refusal o.msg ≡ false) (sent_in t s (Take (node_at p (suc i)) (node_at p i))))
        where
          free : is_contended (s.nodes d.0).legs g ≡ false
          free = refused-sent (is_contended (s.nodes d.0).legs g) refl none

          -- Away from the egress the Path goes on.
          pub activation-goes-on : suc i < hops p → (m : Msg) × Activates l m ×
              IsOnWay (step t s (Take (node_at p (suc i)) (node_at p i))) (node_at p (suc i)) (node_at p (suc (suc i))) m
          activation-goes-on small =
              let out : Msg = Path g.lsp g.egress (link_at p (suc i)) (drop 1 r) g.sent g.back_in role in (
                out,
                record {
                  egress = g.egress;
                  link = link_at p (suc i);
                  route = drop 1 r;
                  set = g.sent;
                  back = g.back_in;
                  work = work;
                  primary = primary;
                  is = ap (λ x. Path x g.egress (link_at p (suc i)) (drop 1 r) g.sent g.back_in role) fits.own;
                },
                took t s u d (node_at p (suc (suc i))) (Path l e k r set label role) out rest
                    (puts (with_phase Armed g) (to_node (node_at p (suc (suc i))) out ∷ [])) was
                    (rw (
                      here,
                      held,
                      previous_is t q l p i g fits,
                      self-number u.0,
                      over,
                      self-number (link_at p i).0,
                      free,
                      following_is t q l p (suc i) g fits small,
                    ) refl) refl,
              )

          -- At the egress a Resv goes back.
          pub activation-ends : hops p ≤ suc i → (m : Msg) × IsResvOf l m ×
              IsOnWay (step t s (Take (node_at p (suc i)) (node_at p i))) (node_at p (suc i)) (node_at p i) m
          activation-ends end =
              let into = in_label_is t q l p i g fits (rw held refl) in
              let out : Msg = Resv g.lsp g.egress (link_at p i) into.0 in (
                out,
                record {
                  egress = g.egress;
                  link = link_at p i;
                  label = into.0;
                  is = ap (λ x. Resv x g.egress (link_at p i) into.0) fits.own;
                },
                took t s u d u (Path l e k r set label role) out rest
                    (puts (with_phase Live g) (resv_to g (Some (record { node = u; fibre = fibre_at t p i })) g.in_label))
                    was
                    (rw (
                      here,
                      held,
                      previous_is t q l p i g fits,
                      self-number u.0,
                      over,
                      self-number (link_at p i).0,
                      free,
                      following_none t q l p (suc i) g fits end,
                      previous_is t q l p i g fits,
                    ) refl)
                    (resv-is g (record { node = u; fibre = fibre_at t p i }) into.0
                    (Some (record { node = u; fibre = fibre_at t p i })) g.in_label refl into.1),
              )

-- Its answer

module _ (t : Network) (q : Purpose) (s : Mesh) (l : Lsp) (p : Plan) (i : ℕ) (route : IsPlanRoute t l.ingress p)
    (chain : Chain t q l p (leg_at s l) (mail_between s l)) (below : i < hops p)
    (e : NodeId) (k : LinkId) (x : ℕ) (rest : List Msg)
    (was : s.mail (node_at p (suc i)).0 (node_at p i).0 ≡ Resv l e k x ∷ rest)
    (g : Leg) (here : leg_at s l (node_at p i) ≡ Some g) (armed : g.phase ≡ Armed)
  where
    abbrev n : NodeId
    n = node_at p i

    abbrev far : NodeId
    far = node_at p (suc i)

    leg : LegFitsPlan t q l p i g
    leg = rw here at (chain.fits i (omega arith))

    hop-up : ChainHop q p i (Some g) (leg_at s l far) (mail_between s l n far) (Resv l e k x ∷ messages_of l rest)
    hop-up =
        let any = up_hop t q s l p i route chain below (Resv l e k x) rest was (same_lsp-refl l) in rw here at any

    from-next : is_over (following g) far k ≡ true
    from-next =
        rw (following_is t q l p i g leg below, self-number far.0, hop-up.rest.going_up.0, self-number (link_at p i).0) refl

    its-label : g.out_label ≡ Some x
    its-label =
        let out = in_use_out t q l p i (Some g) leg below (inl (rw armed refl)) in
        let live = resv_armed (purpose_role q) _ _ _ (rw armed at hop-up.shape) in
        let there : in_label_of (leg_at s l far) ≡ Some x = (hop-up.rest.answers.0 (rw (live.live) refl)).0 in
        let meets : LabelsMeet g.out_label (in_label_of (leg_at s l far)) = hop-up.rest.labels in
        let one : out.0 ≡ x = rw (out.1, there) at meets in
        out.1 ∙ ap Some one

    -- it is the one that the Armed leg waits for
    pub is-awaited : is_confirmed (arrival l e far k) x g ≡ true
    is-awaited = rw (armed, from-next, its-label) (self-number x)

    -- Away from the ingress a Resv goes on up.
    pub answer-passes : (j : ℕ) → suc j ≡ i → (m : Msg) × IsResvOf l m ×
        IsOnWay (step t s (Take (node_at p i) (node_at p (suc i)))) (node_at p i) (node_at p j) m
    answer-passes j is =
        let fits : LegFitsPlan t q l p (suc j) g = rw (← is) at leg in
        let into = in_label_is t q l p j g fits (rw armed refl) in
        let before-it : Neighbour = record { node = node_at p j; fibre = fibre_at t p j } in
        let out : Msg = Resv g.lsp g.egress (link_at p j) into.0 in
        let waits : is_expected (arrival l e far k) x g ≡ false = rw armed refl in (
          out,
          record {
            egress = g.egress;
            link = link_at p j;
            label = into.0;
            is = ap (λ y. Resv y g.egress (link_at p j) into.0) leg.own;
          },
          took t s far n (node_at p j) (Resv l e k x) out rest
              (puts (with_phase Live g) (resv_to g (Some before-it) g.in_label)) was
              (rw (here, waits, is-awaited, previous_is t q l p j g fits) refl)
              (resv-is g before-it into.0 (Some before-it) g.in_label refl into.1),
        )
