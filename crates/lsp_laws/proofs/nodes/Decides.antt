-- What a call decides keeps the facts of a node: it turns to its backup, goes back, is stuck, or stays as it is.
use Rattle.std.proofs.{Common.{◌≡◌, ℕ, Bool, true, false, cond, not, List, [], ◌∷◌, refl, sym, ap, subst, ◌∙◌, arith}, lemmas.Bool.false_from_ne_true, Math.Bool.or-true}
use Rattle.std.specs.Prelude.{Option, Some, None, IfSome}
use Rattle.ason_base.specs.{Codes.busy_code, declared.calls.CallState.CallState, declared.calls.CallState.TheVariants.{Asking, Bare, Pairing, Guarded, Turning, Turned, Stuck, Blocked}, declared.calls.Cause.Cause, declared.calls.Cause.TheVariants.{BackDown, Code, Unset}, declared.calls.Phase.Phase, declared.calls.Phase.TheVariants.{Armed, Held, Live}, declared.calls.Role.TheVariants.{Work, Back}, declared.ids.Fibre.Fibre, declared.ids.Lsp.Lsp, declared.tables.CallRec.CallRec, declared.tables.Leg.Leg, declared.tables.Out.Out, Lsps.same_lsp}
use Rattle.mesh_rules.specs.declared.changes.CallChange.TheVariants as call
use Rattle.mesh_rules.specs.declared.changes.LegChange.TheVariants as leg
use Rattle.mesh_rules.specs.{Calls.{find_call, names, with_call}, Changes.{Answer, changed, nothing}, Legs.{find_leg, following, is_contended, is_held, is_in_use, leg_of, with_leg, with_phase}, Pairs.is_two_way, State.NodeState, Turns.{activating_path, arms, call_put, decide, decided, disarms, go_back, has_any, taking_path, turn}}
use Rattle.mesh_nodes.proofs.{Cases.if_cases, LegList.{find-with_leg, same_lsp-eq, same_lsp-refl}}
use Rattle.lsp_laws.specs.CallLaw.{FitsLegs, GuardsWork, IsNamed, phases_fit, fits_reports, phase_of}
use Rattle.lsp_laws.proofs.{nodes.Facts.NodeFacts, nodes.CallKeeps.named-leg, nodes.CallParts.{LegBecomes, CallPart, leg_of-stays, named-stays, names-back, other-stays}, nodes.CallTouched.{same-leg, touched-changes}, nodes.LegParts.{LegPart, MayStand, part-with_leg}, nodes.Parts.{back-row, node_facts}, nodes.PhaseLegs.{stands-alone, stands-unmarked}, nodes.States.{AskingRow, BareRow, BlockedRow, Row, guarded-back, guarded-stuck, live-work, stuck-guarded, turned-back}, hops.NamedPhases.named_is}

-- the call, in this state, with these reports
abbrev pub revised : CallRec → CallState → List Fibre → List Fibre → Cause → ℕ → CallRec
revised c state works backs cause ticks =
    record c { state = state; work_reports = works; back_reports = backs; cause = cause; ticks = ticks }

-- the leg, in this phase and with these labels
abbrev pub leg_as : Leg → Phase → Option ℕ → Option ℕ → Leg
leg_as g f i o = record g { phase = f; in_label = i; out_label = o }

-- The call c, and the leg of its backup as it stood

module _ (n : ℕ) (s : NodeState) (facts : NodeFacts n s) (c : CallRec) (found : find_call c.call s.calls ≡ Some c)
    (g : Leg) (here : find_leg g.lsp s.legs ≡ Some g) (back : c.back ≡ Some g.lsp) where
  fit : FitsLegs n s.lsp s.legs c
  fit = facts.call c.call c found

  name : IsNamed n s.lsp s.legs Back c.egress g.lsp
  name = named_is n s.lsp s.legs Back c.egress c.back g.lsp fit.back back

  pub backup-row : Row c.state (phase_of (leg_of c.work s.legs)) (Some g.phase)
  backup-row = back-row n s.lsp s.legs c g.lsp g fit back here

  live : phase_of (leg_of c.work s.legs) ≡ Some Live
  live = live-work c.state (phase_of (leg_of c.work s.legs)) g.phase backup-row

  own : (g.role ≡ Back) × (g.egress ≡ c.egress)
  own = named-leg n s.lsp s.legs Back c.egress g.lsp g name here

  -- the working LSP is another one
  work-apart : (m : Lsp) → c.work ≡ Some m → same_lsp g.lsp m ≡ false
  work-apart m work = false_from_ne_true (same_lsp g.lsp m) (λ e.
      let there : find_leg m s.legs ≡ Some g =
      subst (λ k. find_leg k s.legs ≡ Some g) (same_lsp-eq g.lsp m e) here in
      let role : g.role ≡ Work = (named-leg n s.lsp s.legs Work c.egress m g
      (named_is n s.lsp s.legs Work c.egress c.work m fit.work work) there).0 in
      let mine : g.role ≡ Back = own.0 in
      cc (role, mine))

  -- The leg is in the phase f with these labels, and all others stay

  module _ (f : Phase) (i o : Option ℕ) (legs' : List Leg)
      (becomes : LegBecomes g.lsp (Some (leg_as g f i o)) s.legs legs') where
    now-found : find_leg g.lsp legs' ≡ Some (leg_as g f i o)
    now-found = becomes g.lsp ∙ rw (same_lsp-refl g.lsp) refl

    work-stays : (m : Lsp) → c.work ≡ Some m → find_leg m legs' ≡ find_leg m s.legs
    work-stays m work = other-stays g.lsp m (Some (leg_as g f i o)) s.legs legs' becomes (work-apart m work)

    module _ (state : CallState) (works backs : List Fibre) (cause : Cause) (ticks : ℕ)
        (fits_state : phases_fit state (Some Live) (Some f) ≡ true)
        (reports : fits_reports state (has_any works) (has_any backs) ≡ true) where
      revised-fits : FitsLegs n s.lsp legs' (revised c state works backs cause ticks)
      revised-fits =
          let there = now-found in
          let first = leg_of-stays c.work s.legs legs' work-stays in
          let standing = live in
          record {
            state = rw (first, standing, back, there) fits_state;
            work = named-stays n s.lsp s.lsp Work c.egress c.work s.legs legs' (omega arith) work-stays fit.work;
            back = subst (λ k. IfSome k (IsNamed n s.lsp legs' Back c.egress)) (sym back)
                (record {
                  ingress = name.ingress;
                  number = name.number;
                  leg = (leg_as g f i o, now-found, own.0, own.1);
                });
            guards = λ w b h is_work is_back found.
                (let own : g.lsp ≡ b = cc (back, is_back) in
                let there' : find_leg g.lsp legs' ≡ Some h =
                subst (λ k. find_leg k legs' ≡ Some h) (sym own) found in
                let one : leg_as g f i o ≡ h = cc (there, there') in
                subst (λ (k : Leg). GuardsWork w b k.path_role) one
                (subst (λ k. GuardsWork w k g.path_role) own (fit.guards w g.lsp g is_work back here)));
            ways = λ w b k h is_work is_back at_w at_b.
                (let own : g.lsp ≡ b = cc (back, is_back) in
                let there' : find_leg g.lsp legs' ≡ Some h =
                subst (λ m. find_leg m legs' ≡ Some h) (sym own) at_b in
                let one : leg_as g f i o ≡ h = cc (there, there') in
                subst (λ m. is_two_way m ≡ is_two_way k) one
                (fit.ways w g.lsp k g is_work back (sym (work-stays w is_work) ∙ at_w) here));
            reports = reports;
          }

      pub revised-part : CallPart n s.lsp legs' (with_call (revised c state works backs cause ticks) s.calls)
      revised-part =
          touched-changes n s facts c found g.lsp (names-back c g.lsp back) (revised c state works backs cause ticks)
          (Some (leg_as g f i o)) legs' becomes refl revised-fits (λ x has. has) (λ x has never. has)
          (λ h is. names-back c g.lsp back)

  -- These legs stand when the call decides; b is the leg among them

  module _ (f : Phase) (i o : Option ℕ) (legs : List Leg)
      (becomes : LegBecomes g.lsp (Some (leg_as g f i o)) s.legs legs) (legs_part : LegPart n s.lsp legs) where
    abbrev After : Answer → Type 0
    After a = NodeFacts n (changed (record s { legs = legs }) a)

    abbrev b : Leg
    b = leg_as g f i o

    put-after : (state : CallState) (works backs : List Fibre) (cause : Cause) (ticks : ℕ) →
        phases_fit state (Some Live) (Some f) ≡ true → fits_reports state (has_any works) (has_any backs) ≡ true →
        After (call_put (revised c state works backs cause ticks))
    put-after state works backs cause ticks standing reports =
        node_facts n (changed (record s { legs = legs }) (call_put (revised c state works backs cause ticks)))
        legs_part (revised-part f i o legs becomes state works backs cause ticks standing reports)

    phase-becomes : (q : Phase) → LegBecomes g.lsp (Some (with_phase q b)) s.legs (with_leg (with_phase q b) legs)
    phase-becomes q m = find-with_leg (with_phase q b) legs m ∙ twice (same_lsp g.lsp m) (becomes m)
      where
        twice : (t : Bool) → find_leg m legs ≡ cond t (Some b) (find_leg m s.legs) →
            cond t (Some (with_phase q b)) (find_leg m legs) ≡ cond t (Some (with_phase q b)) (find_leg m s.legs)
        twice true e = refl
        twice false e = e

    -- the leg gets the phase q, in which it may stand, and the call the state that goes with it
    moves-after : (q : Phase) (state : CallState) (works backs : List Fibre) (sent : List Out) →
        MayStand n s.lsp legs (with_phase q b) → phases_fit state (Some Live) (Some q) ≡ true →
        fits_reports state (has_any works) (has_any backs) ≡ true →
        After (record nothing {
          legs = leg.Put (with_phase q b) ∷ [];
          calls = call.Put (revised c state works backs Unset 0) ∷ [];
          sent = sent;
        })
    moves-after q state works backs sent may standing reports =
        node_facts n
        (record s {
          legs = with_leg (with_phase q b) legs;
          calls = with_call (revised c state works backs Unset 0) s.calls;
        })
        (part-with_leg n s.lsp s.lsp (with_phase q b) legs (omega arith) legs_part may)
        (revised-part q i o (with_leg (with_phase q b) legs) (phase-becomes q) state works backs Unset 0 standing
        reports)

    -- the legs of other LSPs stand as the rule read them
    stood : (m : Lsp) (h : Leg) → same_lsp g.lsp m ≡ false → find_leg m legs ≡ Some h → find_leg m s.legs ≡ Some h
    stood m h apart there = sym (other-stays g.lsp m (Some b) s.legs legs becomes apart) ∙ there

    arms-after : f ≡ Held → is_contended s.legs b ≡ false → (state : CallState) (works backs : List Fibre)
        (cause : Cause) (ticks : ℕ) → After (arms (revised c state works backs cause ticks) b)
    arms-after held free state works backs cause ticks =
        moves-after Armed Turning works backs (activating_path b (following b))
        (stands-alone n s.lsp legs Armed b legs_part (now-found f i o legs becomes) (rw held refl) refl own.0 s.legs
        stood free) refl refl

    disarms-after : f ≡ Live → (state : CallState) (works backs : List Fibre) (cause : Cause) (ticks : ℕ) →
        has_any works ≡ false → After (disarms (revised c state works backs cause ticks) b)
    disarms-after live state works backs cause ticks quiet =
        moves-after Held Guarded works backs (taking_path b (following b))
        (stands-unmarked n s.lsp legs Held b legs_part (now-found f i o legs becomes) (rw live refl) refl own.0
        (λ mark. absurd (cc mark))) refl (rw quiet refl)

    -- with a working report a call turns to a Held backup, or is stuck
    pub turn-after : f ≡ Held → (state : CallState) (works backs : List Fibre) (cause : Cause) (ticks : ℕ) →
        has_any works ≡ true → After (turn s.legs (revised c state works backs cause ticks) (Some b))
    turn-after held state works backs cause ticks hit =
        if_cases After (is_held f) _ _
        (λ e. if_cases After (is_contended s.legs b) _ _
        (λ busy. put-after Stuck works backs (Code busy_code) 0 (rw held refl) hit)
        (λ free. arms-after held free state works backs cause ticks))
        (λ e. let yes : is_held f ≡ true = ap is_held held in absurd (cc (yes, e)))

    -- without working reports a turned call goes back
    pub goes_back-after : f ≡ Live → (state : CallState) (works backs : List Fibre) (cause : Cause) (ticks : ℕ) →
        has_any works ≡ false → After (go_back (revised c state works backs cause ticks) (Some b))
    goes_back-after live state works backs cause ticks quiet =
        if_cases After (is_in_use f) _ _ (λ e. disarms-after live state works backs cause ticks quiet)
        (λ e. let yes : is_in_use f ≡ true = ap is_in_use live in absurd (cc (yes, e)))

    module _ (works backs : List Fibre) (cause : Cause) (ticks : ℕ) where
      decided-after : (state : CallState) (w k : Bool) → has_any works ≡ w → has_any backs ≡ k →
          phases_fit state (Some Live) (Some f) ≡ true →
          After (decided s.legs (revised c state works backs cause ticks) (Some b) state w k)
      decided-after Asking w k is_w is_k standing = absurd (cc standing)
      decided-after Bare w k is_w is_k standing = absurd (cc standing)
      decided-after Blocked w k is_w is_k standing = absurd (cc standing)
      decided-after Pairing w k is_w is_k standing = put-after Pairing works backs cause ticks standing refl
      decided-after Turning w k is_w is_k standing = put-after Turning works backs cause ticks standing refl
      decided-after Turned true k is_w is_k standing =
          put-after Turned works backs cause ticks standing (rw is_w (or-true (not (has_any backs))))
      decided-after Turned false true is_w is_k standing =
          goes_back-after (turned-back f standing) Turned works backs cause ticks is_w
      decided-after Turned false false is_w is_k standing =
          put-after Turned works backs cause ticks standing (rw (is_w, is_k) refl)
      decided-after Guarded true false is_w is_k standing =
          turn-after (guarded-back f standing) Guarded works backs cause ticks is_w
      decided-after Guarded true true is_w is_k standing =
          put-after Stuck works backs BackDown 0 (guarded-stuck f standing) is_w
      decided-after Guarded false k is_w is_k standing =
          put-after Guarded works backs cause ticks standing (rw is_w refl)
      decided-after Stuck true k is_w is_k standing = put-after Stuck works backs cause ticks standing is_w
      decided-after Stuck false k is_w is_k standing =
          put-after Guarded works backs Unset 0 (stuck-guarded f standing) (rw is_w refl)

      pub decide-after : (state : CallState) → phases_fit state (Some Live) (Some f) ≡ true →
          After (decide s.legs (revised c state works backs cause ticks) (Some b))
      decide-after state standing = decided-after state (has_any works) (has_any backs) refl refl standing

-- A call without a backup

module _ (n : ℕ) (s : NodeState) (facts : NodeFacts n s) (c : CallRec) (found : find_call c.call s.calls ≡ Some c)
    (g : Leg) (here : find_leg g.lsp s.legs ≡ Some g) (named : names g.lsp c ≡ true) where
  fit-alone : FitsLegs n s.lsp s.legs c
  fit-alone = facts.call c.call c found

  module _ (works backs : List Fibre) (cause : Cause) (ticks : ℕ)
      (reports : fits_reports c.state (has_any works) (has_any backs) ≡ true) where
    -- with other reports it stays as it is
    pub same-put : NodeFacts n (changed s (call_put (revised c c.state works backs cause ticks)))
    same-put =
        node_facts n (changed s (call_put (revised c c.state works backs cause ticks)))
        (record { rise = facts.legs_rise; leg = facts.leg; labels = facts.labels; marks = facts.marks })
        (touched-changes n s facts c found g.lsp named (revised c c.state works backs cause ticks) (Some g) s.legs
        (same-leg g s.legs here) refl
        (record {
          state = fit-alone.state;
          work = fit-alone.work;
          back = fit-alone.back;
          guards = fit-alone.guards;
          ways = fit-alone.ways;
          reports = reports;
        })
        (λ x has. has) (λ x has never. has) (λ h is. named))

    pub decide-alone : (w : Option Phase) → Row c.state w None →
        NodeFacts n (changed s (decide s.legs (revised c c.state works backs cause ticks) None))
    decide-alone w standing = go c.state w None standing refl same-put
      where
        go : (state : CallState) (w b : Option Phase) → Row state w b → b ≡ None →
            NodeFacts n (changed s (call_put (revised c c.state works backs cause ticks))) →
            NodeFacts n (changed s (decided s.legs (revised c c.state works backs cause ticks) None state
            (has_any works) (has_any backs)))
        go _ _ _ AskingRow none put = put
        go _ _ _ BareRow none put = put
        go _ _ _ BlockedRow none put = put
        go _ _ _ _ none put = absurd (cc none)
