-- A Notify, an order to try again, an alarm and a clear keep the facts of a node.
use Rattle.std.proofs.Common.{◌≡◌, ℕ, Bool, true, false, cond, not, List, [], ◌∷◌, ◌++◌, refl, sym, ap, subst, ◌∙◌, inl, inr}
use Rattle.std.specs.Prelude.{◌&&◌, Option, Some, None}
use Rattle.ason_base.specs.{Codes.{fibre_down_code, fibre_up_code}, Lsps.{has_fibre, is_lsp, without_fibre}, declared.calls.CallState.CallState, declared.calls.CallState.TheVariants.Stuck, declared.calls.Phase.TheVariants.Held, declared.codes.ErrCode.ErrCode, declared.ids.CallNo.CallNo, declared.ids.Fibre.Fibre, declared.ids.NodeId.NodeId, declared.tables.CallRec.CallRec, declared.tables.Leg.Leg}
use Rattle.ason_base.proofs.Bools.{and-left, and-right}
use Rattle.mesh_rules.specs.{declared.neighbours.Neighbour.Neighbour, Alarms.{enters, knows_down, on_alarm, on_clear}, Calls.{call_with, find_call, is_stuck, names}, Changes.changed, Legs.{find_leg, following, is_closing, is_node, leg_of, previous}, LocalNodes.{LocalNode, own_link}, Notifies.{Notice, notice_passed, notice_told, notify_with}, Pairs.route_from, Reports.{call_reported, fibre_into, fibres_after, reported, reported_on, with_back_reports, with_work_reports}, Retries.retry_with, State.NodeState, Turns.{decide, has_any, turn}}
use Rattle.mesh_nodes.proofs.{Cases.if_cases, CallList.{called-found, called-names}, LegList.found-lsp}
use Rattle.lsp_laws.specs.CallLaw.{FitsLegs, phase_of}
use Rattle.lsp_laws.proofs.{nodes.Facts.{NodeFacts, same-facts}, nodes.CallParts.{lsp-is, named-by, is-lsp}, nodes.Decides.{backup-row, decide-after, decide-alone, revised, turn-after}, nodes.CallTouched.same-leg, nodes.LegEnds.leg_of-own, nodes.Parts.{leg_part, work-row}, nodes.PathKeeps.{KeepsFacts, keeps-ordered}, nodes.States.{Row, alone-reported, back-fits, row, stuck-legs}}

-- The call c has the LSP of the leg g, and the leg of its backup is o

module _ (n : ℕ) (s : NodeState) (facts : NodeFacts n s) (c : CallRec) (found : find_call c.call s.calls ≡ Some c)
    (g : Leg) (here : find_leg g.lsp s.legs ≡ Some g) (named : names g.lsp c ≡ true) where
  fit : FitsLegs n s.lsp s.legs c
  fit = facts.call c.call c found

  abbrev Decides : CallRec → Option Leg → Type 0
  Decides d o = NodeFacts n (changed s (decide s.legs d o))

  -- beside its backup, whatever was reported
  beside : (b : Leg) → leg_of c.back s.legs ≡ Some b → (works backs : List Fibre) (ticks : ℕ) →
      Decides (revised c c.state works backs c.cause ticks) (Some b)
  beside b is works backs ticks =
      let own = leg_of-own c.back s.legs b is in
      let row = backup-row n s facts c found b own.1 own.0 in
      decide-after n s facts c found b own.1 own.0 b.phase b.in_label b.out_label s.legs
      (same-leg b s.legs own.1) (leg_part n s facts) works backs c.cause ticks c.state
      (back-fits c.state (phase_of (leg_of c.work s.legs)) b.phase row)

  -- of its working LSP
  reported-work : c.work ≡ Some g.lsp → (o : Option Leg) → leg_of c.back s.legs ≡ o → (works : List Fibre) (ticks : ℕ) →
      Decides (revised c c.state works c.back_reports c.cause ticks) o
  reported-work work (Some b) is works ticks = beside b is works c.back_reports ticks
  reported-work work None is works ticks =
      let first = work-row n s.lsp s.legs c g.lsp g fit work here in
      let none : phase_of (leg_of c.back s.legs) ≡ None = ap phase_of is in
      decide-alone n s facts c found g here named works c.back_reports c.cause ticks
      (alone-reported c.state g.phase (phase_of (leg_of c.back s.legs)) (has_any c.work_reports) (has_any works)
      (has_any c.back_reports) first none fit.reports)
      (Some g.phase) (subst (Row c.state (Some g.phase)) none first)

  is-back : is_lsp c.work g.lsp ≡ false → c.back ≡ Some g.lsp
  is-back other = elim (named-by c g.lsp named) [
    | inl work ↦ (let same = is-lsp c.work g.lsp work in absurd (cc (same, other)))
    | inr back ↦ back
  ]

  reported-back : is_lsp c.work g.lsp ≡ false → (backs : List Fibre) →
      Decides (revised c c.state c.work_reports backs c.cause c.ticks) (leg_of c.back s.legs)
  reported-back other backs =
      let is : leg_of c.back s.legs ≡ Some g = ap (λ o. leg_of o s.legs) (is-back other) ∙ here in
      subst (Decides (revised c c.state c.work_reports backs c.cause c.ticks)) (sym is)
      (beside g is c.work_reports backs c.ticks)

  pub keeps-call_reported : (down : Bool) (f : Fibre) →
      NodeFacts n (changed s (call_reported s g.lsp down f (Some c)))
  keeps-call_reported down f =
      let works = fibres_after down f c.work_reports in
      let backs = fibres_after down f c.back_reports in
      if_cases (λ d. Decides d (leg_of c.back s.legs)) (is_lsp c.work g.lsp) (with_work_reports c works)
      (with_back_reports c backs)
      (λ e. reported-work (lsp-is c.work g.lsp e) (leg_of c.back s.legs) refl works (cond (has_any works) 0 c.ticks))
      (λ e. reported-back e backs)

-- Notify

module _ (p : LocalNode) (s : NodeState) (facts : NodeFacts p.id.0 s) where
  keeps-reported_on : (g : Leg) (down : Bool) (o : Option Fibre) → find_leg g.lsp s.legs ≡ Some g →
      KeepsFacts p s (reported_on s g down o)
  keeps-reported_on g down None here = facts
  keeps-reported_on g down (Some f) here = go (call_with g.lsp s.calls) refl
    where
      go : (o : Option CallRec) → call_with g.lsp s.calls ≡ o → KeepsFacts p s (call_reported s g.lsp down f o)
      go None none = facts
      go (Some c) called =
          keeps-call_reported p.id.0 s facts c (called-found g.lsp s.calls c facts.calls_rise called) g here
          (called-names g.lsp s.calls c called) down f

  keeps-passed : (m : Notice) (g : Leg) (down : Bool) (o : Option Neighbour) → find_leg g.lsp s.legs ≡ Some g →
      KeepsFacts p s (notice_passed p s m g down o)
  keeps-passed m g down None here =
      keeps-reported_on g down (fibre_into (route_from p g) g.egress m.at m.link) here
  keeps-passed m g down (Some h) here = facts

  keeps-told : (m : Notice) (g : Leg) (o : Option Bool) → find_leg g.lsp s.legs ≡ Some g →
      KeepsFacts p s (notice_told p s m g o)
  keeps-told m g None here = facts
  keeps-told m g (Some down) here = keeps-passed m g down (previous g) here

pub keeps-notify : (p : LocalNode) (s : NodeState) (u : NodeId) (m : Notice) (o : Option Leg) → NodeFacts p.id.0 s →
    find_leg m.lsp s.legs ≡ o → KeepsFacts p s (notify_with p s u m o)
keeps-notify p s u m None facts is = facts
keeps-notify p s u m (Some g) facts is =
    let here : find_leg g.lsp s.legs ≡ Some g =
    subst (λ l. find_leg l s.legs ≡ Some g) (sym (found-lsp m.lsp s.legs g is)) is in
    if_cases (KeepsFacts p s) (not (is_closing g.phase) && is_node (following g) u) _ _
    (λ e. keeps-told p s facts m g (reported m.code) here) (λ e. facts)

-- Retry

pub stuck-is : (state : CallState) → is_stuck state ≡ true → state ≡ Stuck
stuck-is Stuck e = refl
stuck-is _ e = absurd (cc e)

module _ (p : LocalNode) (s : NodeState) (facts : NodeFacts p.id.0 s) (c : CallRec)
    (found : find_call c.call s.calls ≡ Some c) (stuck : c.state ≡ Stuck) where
  standing : Row Stuck (phase_of (leg_of c.work s.legs)) (phase_of (leg_of c.back s.legs))
  standing =
      subst (λ state. Row state (phase_of (leg_of c.work s.legs)) (phase_of (leg_of c.back s.legs))) stuck
      (row c.state (phase_of (leg_of c.work s.legs)) (phase_of (leg_of c.back s.legs))
      (facts.call c.call c found).state)

  keeps-turn : (o : Option Leg) → leg_of c.back s.legs ≡ o → has_any c.work_reports ≡ true →
      KeepsFacts p s (turn s.legs c o)
  keeps-turn None is hit =
      let none : phase_of (leg_of c.back s.legs) ≡ None = ap phase_of is in
      let some = (stuck-legs (phase_of (leg_of c.work s.legs)) (phase_of (leg_of c.back s.legs)) standing).1 in
      absurd (cc (none, some))
  keeps-turn (Some b) is hit =
      let own = leg_of-own c.back s.legs b is in
      let there : phase_of (leg_of c.back s.legs) ≡ Some b.phase = ap phase_of is in
      let some = (stuck-legs (phase_of (leg_of c.work s.legs)) (phase_of (leg_of c.back s.legs)) standing).1 in
      let held : b.phase ≡ Held = cc (there, some) in
      turn-after p.id.0 s facts c found b own.1 own.0 b.phase b.in_label b.out_label s.legs
      (same-leg b s.legs own.1) (leg_part p.id.0 s facts) held c.state c.work_reports c.back_reports c.cause c.ticks hit

pub keeps-retry : (p : LocalNode) (s : NodeState) (n : CallNo) (from : NodeId) (o : Option CallRec) →
    find_call n s.calls ≡ o → NodeFacts p.id.0 s → KeepsFacts p s (retry_with p s from o)
keeps-retry p s n from None is facts = facts
keeps-retry p s n from (Some c) is facts =
    keeps-ordered p s n from c (is_stuck c.state && (has_any c.work_reports && not (has_any c.back_reports)))
    (turn s.legs c (leg_of c.back s.legs)) is facts (λ found f. keeps-turn p s facts c found
    (stuck-is c.state (and-left (is_stuck c.state) _ f)) (leg_of c.back s.legs) refl
    (and-left (has_any c.work_reports) _ (and-right (is_stuck c.state) _ f)))

-- Alarms and clears

keeps-knows : (p : LocalNode) (s : NodeState) (f : Fibre) (code : ErrCode) (fibres : List Fibre) →
    NodeFacts p.id.0 s → KeepsFacts p s (knows_down p s f code fibres)
keeps-knows p s f code fibres facts = same-facts p.id.0 s s.learnt fibres facts

pub keeps-alarm : (p : LocalNode) (s : NodeState) (f : Fibre) → NodeFacts p.id.0 s → KeepsFacts p s (on_alarm p s f)
keeps-alarm p s f facts =
    if_cases (KeepsFacts p s) (enters p f (own_link p f.link) && not (has_fibre s.down f)) _ _
    (λ e. keeps-knows p s f fibre_down_code (s.down ++ f ∷ []) facts) (λ e. facts)

pub keeps-clear : (p : LocalNode) (s : NodeState) (f : Fibre) → NodeFacts p.id.0 s → KeepsFacts p s (on_clear p s f)
keeps-clear p s f facts =
    if_cases (KeepsFacts p s) (enters p f (own_link p f.link) && has_fibre s.down f) _ _
    (λ e. keeps-knows p s f fibre_up_code (without_fibre f s.down) facts) (λ e. facts)
