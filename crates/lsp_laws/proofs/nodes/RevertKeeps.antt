-- A call that goes back, by an order, keeps the facts of a node.
use Rattle.std.proofs.{Common.{◌≡◌, ℕ, true, false, not, refl, ap, subst}, lemmas.Bool.not-true}
use Rattle.std.specs.Prelude.{◌&&◌, Option, Some, None}
use Rattle.ason_base.specs.{declared.calls.CallState.TheVariants.Turned, declared.calls.Phase.TheVariants.Live, declared.ids.CallNo.CallNo, declared.ids.NodeId.NodeId, declared.tables.CallRec.CallRec, declared.tables.Leg.Leg}
use Rattle.ason_base.proofs.Bools.{and-left, and-right}
use Rattle.mesh_rules.specs.{Calls.{find_call, is_turned}, Legs.leg_of, LocalNodes.LocalNode, Reverts.revert_with, State.NodeState, Turns.{call_put, go_back, has_any}}
use Rattle.lsp_laws.specs.CallLaw.{FitsLegs, phase_of}
use Rattle.lsp_laws.proofs.{nodes.Facts.NodeFacts, nodes.CallParts.names-back, nodes.CallTouched.same-leg, nodes.Decides.{goes_back-after, same-put}, nodes.LegEnds.leg_of-own, nodes.Parts.leg_part, nodes.PathKeeps.{KeepsFacts, keeps-ordered}, nodes.States.{Row, row, turned-legs}, hops.Ticked.turned_is}

-- A turned call whose working LSP isn't hit

module _ (p : LocalNode) (s : NodeState) (facts : NodeFacts p.id.0 s) (c : CallRec)
    (found : find_call c.call s.calls ≡ Some c)
    (waits : (is_turned c.state && not (has_any c.work_reports)) ≡ true) where
  fit : FitsLegs p.id.0 s.lsp s.legs c
  fit = facts.call c.call c found

  quiet : has_any c.work_reports ≡ false
  quiet = not-true (has_any c.work_reports) (and-right (is_turned c.state) _ waits)

  live : phase_of (leg_of c.back s.legs) ≡ Some Live
  live =
      let state : c.state ≡ Turned = turned_is c.state (and-left (is_turned c.state) _ waits) in
      let standing : Row Turned (phase_of (leg_of c.work s.legs)) (phase_of (leg_of c.back s.legs)) =
      subst (λ x. Row x (phase_of (leg_of c.work s.legs)) (phase_of (leg_of c.back s.legs))) state
      (row c.state (phase_of (leg_of c.work s.legs)) (phase_of (leg_of c.back s.legs)) fit.state) in
      (turned-legs (phase_of (leg_of c.work s.legs)) (phase_of (leg_of c.back s.legs)) standing).1

  -- it has a backup's leg
  has-leg : leg_of c.back s.legs ≡ None → ⊥
  has-leg is =
      let none : phase_of (leg_of c.back s.legs) ≡ None = ap phase_of is in
      let some = live in
      cc (none, some)

  -- it goes back
  pub keeps-go_back : (o : Option Leg) → leg_of c.back s.legs ≡ o → KeepsFacts p s (go_back c o)
  keeps-go_back None is = absurd (has-leg is)
  keeps-go_back (Some b) is =
      let own = leg_of-own c.back s.legs b is in
      let there : phase_of (leg_of c.back s.legs) ≡ Some b.phase = ap phase_of is in
      let some = live in
      let phase : b.phase ≡ Live = cc (there, some) in
      goes_back-after p.id.0 s facts c found b own.1 own.0 b.phase b.in_label b.out_label s.legs
      (same-leg b s.legs own.1) (leg_part p.id.0 s facts) phase c.state c.work_reports c.back_reports c.cause c.ticks
      quiet

  -- or waits
  pub keeps-waiting : (ticks : ℕ) (o : Option Leg) → leg_of c.back s.legs ≡ o →
      KeepsFacts p s (call_put (record c { ticks = ticks }))
  keeps-waiting ticks None is = absurd (has-leg is)
  keeps-waiting ticks (Some b) is =
      let own = leg_of-own c.back s.legs b is in
      same-put p.id.0 s facts c found b own.1 (names-back c b.lsp own.0) c.work_reports c.back_reports c.cause ticks
      fit.reports

-- The order

pub keeps-revert : (p : LocalNode) (s : NodeState) (n : CallNo) (from : NodeId) (o : Option CallRec) →
    find_call n s.calls ≡ o → NodeFacts p.id.0 s → KeepsFacts p s (revert_with p s from o)
keeps-revert p s n from None is facts = facts
keeps-revert p s n from (Some c) is facts =
    keeps-ordered p s n from c _ _ is facts
    (λ found f. keeps-go_back p s facts c found f (leg_of c.back s.legs) refl)
