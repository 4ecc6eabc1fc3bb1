-- A tick keeps the facts of a node: the calls wait or go back one after the other, each by the legs that
-- stood before the
-- tick, since no two calls share an LSP.
use Rattle.std.proofs.Common.{◌≡◌, ◌<◌, ◌+◌, ℕ, false, not, nat_eq, nat_le, List, [], ◌∷◌, refl, sym, subst, ◌∙◌, arith}
use Rattle.std.specs.{Prelude.{◌&&◌, Option, Some, None}, List.AllByRecursion}
use Rattle.ason_base.specs.{declared.calls.Phase.TheVariants.Held, declared.tables.CallRec.CallRec, declared.tables.Leg.Leg}
use Rattle.ason_base.proofs.Bools.{and-right}
use Rattle.mesh_rules.specs.{Calls.{find_call, is_turned, with_call}, Changes.{Answer, changed}, Legs.{is_in_use, leg_of, with_leg, with_phase}, LocalNodes.LocalNode, State.NodeState, Turns.{go_back, has_any}, Waits.{all_ticked, on_tick, call_ticked}}
use Rattle.mesh_nodes.specs.Order.{CallsRise}
use Rattle.mesh_nodes.proofs.{Cases.if_cases, CallList.{all-calls_found, find-with_call, found-number}, LegList.find-with_leg}
use Rattle.lsp_laws.proofs.{hops.FollowedBy.changed-then, nodes.Facts.NodeFacts, nodes.CallParts.{leg_of-stays, names-back, other-stays}, nodes.CallTouched.of-no-other, nodes.LegEnds.leg_of-own, nodes.PathKeeps.KeepsFacts, nodes.RevertKeeps.{keeps-go_back, keeps-waiting}}

-- One call

module _ (p : LocalNode) (s : NodeState) (facts : NodeFacts p.id.0 s) (c : CallRec)
    (found : find_call c.call s.calls ≡ Some c) where
  keeps-ticked : KeepsFacts p s (call_ticked p.wait s.legs c)
  keeps-ticked =
      if_cases (KeepsFacts p s) (not (nat_eq p.wait 0) && (is_turned c.state && not (has_any c.work_reports))) _ _
      (λ e.
      let waits = and-right (not (nat_eq p.wait 0)) _ e in
      if_cases (KeepsFacts p s) (nat_le p.wait (c.ticks + 1)) _ _
      (λ f. keeps-go_back p s facts c found waits (leg_of c.back s.legs) refl)
      (λ f. keeps-waiting p s facts c found waits (c.ticks + 1) (leg_of c.back s.legs) refl))
      (λ e. facts)

  -- another call, and the leg of its backup, stay as they are
  module _ (d : CallRec) (there : find_call d.call s.calls ≡ Some d) (other : nat_eq c.call.0 d.call.0 ≡ false) where
    abbrev Spares : Answer → Type 0
    Spares a =
        (find_call d.call (changed s a).calls ≡ Some d) × (leg_of d.back (changed s a).legs ≡ leg_of d.back s.legs)

    call-spared : (e : CallRec) → e.call ≡ c.call → find_call d.call (with_call e s.calls) ≡ Some d
    call-spared e number =
        let apart : nat_eq e.call.0 d.call.0 ≡ false = rw number other in
        find-with_call e s.calls d.call ∙ rw apart there

    leg-spared : (b : Leg) → leg_of c.back s.legs ≡ Some b →
        leg_of d.back (with_leg (with_phase Held b) s.legs) ≡ leg_of d.back s.legs
    leg-spared b is =
        let mine = names-back c b.lsp (leg_of-own c.back s.legs b is).0 in
        leg_of-stays d.back s.legs (with_leg (with_phase Held b) s.legs)
        (λ m has. other-stays b.lsp m (Some (with_phase Held b)) s.legs (with_leg (with_phase Held b) s.legs)
        (find-with_leg (with_phase Held b) s.legs)
        (of-no-other p.id.0 s facts c found b.lsp mine d.call d m other there (names-back d m has)))

    go_back-spares : (o : Option Leg) → leg_of c.back s.legs ≡ o → Spares (go_back c o)
    go_back-spares None is = (call-spared c refl, refl)
    go_back-spares (Some b) is =
        if_cases Spares (is_in_use b.phase) _ _ (λ e. (call-spared _ refl, leg-spared b is))
        (λ e. (call-spared c refl, refl))

    ticked-spares : Spares (call_ticked p.wait s.legs c)
    ticked-spares =
        if_cases Spares (not (nat_eq p.wait 0) && (is_turned c.state && not (has_any c.work_reports))) _ _
        (λ e. if_cases Spares (nat_le p.wait (c.ticks + 1)) _ _ (λ f. go_back-spares (leg_of c.back s.legs) refl)
        (λ f. (call-spared (record c { ticks = c.ticks + 1 }) refl, refl)))
        (λ e. (there, refl))

-- All calls

-- a tick at a call reads no more than the leg of its backup
ticked-by : (wait : ℕ) (legs legs' : List Leg) (c : CallRec) → leg_of c.back legs ≡ leg_of c.back legs' →
    call_ticked wait legs c ≡ call_ticked wait legs' c
ticked-by wait legs legs' c same = rw same refl

-- these legs stood before the tick
module _ (p : LocalNode) (legs : List Leg) where
  -- a call to which the tick hasn't come is as it was, and so is the leg of its backup
  abbrev IsStill : NodeState → CallRec → Type 0
  IsStill s c = (find_call c.call s.calls ≡ Some c) × (leg_of c.back s.legs ≡ leg_of c.back legs)

  still-after : (s : NodeState) (facts : NodeFacts p.id.0 s) (c : CallRec) → IsStill s c → (calls : List CallRec) →
      AllByRecursion (λ d. c.call.0 < d.call.0) calls → AllByRecursion (IsStill s) calls →
      AllByRecursion (IsStill (changed s (call_ticked p.wait s.legs c))) calls
  still-after s facts c here [] above still = tt
  still-after s facts c here (d ∷ calls) above still =
      let less : c.call.0 < d.call.0 = above.0 in
      let other : nat_eq c.call.0 d.call.0 ≡ false = grind arith in
      let spared = ticked-spares p s facts c here.0 d still.0.0 other in
      ((spared.0, spared.1 ∙ still.0.1), still-after s facts c here calls above.1 still.1)

  keeps-all_ticked : (s : NodeState) (calls : List CallRec) → NodeFacts p.id.0 s → CallsRise calls →
      AllByRecursion (IsStill s) calls → KeepsFacts p s (all_ticked p.wait legs calls)
  keeps-all_ticked s [] facts rise still = facts
  keeps-all_ticked s (c ∷ calls) facts rise still =
      subst (NodeFacts p.id.0) (sym (changed-then s (call_ticked p.wait legs c) (all_ticked p.wait legs calls)))
      (subst (λ a. NodeFacts p.id.0 (changed (changed s a) (all_ticked p.wait legs calls)))
      (ticked-by p.wait s.legs legs c still.0.1)
      (keeps-all_ticked (changed s (call_ticked p.wait s.legs c)) calls (keeps-ticked p s facts c still.0.0) rise.1
      (still-after s facts c still.0 calls rise.0 still.1)))

pub keeps-tick : (p : LocalNode) (s : NodeState) → NodeFacts p.id.0 s → KeepsFacts p s (on_tick p s)
keeps-tick p s facts =
    keeps-all_ticked p s.legs s s.calls facts facts.calls_rise
    (all-calls_found (IsStill p s.legs s) s.calls facts.calls_rise
    (λ k c found. (subst (λ m. find_call m s.calls ≡ Some c) (sym (found-number k s.calls c found)) found, refl)))
