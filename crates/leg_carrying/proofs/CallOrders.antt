-- What a report, an order to try again or to go back, and a tick do at an ingress leaves each leg its labels, and marks
-- a leg just where it isn't contended.
use Rattle.std.proofs.{Common.{Bool, not, nat_eq, nat_le, List, [], ◌∷◌, ◌+◌}, ByRecursion.All-append}
use Rattle.std.specs.{Prelude.{◌&&◌, Option, Some, None}, List.AllByRecursion}
use Rattle.ason_base.specs.{declared.ids.Fibre.Fibre, declared.ids.Lsp.Lsp, declared.ids.NodeId.NodeId, declared.tables.CallRec.CallRec, declared.tables.Leg.Leg}
use Rattle.mesh_rules.specs.{Calls.{call_with, is_stuck, is_turned}, Changes.Answer, Legs.leg_of, LocalNodes.LocalNode, Reports.{call_reported, reported_on, with_report}, Retries.{retries, retry_with}, Reverts.revert_with, State.NodeState, Turns.{go_back, has_any}, Waits.{all_ticked, on_tick, call_ticked}}
use Rattle.mesh_nodes.specs.{FitNodes.LegFits, LocalNodes.LocalNodeFits}
use Rattle.mesh_nodes.proofs.Cases.{if_cases}
use Rattle.leg_carrying.proofs.{CallLegs.{CalmLegs, back-turns, decide-calm, go_back-rests, turn-calm}, MayPut.found-stays, Rests.{RestsUnmarked, rests-calm}}

-- Reports and orders to try again

module _ (p : LocalNode) (s : NodeState) (links : LocalNodeFits p)
    (each : AllByRecursion (LegFits p s.lsp) s.legs) where
  called-calm : (l : Lsp) (down : Bool) (f : Fibre) (o : Option CallRec) →
      CalmLegs p s.legs (call_reported s l down f o)
  called-calm l down f None = (tt, tt)
  called-calm l down f (Some c) =
      decide-calm p s.legs s.legs (with_report c l down f) (leg_of c.back s.legs)
      (back-turns p s.lsp s.legs c.back links each)

  pub reported-calm : (g : Leg) (down : Bool) (o : Option Fibre) → CalmLegs p s.legs (reported_on s g down o)
  reported-calm g down None = (tt, tt)
  reported-calm g down (Some f) = called-calm g.lsp down f (call_with g.lsp s.calls)

  retries-calm : (c : CallRec) → CalmLegs p s.legs (retries s c)
  retries-calm c =
      if_cases (CalmLegs p s.legs) (is_stuck c.state && (has_any c.work_reports && not (has_any c.back_reports))) _ _
      (λ e. turn-calm p s.legs s.legs c (leg_of c.back s.legs) (back-turns p s.lsp s.legs c.back links each))
      (λ e. (tt, tt))

  pub retry-calm : (from : NodeId) (o : Option CallRec) → CalmLegs p s.legs (retry_with p s from o)
  retry-calm from None = (tt, tt)
  retry-calm from (Some c) =
      if_cases (CalmLegs p s.legs) (nat_eq from.0 p.id.0) _ _ (λ e. retries-calm c) (λ e. (tt, tt))

-- Going back

module _ (p : LocalNode) (s : NodeState) where
  abbrev Resting : Answer → Type 0
  Resting a = AllByRecursion (RestsUnmarked s.legs) a.legs

  back-rests : (c : CallRec) → Resting (go_back c (leg_of c.back s.legs))
  back-rests c = go_back-rests s.legs c (leg_of c.back s.legs) (found-stays s.legs c.back)

  pub revert-calm : (from : NodeId) (o : Option CallRec) → CalmLegs p s.legs (revert_with p s from o)
  revert-calm from o = rests-calm p s.legs (revert_with p s from o).legs (go o)
    where
      go : (o : Option CallRec) → Resting (revert_with p s from o)
      go None = tt
      go (Some c) =
          if_cases Resting (nat_eq from.0 p.id.0) _ _
          (λ e. if_cases Resting (is_turned c.state && not (has_any c.work_reports)) _ _ (λ e. back-rests c) (λ e. tt))
          (λ e. tt)

  -- Ticks

  ticked-rests : (c : CallRec) → Resting (call_ticked p.wait s.legs c)
  ticked-rests c =
      if_cases Resting (not (nat_eq p.wait 0) && (is_turned c.state && not (has_any c.work_reports))) _ _
      (λ e. if_cases Resting (nat_le p.wait (c.ticks + 1)) _ _ (λ e. back-rests c) (λ e. tt)) (λ e. tt)

  all_ticked-rests : (cs : List CallRec) → Resting (all_ticked p.wait s.legs cs)
  all_ticked-rests [] = tt
  all_ticked-rests (c ∷ cs) =
      All-append (RestsUnmarked s.legs) (call_ticked p.wait s.legs c).legs (all_ticked p.wait s.legs cs).legs
      (ticked-rests c)
      (all_ticked-rests cs)

  pub tick-calm : CalmLegs p s.legs (on_tick p s)
  tick-calm = rests-calm p s.legs (on_tick p s).legs (all_ticked-rests s.calls)
