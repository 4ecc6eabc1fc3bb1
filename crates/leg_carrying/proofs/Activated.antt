-- A leg that gets into use, or out of it: it stands, keeps its labels, and is marked just where it isn't contended or
-- was marked.
use Rattle.std.proofs.Common.{◌≡◌, ℕ, true, false, List, refl}
use Rattle.std.specs.Prelude.{◌&&◌, Option, Some, None}
use Rattle.ason_base.specs.{declared.calls.Phase.Phase, declared.messages.Msg.Msg, declared.messages.PathRole.PathRole, declared.tables.Leg.Leg, declared.steps.Step.Step}
use Rattle.ason_base.specs.declared.calls.Phase.TheVariants as phase
use Rattle.ason_base.specs.declared.messages.PathRole.TheVariants as role
use Rattle.ason_base.proofs.Bools.{and-left}
use Rattle.mesh_rules.specs.{declared.arrivals.Arrival.Arrival, declared.neighbours.Neighbour.Neighbour, ActivationAnswers.{confirmed, contended, disarmed, is_confirmed, resv_again}, Activations.{armed_on, path_again}, Calls.call_with, Legs.{find_leg, following, is_active_backup, is_armed, is_contended, is_held, is_over, previous, with_leg, with_phase}, LocalNodes.LocalNode, State.NodeState}
use Rattle.mesh_nodes.proofs.Cases.{if_cases}
use Rattle.leg_table.specs.LegClaims.{MayMark, OverOwnFibres, StaysAs, is_own_fibre}
use Rattle.leg_carrying.proofs.{CallLegs.{CalmLegs, MayTurnLeg, put-turns, turned-calm}, MayMark.{alone-marks, dark, live-marks, plain}, MayPut.{itself, phase-stays}}
use Rattle.leg_carrying.proofs.CallLegs as calls

module _ (p : LocalNode) (s : NodeState) (g : Leg) (over : OverOwnFibres p g)
    (there : find_leg g.lsp s.legs ≡ Some g) where
  put : (q : Phase) → StaysAs s.legs (with_phase q g)
  put q = phase-stays s.legs g q (itself s.legs g there)

  held-marks : MayMark (is_own_fibre p) s.legs (with_phase phase.Held g)
  held-marks = dark (is_own_fibre p) s.legs (with_phase phase.Held g) (plain (with_phase phase.Held g) refl)

  -- A Path

  free-marks : (q : Phase) → is_contended s.legs g ≡ false → MayMark (is_own_fibre p) s.legs (with_phase q g)
  free-marks q free = alone-marks (is_own_fibre p) s.legs g q over free

  armed_on-calm : (route : List Step) (r : PathRole) (o : Option Neighbour) → is_contended s.legs g ≡ false →
      CalmLegs p s.legs (armed_on g route r o)
  armed_on-calm route r None free = ((put phase.Live, tt), (free-marks phase.Live free, tt))
  armed_on-calm route r (Some h) free = ((put phase.Armed, tt), (free-marks phase.Armed free, tt))

  pub path_again-calm : (a : Arrival) (route : List Step) (r : PathRole) →
      CalmLegs p s.legs (path_again p s a route r g)
  path_again-calm a route (role.Work guard) = (tt, tt)
  path_again-calm a route (role.Back false work primary) =
      if_cases (CalmLegs p s.legs) (is_active_backup g && is_over (previous g) a.from a.link) _ _
      (λ e. ((put phase.Held, tt), (held-marks, tt))) (λ e. (tt, tt))
  path_again-calm a route (role.Back true work primary) =
      if_cases (CalmLegs p s.legs) (is_held g.phase && is_over (previous g) a.from a.link) _ _
      (λ e. if_cases (CalmLegs p s.legs) (is_contended s.legs g) _ _ (λ busy. (tt, tt))
      (armed_on-calm route (role.Back true work primary) (following g)))
      (λ e. (tt, tt))

  -- A Resv, or a PathErr that doesn't remove the leg

  turns : (q : Phase) → MayTurnLeg p s.legs (with_leg (with_phase q g) s.legs) (with_phase q g)
  turns q = put-turns p s.legs (with_phase q g) (λ f x e. over f x e)

  pub confirmed-calm : (o : Option Neighbour) → is_armed g.phase ≡ true → CalmLegs p s.legs (confirmed s g o)
  confirmed-calm None armed =
      let live = with_phase phase.Live g in
      let calm = turned-calm p s (with_leg live s.legs) live (call_with g.lsp s.calls) (turns phase.Live) in
      ((put phase.Live, calm.0), (live-marks (is_own_fibre p) s.legs g there armed, calm.1))
  confirmed-calm (Some h) armed =
      ((put phase.Live, tt), (live-marks (is_own_fibre p) s.legs g there armed, tt))

  pub resv_again-calm : (a : Arrival) (x : ℕ) → CalmLegs p s.legs (resv_again s a x g)
  resv_again-calm a x =
      if_cases (CalmLegs p s.legs) (is_confirmed a x g) _ _
      (λ e. confirmed-calm (previous g) (and-left (is_armed g.phase) _ e)) (λ e. (tt, tt))

  disarmed-calm : (m : Msg) (o : Option Neighbour) → CalmLegs p s.legs (disarmed s g m o)
  disarmed-calm m None =
      let held = with_phase phase.Held g in
      let calm = calls.contended-calm p s (with_leg held s.legs) held (call_with g.lsp s.calls) (turns phase.Held) in
      ((put phase.Held, calm.0), (held-marks, calm.1))
  disarmed-calm m (Some h) = ((put phase.Held, tt), (held-marks, tt))

  pub contended-calm : (m : Msg) → CalmLegs p s.legs (contended s g m)
  contended-calm m =
      if_cases (CalmLegs p s.legs) (is_armed g.phase) _ _ (λ e. disarmed-calm m (previous g)) (λ e. (tt, tt))
