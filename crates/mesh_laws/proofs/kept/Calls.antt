-- What is decided of a call leaves its legs but for their phases, and each is up.
use Rattle.std.proofs.Common.{Bool, true, false, List, refl}
use Rattle.std.specs.{Prelude.{Option, Some, None}, List.AllByRecursion}
use Rattle.ason_base.specs.{Codes.busy_code, declared.calls.CallState.CallState, declared.calls.CallState.TheVariants.{Asking, Bare, Blocked, Guarded, Pairing, Stuck, Turned, Turning}, declared.calls.Cause.TheVariants.Code, declared.messages.PathRole.PathRole, declared.tables.CallRec.CallRec, declared.tables.Leg.Leg}
use Rattle.mesh_rules.specs.{declared.neighbours.Neighbour.Neighbour, Activations.taken_on, Calls.{is_turning, stuck, turned}, CallSteps.{call_contended, call_turned}, Changes.nothing, Legs.{following, is_contended, is_held, is_in_use}, State.NodeState, Turns.{activating, arms, call_put, decide, decided, disarms, go_back, has_any, taking_back, turn, turn_to}}
use Rattle.mesh_nodes.proofs.Cases.{if_cases}
use Rattle.mesh_laws.proofs.kept.Phases.{IsHere, IsHereToo, Kept, OutKept, kept-nothing}

module _ (legs : List Leg) where
  -- a call alone changes
  pub kept-call : (c : CallRec) → Kept legs (call_put c)
  kept-call c = record { legs = tt; sent = tt }

  -- a Path of the backup to the next node, if there is one
  path-kept : (b : Leg) (r : PathRole) (h : Option Neighbour) → AllByRecursion OutKept (taken_on b b.route r h)
  path-kept b r None = tt
  path-kept b r (Some h) = (tt, tt)

  arms-kept : (c : CallRec) (b : Leg) → IsHere legs b → Kept legs (arms c b)
  arms-kept c b here =
      record { legs = ((refl, here), tt); sent = path-kept b (activating b.path_role) (following b) }

  -- a call that turns arms its backup's leg; the rule read these legs
  pub turn-kept : (read : List Leg) (c : CallRec) (b : Option Leg) → IsHereToo legs b → Kept legs (turn read c b)
  turn-kept read c None here = kept-call c
  turn-kept read c (Some b) here =
      if_cases (Kept legs) (is_held b.phase) (turn_to read c b) (call_put c)
      (λ e. if_cases (Kept legs) (is_contended read b) (call_put (stuck c (Code busy_code))) (arms c b)
      (λ busy. kept-call (stuck c (Code busy_code))) (λ free. arms-kept c b here))
      (λ e. kept-call c)

  disarms-kept : (c : CallRec) (b : Leg) → IsHere legs b → Kept legs (disarms c b)
  disarms-kept c b here =
      record { legs = ((refl, here), tt); sent = path-kept b (taking_back b.path_role) (following b) }

  -- a call that goes back makes it Held again
  pub go_back-kept : (c : CallRec) (b : Option Leg) → IsHereToo legs b → Kept legs (go_back c b)
  go_back-kept c None here = kept-call c
  go_back-kept c (Some b) here =
      if_cases (Kept legs) (is_in_use b.phase) (disarms c b) (call_put c) (λ e. disarms-kept c b here)
      (λ e. kept-call c)

  decided-kept : (read : List Leg) (c : CallRec) (b : Option Leg) (state : CallState) (works backs : Bool) →
      IsHereToo legs b → Kept legs (decided read c b state works backs)
  decided-kept read c b Guarded true false here = turn-kept read c b here
  decided-kept read c b Guarded true true here = kept-call _
  decided-kept read c b Guarded false backs here = kept-call c
  decided-kept read c b Stuck false backs here = kept-call _
  decided-kept read c b Stuck true backs here = kept-call c
  decided-kept read c b Turned false true here = go_back-kept c b here
  decided-kept read c b Turned false false here = kept-call c
  decided-kept read c b Turned true backs here = kept-call c
  decided-kept read c b Asking works backs here = kept-call c
  decided-kept read c b Bare works backs here = kept-call c
  decided-kept read c b Blocked works backs here = kept-call c
  decided-kept read c b Pairing works backs here = kept-call c
  decided-kept read c b Turning works backs here = kept-call c

  -- what becomes of it is told by its state and its reports; the leg of its backup stands
  pub decide-kept : (read : List Leg) (c : CallRec) (b : Option Leg) → IsHereToo legs b →
      Kept legs (decide read c b)
  decide-kept read c b here = decided-kept read c b c.state (has_any c.work_reports) (has_any c.back_reports) here

  -- the call of a backup that is confirmed
  pub call_turned-kept : (s : NodeState) (b : Leg) (c : Option CallRec) → IsHere legs b → Kept legs (call_turned s b c)
  call_turned-kept s b None here = kept-nothing legs
  call_turned-kept s b (Some c) here =
      if_cases (Kept legs) (is_turning c.state) (decide s.legs (turned c) (Some b)) nothing
      (λ e. decide-kept s.legs (turned c) (Some b) here) (λ e. kept-nothing legs)

  -- the call of a backup that is refused
  pub call_contended-kept : (s : NodeState) (b : Leg) (c : Option CallRec) → IsHere legs b →
      Kept legs (call_contended s b c)
  call_contended-kept s b None here = kept-nothing legs
  call_contended-kept s b (Some c) here =
      if_cases (Kept legs) (is_turning c.state) (decide s.legs (stuck c (Code busy_code)) (Some b)) nothing
      (λ e. decide-kept s.legs (stuck c (Code busy_code)) (Some b) here) (λ e. kept-nothing legs)
