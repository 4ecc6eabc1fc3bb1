-- A call turns to its backup where its working LSP is hit, as far as the backup isn't (ITU-T G.8080, call control; RFC 4872,
-- section 8). legs are those of the node; b is the leg of the call's backup, which begins here.
use Rattle.std.specs.Prelude.{Bool, true, false, List, [], ◌∷◌, Option, Some, None, if◌then◌else◌}
use Rattle.ason_base.specs.{declared.ids.Fibre.Fibre, declared.calls.CallState.CallState, declared.calls.CallState.TheVariants.{Guarded, Stuck, Turned}, Codes.busy_code, declared.calls.Cause.TheVariants.{BackDown, Code}, declared.calls.Phase.TheVariants.{Armed, Held}, declared.messages.PathRole.PathRole, declared.messages.PathRole.TheVariants.{Work, Back}, declared.tables.CallRec.CallRec, declared.tables.Leg.Leg, declared.tables.Out.Out}
use Rattle.mesh_rules.specs.declared.changes.CallChange.TheVariants as call
use Rattle.mesh_rules.specs.declared.changes.LegChange.TheVariants as leg
use Rattle.mesh_rules.specs.{declared.neighbours.Neighbour.Neighbour, Activations.path_to, Calls.{guarded, stuck, turning}, Changes.{Answer, nothing, changes_calls}, Legs.{following, is_contended, is_held, is_in_use, with_phase}}

abbrev pub call_put : CallRec → Answer
call_put c = changes_calls (call.Put c ∷ [])

-- Turning

-- the role of a Path that activates
abbrev pub activating : PathRole → PathRole
activating (Work guard) = Work guard
activating (Back active work primary) = Back true work primary

-- the Path that activates goes to the next node
abbrev pub activating_path : Leg → Option Neighbour → List Out
activating_path b None = []
activating_path b (Some h) = path_to b b.route (activating b.path_role) h ∷ []

-- the backup is Armed here, and its Path goes out to activate it
abbrev pub arms : CallRec → Leg → Answer
arms c b = record nothing {
  legs = leg.Put (with_phase Armed b) ∷ [];
  calls = call.Put (turning c) ∷ [];
  sent = activating_path b (following b);
}

-- the backup is activated where no label of it is in use; else the call is stuck at once
abbrev pub turn_to : List Leg → CallRec → Leg → Answer
turn_to legs c b = if is_contended legs b then call_put (stuck c (Code busy_code)) else arms c b

-- a backup that isn't Held can't be activated
abbrev pub turn : List Leg → CallRec → Option Leg → Answer
turn legs c None = call_put c
turn legs c (Some b) = if is_held b.phase then turn_to legs c b else call_put c

-- Going back

-- the role of a Path that takes an activation back
abbrev pub taking_back : PathRole → PathRole
taking_back (Work guard) = Work guard
taking_back (Back active work primary) = Back false work primary

abbrev pub taking_path : Leg → Option Neighbour → List Out
taking_path b None = []
taking_path b (Some h) = path_to b b.route (taking_back b.path_role) h ∷ []

-- the backup is Held here, and its Path goes out to take the activation back; nothing is decided then, since there are no
-- working reports
abbrev pub disarms : CallRec → Leg → Answer
disarms c b = record nothing {
  legs = leg.Put (with_phase Held b) ∷ [];
  calls = call.Put (guarded c) ∷ [];
  sent = taking_path b (following b);
}

-- a backup that isn't in use can't be left
abbrev pub go_back : CallRec → Option Leg → Answer
go_back c None = call_put c
go_back c (Some b) = if is_in_use b.phase then disarms c b else call_put c

-- Decisions

abbrev pub has_any : List Fibre → Bool
has_any [] = false
has_any (f ∷ fibres) = true

-- by the call's state, whether fibres of its working LSP are reported down, and whether fibres of its backup are
abbrev pub decided : List Leg → CallRec → Option Leg → CallState → Bool → Bool → Answer
decided legs c b Guarded true false = turn legs c b
decided legs c b Guarded true true = call_put (stuck c BackDown)
decided legs c b Turned false true = go_back c b
decided legs c b Stuck false backs = call_put (guarded c)
decided legs c b state works backs = call_put c

abbrev pub decide : List Leg → CallRec → Option Leg → Answer
decide legs c b = decided legs c b c.state (has_any c.work_reports) (has_any c.back_reports)
