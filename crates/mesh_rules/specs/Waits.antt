-- Ticks: a turned call whose working LSP isn't hit waits to be restored, and goes back at the end of the wait (ITU-T G.808.1,
-- wait to restore). p is the node; s is what it keeps.
use Rattle.std.specs.Prelude.{ℕ, ◌+◌, ◌==◌, ◌&&◌, nat_le, not, List, [], ◌∷◌, if◌then◌else◌}
use Rattle.ason_base.specs.{declared.tables.CallRec.CallRec, declared.tables.Leg.Leg}
use Rattle.mesh_rules.specs.{State.NodeState, Calls.is_turned, Changes.{Answer, followed_by, nothing}, Legs.leg_of, LocalNodes.LocalNode, Turns.{call_put, go_back, has_any}}

-- one tick more, of so many
abbrev pub waits : ℕ → List Leg → CallRec → Answer
waits wait legs c =
    if nat_le wait (c.ticks + 1) then go_back c (leg_of c.back legs) else call_put (record c { ticks = c.ticks + 1 })

-- where the network has no wait no call goes back by itself
abbrev pub call_ticked : ℕ → List Leg → CallRec → Answer
call_ticked wait legs c =
    if not (wait == 0) && (is_turned c.state && not (has_any c.work_reports)) then waits wait legs c else nothing

-- the calls in order of number; each reads the legs that stood before the tick, since no two calls share an LSP
abbrev pub all_ticked : ℕ → List Leg → List CallRec → Answer
all_ticked wait legs [] = nothing
all_ticked wait legs (c ∷ calls) = followed_by (call_ticked wait legs c) (all_ticked wait legs calls)

abbrev pub on_tick : LocalNode → NodeState → Answer
on_tick p s = all_ticked p.wait s.legs s.calls
