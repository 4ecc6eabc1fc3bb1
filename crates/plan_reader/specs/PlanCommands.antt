-- The commands of a script other than setups: what each says or its first fault.
use Rattle.std.specs.Prelude.{ℕ, not, List, Option, Some, None, Result, Ok, Err, codes, if◌then◌else◌}
use Rattle.ason_base.specs.{Network.Network, declared.ids.CallNo.CallNo, declared.ids.NodeId.NodeId, declared.commands.Command.Command, declared.commands.Group.Group, declared.commands.Group.TheVariants.{Srlg, Link}}
use Rattle.ason_base.specs.declared.commands.Command.TheVariants as commands
use Rattle.mesh_rules.specs.Commands.{is_group}
use Rattle.plan_reader.specs.{declared.faults.PlanKind.PlanKind, declared.forms.CommandForm.CommandForm, declared.forms.CommandForm.TheVariants.{Release, Protect, Retry, Revert, Fail, Repair}, declared.limits.TheConstants.MOST_NUMBER, Entries.and_then, Names.is_name, PlanCalls.{CallList, call_named}, PlanForms.is_word, PlanTexts.{word_up_to, word_at}}
use Rattle.plan_reader.specs.declared.faults.PlanKind.TheVariants as kinds

-- Calls

abbrev pub known_call : Option (ℕ × NodeId) → Result (CallNo × NodeId) PlanKind
known_call None = Err kinds.Call
known_call (Some call) = Ok (record { 0 = call.0 }, call.1)

-- the call that a command names, with its ingress, or the first fault
abbrev pub call_of : CallList → List (List ℕ) → Result (CallNo × NodeId) PlanKind
call_of calls ws =
    if not (is_name (word_at ws 1)) then Err kinds.Name else known_call (call_named calls (word_at ws 1))

-- Groups

abbrev pub group_numbered : List (List ℕ) → ℕ → Group
group_numbered ws n = if is_word ws 1 (codes "srlg") then Srlg n else Link (record { 0 = n })

abbrev pub known_group : Network → Group → Result Group PlanKind
known_group t g = if not (is_group t g) then Err kinds.Group else Ok g

abbrev pub group_with : Network → List (List ℕ) → Option ℕ → Result Group PlanKind
group_with t ws None = Err kinds.Range
group_with t ws (Some n) = known_group t (group_numbered ws n)

-- the group that a line names, or the first fault
abbrev pub group_of : Network → List (List ℕ) → Result Group PlanKind
group_of t ws = group_with t ws (word_up_to MOST_NUMBER (word_at ws 2))

-- Commands

-- a command of this form, or its first fault
abbrev pub plan_command : Network → CallList → List (List ℕ) → CommandForm → Result Command PlanKind
plan_command t calls ws Release = and_then (call_of calls ws) (λ call. Ok (commands.Release call.0 call.1))
plan_command t calls ws Protect = and_then (call_of calls ws) (λ call. Ok (commands.Protect call.0 call.1))
plan_command t calls ws Retry = and_then (call_of calls ws) (λ call. Ok (commands.Retry call.0 call.1))
plan_command t calls ws Revert = and_then (call_of calls ws) (λ call. Ok (commands.Revert call.0 call.1))
plan_command t calls ws Fail = and_then (group_of t ws) (λ g. Ok (commands.Fail g))
plan_command t calls ws Repair = and_then (group_of t ws) (λ g. Ok (commands.Repair g))
