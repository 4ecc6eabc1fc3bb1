-- The text of a command: the words of the script line that posts it, with single spaces between them.
use Rattle.std.specs.Prelude.{ℕ, Bool, List, [], ◌++◌, codes, Option, Some, None, if◌then◌else◌}
use Rattle.ason_base.specs.{declared.commands.Command.Command, declared.commands.Group.Group, declared.commands.Command.TheVariants.{Setup, Release, Protect, Retry, Revert, Fail, Repair}, declared.ids.CallNo.CallNo, declared.ids.NodeId.NodeId, declared.steps.Step.Step}
use Rattle.plan_reader.specs.declared.plan.Plan.{Plan}
use Rattle.table_text.specs.{RouteText.links_text, SurveyText.group_text, TableText.{call_name, node_name}}

-- `WORD NAME`
abbrev pub of_call : Plan → List ℕ → CallNo → List ℕ
of_call p word n = word ++ codes " " ++ call_name p n

-- `setup NAME FROM TO`
abbrev pub setup_ends : Plan → CallNo → NodeId → NodeId → List ℕ
setup_ends p n from to = codes "setup " ++ call_name p n ++ codes " " ++ node_name p from ++ codes " " ++ node_name p to

-- ` unprotected` where no backup is asked for
abbrev pub protection : Bool → List ℕ
protection protected = if protected then [] else codes " unprotected"

-- ` both` where the call is two-way
abbrev pub directions : Bool → List ℕ
directions both = if both then codes " both" else []

-- the word and the links of a route that is given, each with a space in front
abbrev pub route_after : List ℕ → Option (List Step) → List ℕ
route_after word None = []
route_after word (Some steps) = codes " " ++ word ++ codes " " ++ links_text steps

-- ` via L,.. backup L,..`, each where it is given
abbrev pub routes_given : Option (List Step) → Option (List Step) → List ℕ
routes_given via backup = route_after (codes "via") via ++ route_after (codes "backup") backup

-- what a setup says behind its ends
abbrev pub setup_way : Bool → Bool → Option (List Step) → Option (List Step) → List ℕ
setup_way protected both via backup = protection protected ++ directions both ++ routes_given via backup

-- a word and a group
abbrev pub of_group : List ℕ → Group → List ℕ
of_group word g = word ++ group_text g

-- the words of the line
abbrev pub command_text : Plan → Command → List ℕ
command_text p (Setup n from to protected both via backup) =
    setup_ends p n from to ++ protection protected ++ directions both ++ routes_given via backup
command_text p (Release n from) = of_call p (codes "release") n
command_text p (Protect n from) = of_call p (codes "protect") n
command_text p (Retry n from) = of_call p (codes "retry") n
command_text p (Revert n from) = of_call p (codes "revert") n
command_text p (Fail g) = codes "fail " ++ group_text g
command_text p (Repair g) = codes "repair " ++ group_text g
