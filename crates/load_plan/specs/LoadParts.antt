-- A generated plan, and the further parts of its script.
use Rattle.std.specs.Prelude.{ℕ, List, [], ◌∷◌, if◌then◌else◌}
use Rattle.ason_base.specs.{Network.Network, declared.commands.Command.Command, declared.commands.Command.TheVariants.{Fail, Repair}, declared.commands.Group.Group, declared.commands.Group.TheVariants.Srlg, declared.ids.CallNo.CallNo}
use Rattle.mesh_rules.specs.Commands.{is_group}
use Rattle.plan_reader.specs.{Plans.ArePostable, declared.lines.Line.Line, declared.lines.Line.TheVariants.{Post, Settle, Wait}, declared.plan.Plan.Plan}
use Rattle.load_plan.specs.{Names.names_from, Networks.{after_network, drawn_network}, Setups.setups_from, declared.names.Named.TheVariants.{Node, Call}, declared.parts.LoadParts.LoadParts}

-- the network, its names, and the lines that set all calls up
abbrev pub load_plan_of : ℕ → ℕ → ℕ → Plan
load_plan_of seed n calls = record {
  topology = drawn_network n seed;
  node_names = names_from Node 0 n;
  call_names = names_from Call 0 calls;
  lines = setups_from n calls 0 calls (after_network n seed);
}

-- the group that fails and is repaired
abbrev pub first_group : Group
first_group = Srlg 1

-- the command and a settle, where some link has the group; else nothing
abbrev pub group_lines : Network → Command → List Line
group_lines t command = if is_group t first_group then Post command ∷ Settle 1000 ∷ [] else []

-- a wait until the calls are back, and a settle
abbrev pub reverted_lines : List Line
reverted_lines = Wait 5 ∷ Settle 1000 ∷ []

-- the plan of this seed, and what is done after it
abbrev pub load_parts_of : ℕ → ℕ → ℕ → LoadParts
load_parts_of seed n calls = record {
  plan = load_plan_of seed n calls;
  failed = group_lines (drawn_network n seed) (Fail first_group);
  repaired = group_lines (drawn_network n seed) (Repair first_group);
  reverted = reverted_lines;
}

-- the lines can be posted, whatever calls were set up before
abbrev pub AreAlwaysPostable : Network → List Line → Type 0
AreAlwaysPostable t lines = (before : List CallNo) → ArePostable t before lines
