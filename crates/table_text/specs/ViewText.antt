-- The text of the view of one node.
use Rattle.std.specs.{Prelude.{ℕ, List, ◌++◌, codes}, List.flat_map, Fmt.decimal}
use Rattle.ason_base.specs.{declared.ids.NodeId.NodeId, declared.calls.LegRow.LegRow}
use Rattle.plan_reader.specs.declared.plan.Plan.{Plan}
use Rattle.table_text.specs.TableText.{leg_text, node_name}

-- `view NODE entries E`
abbrev pub view_head : Plan → NodeId → ℕ → List ℕ
view_head p n entries = codes "view " ++ node_name p n ++ codes " entries " ++ decimal entries ++ codes "\n"

-- that line, then a line a leg
abbrev pub view_text : Plan → NodeId → ℕ → List LegRow → List ℕ
view_text p n entries legs = view_head p n entries ++ flat_map (leg_text p) legs
