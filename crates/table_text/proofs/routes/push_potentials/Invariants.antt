use Rattle.std.proofs.Common.{take}
use Rattle.std.specs.List.{flat_map}
use Rattle.table_text.specs.RouteText.{node_line, potential_in}
use Rattle.ason_base.specs.Texts.{Appends}
use Rattle.table_text.proofs.routes.push_potentials.Given as goal

abbrev pub invariant-loop-node : goal.invariant-loop-node
invariant-loop-node l =
    Appends l.initial.text l.text
    (flat_map (node_line l.plan (potential_in l.potentials)) (take l.node-index l.node-items))
