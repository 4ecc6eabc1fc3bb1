-- What a table shows of a node is in the order of what the node keeps.
use Rattle.std.proofs.Common.{List, [], ◌∷◌}
use Rattle.std.specs.Prelude.{map}
use Rattle.ason_base.specs.{declared.ids.NodeId.NodeId, declared.tables.CallRec.CallRec, declared.tables.Leg.Leg}
use Rattle.ason_base.proofs.Members.{all-mapped}
use Rattle.mesh_rules.specs.Rows.{call_row, leg_row}
use Rattle.mesh_nodes.specs.Order.{CallRowsRise, CallsRise, LegRowsRise, LegsRise}

pub leg-rows-rise : (n : NodeId) (legs : List Leg) → LegsRise legs → LegRowsRise (map (leg_row n) legs)
leg-rows-rise n [] rise = tt
leg-rows-rise n (g ∷ legs) rise = (all-mapped _ (leg_row n) legs rise.0, leg-rows-rise n legs rise.1)

pub call-rows-rise : (n : NodeId) (legs : List Leg) (calls : List CallRec) → CallsRise calls →
    CallRowsRise (map (call_row n legs) calls)
call-rows-rise n legs [] rise = tt
call-rows-rise n legs (c ∷ calls) rise = (all-mapped _ (call_row n legs) calls rise.0, call-rows-rise n legs calls rise.1)
