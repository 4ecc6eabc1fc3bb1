use Rattle.std.proofs.Common.{◌≡◌, take}
use Rattle.std.specs.Prelude.{flat_map}
use Rattle.mesh_rules.specs.Rows.{call_rows, leg_rows}
use Rattle.world_core.proofs.seats.rows_of.Given as goal

abbrev pub invariant-loop-seat : goal.invariant-loop-seat
invariant-loop-seat l = record {
  calls : l.calls.items ≡ flat_map (λ s. call_rows s.controller.node.place.id s.controller.node.state)
      (take l.seat-index l.seats);
  legs : l.legs.items ≡ flat_map (λ s. leg_rows s.controller.node.place.id s.controller.node.state)
      (take l.seat-index l.seats);
}
