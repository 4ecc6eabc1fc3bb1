use Rattle.std.proofs.Common.{◌≡◌, map, take}
use Rattle.std.specs.List.{AllByRecursion}
use Rattle.ason_base.specs.declared.network.NodeSpec.{NodeSpec}
use Rattle.fleet.specs.{declared.seats.Seat.Seat, Standing.IsSeat}
use Rattle.fleet.proofs.seats.new_seats.Given as goal

abbrev pub invariant-loop-node : goal.invariant-loop-node
invariant-loop-node l = record {
  ids : map (λ (s : Seat). s.id) l.seats.items ≡ map (λ (n : NodeSpec). n.id) (take l.node-index l.node-items);
  each : AllByRecursion (IsSeat l.t) l.seats.items;
}
