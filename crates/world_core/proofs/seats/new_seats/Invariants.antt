use Rattle.std.proofs.Common.{◌≡◌, map, take}
use Rattle.ason_base.specs.declared.network.NodeSpec.{NodeSpec}
use Rattle.world_core.specs.Seats.{new_seat}
use Rattle.world_core.proofs.seats.new_seats.Given as goal

abbrev pub invariant-loop-m : goal.invariant-loop-m
invariant-loop-m l = l.seats.items ≡ map (λ (m : NodeSpec). new_seat l.t m.id) (take l.m-index l.m-items)
