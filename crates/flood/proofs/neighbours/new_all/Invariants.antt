use Rattle.std.proofs.Common.{◌≡◌, map, take}
use Rattle.flood.specs.State.{fresh_neighbour}
use Rattle.flood.proofs.neighbours.new_all.Given as goal

abbrev pub invariant-loop-n : goal.invariant-loop-n
invariant-loop-n l = l.all.items ≡ map (λ n. fresh_neighbour (record { 0 = n })) (take l.n-index l.numbers)
