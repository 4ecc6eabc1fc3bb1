use Rattle.std.proofs.Common.{arith}
use Rattle.fleet.proofs.JoinOn.{joined-all}
use Rattle.fleet.proofs.joining.join_all.Goals as goal

pub returns-clause-new : goal.returns-clause-new
returns-clause-new c =
    joined-all c.args.t.now c.loop-place.stations c.loop-place.place
    (omega (arith, c.loop-place-test.false, c.loop-place.invariant.within, c.loop-place.invariant.count))
    c.loop-place.invariant.new
