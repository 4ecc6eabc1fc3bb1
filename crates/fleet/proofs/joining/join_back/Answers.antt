use Rattle.std.proofs.Common.{arith}
use Rattle.fleet.proofs.JoinOn.{joined-on}
use Rattle.fleet.proofs.joining.join_back.Goals as goal

pub returns-clause-new : goal.returns-clause-new
returns-clause-new c =
    joined-on c.args.t.now c.loop-low.stations c.args.place c.loop-low.low
    (omega (arith, c.loop-low-test.false, c.loop-low.invariant.within)) c.loop-low.invariant.new
