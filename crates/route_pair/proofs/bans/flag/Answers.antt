use Rattle.route_pair.proofs.Flags.{all_flagged, flagged_more, none_flagged}
use Rattle.route_pair.proofs.bans.flag.Goals as goal

pub loop-number-init : goal.loop-number-init
loop-number-init c = none_flagged c.args.numbers.now c.args.flags.now c.requires

pub loop-number-preserved : goal.loop-number-preserved
loop-number-preserved c =
    flagged_more c.args.numbers.now c.loop-number.number-index c.loop-number.flags c.loop-number.invariant

pub returns : goal.returns
returns c =
    all_flagged c.args.numbers.now c.loop-number.number-index c.loop-number.flags c.loop-number-test.false
    c.loop-number.invariant
