use Rattle.rsvp_messages.proofs.Joining.{acks_more}
use Rattle.rsvp_messages.proofs.ids.write_acks.Goals as goal

pub loop-ack-preserved : goal.loop-ack-preserved
loop-ack-preserved c =
    acks_more _ _ _ c.args.acks.now c.loop-ack.ack-index _ c.loop-ack-test.true c.loop-ack.invariant
    c.in_ok-write_ack.ensures.ok
