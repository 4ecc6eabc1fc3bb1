use Rattle.world_core.proofs.Sending.{sent-more, sent-none}
use Rattle.world_core.proofs.channel.send_all.Goals as goal

pub loop-frame-init : goal.loop-frame-init
loop-frame-init c = sent-none c.args.channels.now.items

pub loop-frame-preserved : goal.loop-frame-preserved
loop-frame-preserved c =
    sent-more c.loop-frame.yielded c.in-Some.frame c.args.channels.now.items c.loop-frame.channels.items
    c.send.new.channels.items c.loop-frame.invariant c.in_ok-send.ensures
