use Rattle.world_core.specs.Channels.{AreSent}
use Rattle.world_core.proofs.channel.send_all.Given as goal

abbrev pub invariant-loop-frame : goal.invariant-loop-frame
invariant-loop-frame l = AreSent l.yielded l.initial.channels.items l.channels.items
