use Rattle.control_channels.proofs.{Preparing.nothing-prepared, Spelled.nothing-spelled}
use Rattle.control_channels.specs.Adjacencies.{hop_at}
use Rattle.controller.proofs.reactions.hand_up.Goals as goal

pub returns-in-None-clause-hops : goal.returns-in-None-clause-hops
returns-in-None-clause-hops c =
    nothing-prepared c.args.node.now c.args.from c.args.body c.args.adjacencies.now c.in-None.is c.requires.ready.rest

pub returns-in-None-clause-spelled : goal.returns-in-None-clause-spelled
returns-in-None-clause-spelled c =
    nothing-spelled c.args.node.now.place.id c.args.node.now c.args.from c.args.body
    (hop_at c.args.adjacencies.now) c.in-None.is
