use Rattle.control_channels.proofs.RowsLearnt.{learnt-may}
use Rattle.std.proofs.Common.{◌∙◌, sym}
use Rattle.controller.proofs.floods.take.Goals as goal

pub learn-requires-clause-may : goal.learn-requires-clause-may
learn-requires-clause-may c =
    learnt-may c.args.node.now.place c.args.node.now.state c.args.flood.now c.requires.spelled.0 c.args.m.now
    c.in-Some.row c.requires.fits c.requires.spelled.1 (sym c.requires.learnt ∙ c.in-Some.is)

pub learn-requires-clause-rows : goal.learn-requires-clause-rows
learn-requires-clause-rows c = c.requires.fits.rows
