use Rattle.std.proofs.Common.{sym, subst}
use Rattle.mesh_nodes.specs.Nodes.{IsNode}
use Rattle.control_channels.proofs.RowsLearnt.{learnt-unknown, one-learnt, unlearnt}
use Rattle.controller.proofs.floods.learn.Goals as goal

pub forget-requires-clause-learnt : goal.forget-requires-clause-learnt
forget-requires-clause-learnt c =
    one-learnt c.args.node.now c.learn_row.new.node c.args.row
    (learnt-unknown c.args.node.now.place c.args.node.now.state c.args.flood.now c.args.m.now c.args.row c.requires.rows
    c.requires.new) c.in_ok-learn_row.ensures.ok

pub forget-requires-clause-fits : goal.forget-requires-clause-fits
forget-requires-clause-fits c =
    subst IsNode (sym (unlearnt c.args.node.now c.learn_row.new.node c.args.row
    (learnt-unknown c.args.node.now.place c.args.node.now.state c.args.flood.now c.args.m.now c.args.row c.requires.rows
    c.requires.new) c.in_ok-learn_row.ensures.ok))
    (record { place = c.fits.ensures.place; state = c.fits.ensures.state; rows = c.fits.ensures.rows })
