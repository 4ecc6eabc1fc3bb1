use Rattle.std.proofs.Common.{[], ap, refl, arith}
use Rattle.mesh_rules.specs.Orders.{on_item}
use Rattle.control_channels.specs.Adjacencies.{hop_at}
use Rattle.control_channels.proofs.{Counting.frames-few, RowsLearnt.same-learnt, Keeping.{item-sent, made-kept}, NearFrames.made-to_neighbours}
use Rattle.mesh_nodes.proofs.LearnsNothing.{nothing-else}
use Rattle.mesh_nodes.specs.Nodes.{NodeView}
use Rattle.controller.proofs.Taking.{handled-made}
use Rattle.controller.proofs.reactions.handle.Goals as goal

pub returns-clause-made : goal.returns-clause-made
returns-clause-made c =
    handled-made c.args.node.now c.give_item.new.node c.args.adjacencies.now c.give_item.new.adjacencies
    c.commit_all.new.adjacencies c.args.item.now c.args.item.now
    c.list-frames.result.items c.give_item.new.frames.items refl c.in_ok-give_item.ensures.node
    c.in_ok-give_item.ensures.hops c.in_ok-give_item.ensures.rest
    c.commit_all.ensures c.list-frames.ensures c.in_ok-give_item.ensures.frames c.in_ok-give_item.ensures.spelled

pub returns-clause-kept : goal.returns-clause-kept
returns-clause-kept c = λ k kept.
    made-kept c.args.node.now c.give_item.new.node c.args.adjacencies.now c.commit_all.new.adjacencies k
    (hop_at c.args.adjacencies.now)
    (on_item c.args.node.now.place c.args.node.now.state c.args.item.now) [] c.give_item.new.frames.items kept
    (λ d. refl) kept.again kept.waiting
    (item-sent c.args.node.now.place c.args.node.now.state c.args.item.now c.fits.ensures.place c.fits.ensures.state)
    (returns-clause-made c)

pub returns-clause-near : goal.returns-clause-near
returns-clause-near c =
    made-to_neighbours c.args.node.now c.give_item.new.node c.args.adjacencies.now c.commit_all.new.adjacencies
    (hop_at c.args.adjacencies.now)
    (on_item c.args.node.now.place c.args.node.now.state c.args.item.now) [] c.give_item.new.frames.items tt
    (item-sent c.args.node.now.place c.args.node.now.state c.args.item.now c.fits.ensures.place c.fits.ensures.state)
    (returns-clause-made c)

pub returns-clause-few : goal.returns-clause-few
returns-clause-few c =
    let n = c.args.node.now in
    frames-few n.place n.place.id [] (hop_at c.args.adjacencies.now) (on_item n.place n.state c.args.item.now)
    c.list-frames.result.items c.give_item.new.frames.items (omega arith)
    (item-sent n.place n.state c.args.item.now c.fits.ensures.place c.fits.ensures.state)
    c.list-frames.ensures c.in_ok-give_item.ensures.frames

pub returns-clause-learnt : goal.returns-clause-learnt
returns-clause-learnt c =
    let n = c.args.node.now in
    same-learnt n.state c.give_item.new.node.state (on_item n.place n.state c.args.item.now)
    (nothing-else.1 n.place n.state c.args.item.now) (ap (λ (m : NodeView). m.state) c.in_ok-give_item.ensures.node)
