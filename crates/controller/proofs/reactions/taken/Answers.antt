use Rattle.std.proofs.Common.{◌+◌, sym, subst}
use Rattle.hop_reliable.specs.Hop.{handed_up_of, heard_as}
use Rattle.mesh_rules.specs.Events.{on_first}
use Rattle.rsvp_messages.specs.Packets.{packet_read}
use Rattle.control_channels.specs.{Adjacencies.hop_at, Controllers.{acks_to, heard_hops}, ReadyControllers.IsKeptAfter}
use Rattle.control_channels.proofs.{Counting.{acks-few, frames-few, heard-waits}, RowsLearnt.same-learnt, NearFrames.{acks-near, made-near}, Keeping.{heard-again, heard-answered, heard-sent, kept-next}}
use Rattle.controller.proofs.reactions.taken.Goals as goal
use Rattle.mesh_nodes.proofs.LearnsNothing.{first-learns_nothing}

pub take_read-requires-clause-reached : goal.take_read-requires-clause-reached
take_read-requires-clause-reached c = c.requires.ready.reached c.args.from c.requires.from

pub returns-clause-kept : goal.returns-clause-kept
returns-clause-kept c = λ k kept.
    let n = c.args.node.now in
    let before = c.args.adjacencies.now in
    let heard = heard_as (hop_at before c.args.from.0) (packet_read c.args.packet) in
    subst (λ p. IsKeptAfter p c.take_read.new.adjacencies (k + 1)) (sym c.in_ok-take_read.ensures.becomes.place)
    (kept-next n.place before c.take_read.new.adjacencies k
    (heard_hops (hop_at before) c.args.from (packet_read c.args.packet))
    (on_first n.place n.state c.args.from (handed_up_of heard (packet_read c.args.packet))) kept
    (heard-sent (hop_at before) c.args.from (packet_read c.args.packet))
    (heard-again (hop_at before) c.args.from (packet_read c.args.packet) kept.again)
    (heard-waits (hop_at before) c.args.from (packet_read c.args.packet) kept.waiting)
    (heard-answered n.place n.state c.args.from heard (packet_read c.args.packet) c.fits.ensures.place
    c.fits.ensures.state c.requires.body)
    c.in_ok-take_read.ensures.becomes.hops c.in_ok-take_read.ensures.becomes.peers
    c.in_ok-take_read.ensures.becomes.rest)

pub returns-clause-near : goal.returns-clause-near
returns-clause-near c =
    let n = c.args.node.now in
    let before = c.args.adjacencies.now in
    let heard = heard_as (hop_at before c.args.from.0) (packet_read c.args.packet) in
    made-near n.place n.place.id (acks_to c.args.from heard (packet_read c.args.packet))
    (heard_hops (hop_at before) c.args.from (packet_read c.args.packet))
    (on_first n.place n.state c.args.from (handed_up_of heard (packet_read c.args.packet))) c.list-frames.result.items
    c.take_read.new.frames.items
    (acks-near n.place c.args.from heard (packet_read c.args.packet) c.requires.from)
    (heard-answered n.place n.state c.args.from heard (packet_read c.args.packet) c.fits.ensures.place
    c.fits.ensures.state c.requires.body)
    c.list-frames.ensures c.in_ok-take_read.ensures.frames

pub returns-clause-few : goal.returns-clause-few
returns-clause-few c =
    let n = c.args.node.now in
    let before = c.args.adjacencies.now in
    let heard = heard_as (hop_at before c.args.from.0) (packet_read c.args.packet) in
    frames-few n.place n.place.id (acks_to c.args.from heard (packet_read c.args.packet))
    (heard_hops (hop_at before) c.args.from (packet_read c.args.packet))
    (on_first n.place n.state c.args.from (handed_up_of heard (packet_read c.args.packet))) c.list-frames.result.items
    c.take_read.new.frames.items
    (acks-few c.args.from heard (packet_read c.args.packet))
    (heard-answered n.place n.state c.args.from heard (packet_read c.args.packet) c.fits.ensures.place
    c.fits.ensures.state c.requires.body)
    c.list-frames.ensures c.in_ok-take_read.ensures.frames

pub returns-clause-learnt : goal.returns-clause-learnt
returns-clause-learnt c =
    let n = c.args.node.now in
    let heard = heard_as (hop_at c.args.adjacencies.now c.args.from.0) (packet_read c.args.packet) in
    same-learnt n.state c.take_read.new.node.state
    (on_first n.place n.state c.args.from (handed_up_of heard (packet_read c.args.packet)))
    (first-learns_nothing n.place n.state c.args.from (handed_up_of heard (packet_read c.args.packet)))
    c.in_ok-take_read.ensures.becomes.state
