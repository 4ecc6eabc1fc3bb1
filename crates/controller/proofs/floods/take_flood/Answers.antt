use Rattle.std.proofs.Common.{List, [], ◌∷◌, ◌∙◌, ap, refl, sym, subst}
use Rattle.ason_base.specs.declared.ids.NodeId.{NodeId}
use Rattle.flood.specs.{declared.messages.FloodMsg.FloodMsg, declared.messages.FloodMsg.TheVariants.Ack, State.sends_after}
use Rattle.control_channels.specs.{Controllers.{floods_to, with_learnt}, Frames.AllSpelled, ReadyControllers.AllFramesToNeighbours}
use Rattle.controller.proofs.{FloodCounts.{answer-few, answer-frames, answers-near}, FloodKept.fits-after}
use Rattle.control_channels.proofs.NearFrames.{frames-near}
use Rattle.controller.proofs.floods.take_flood.Goals as goal

pub returns-clause-node : goal.returns-clause-node
returns-clause-node c =
    c.in_ok-take.ensures.node
    ∙ ap (with_learnt c.args.node.now.place c.args.node.now.state) c.in_ok-learnt.ensures.learnt

pub returns-clause-frames : goal.returns-clause-frames
returns-clause-frames c =
    answer-frames c.id-me.result c.args.node.now.place.id (sends_after c.args.flood.now c.args.from c.args.m.now)
    (sends_after c.args.flood.now c.args.from c.args.m.now) c.list-frames.result.items c.answer.new.frames.items
    c.list-frames.ensures c.id-me.ensures refl c.in_ok-learnt.ensures.frames

pub returns-clause-spelled : goal.returns-clause-spelled
returns-clause-spelled c =
    subst (λ n. AllSpelled n (floods_to (sends_after c.args.flood.now c.args.from c.args.m.now))) c.id-me.ensures
    c.in_ok-learnt.ensures.spelled

pub returns-clause-near : goal.returns-clause-near
returns-clause-near c =
    let n = c.args.node.now in
    let sends = sends_after c.args.flood.now c.args.from c.args.m.now in
    subst (AllFramesToNeighbours n.place) (sym (answer-frames c.id-me.result n.place.id sends sends
    c.list-frames.result.items c.answer.new.frames.items
    c.list-frames.ensures c.id-me.ensures refl c.in_ok-learnt.ensures.frames))
    (frames-near n.place n.place.id (floods_to sends)
    (answers-near n.place c.args.flood.now c.args.from c.args.m.now c.requires.fits.neighbours c.requires.from))

pub returns-clause-few : goal.returns-clause-few
returns-clause-few c =
    answer-few c.args.node.now.place.id c.args.flood.now c.args.from c.args.m.now c.answer.new.frames.items
    c.counts.ensures
    (answer-frames c.id-me.result c.args.node.now.place.id (sends_after c.args.flood.now c.args.from c.args.m.now)
    (sends_after c.args.flood.now c.args.from c.args.m.now) c.list-frames.result.items
    c.answer.new.frames.items
    c.list-frames.ensures c.id-me.ensures refl c.in_ok-learnt.ensures.frames)

pub returns-clause-fits : goal.returns-clause-fits
returns-clause-fits c =
    fits-after c.args.node.now c.take.new.node c.args.flood.now c.take.new.flood c.args.from c.requires.spelled.0
    c.args.m.now c.requires.fits c.requires.spelled.1 c.in_ok-take.ensures.place
    (c.in_ok-take.ensures.node
    ∙ ap (with_learnt c.args.node.now.place c.args.node.now.state) c.in_ok-learnt.ensures.learnt)
    c.in_ok-take.ensures.flood

pub returns-in-Some-clause-node : goal.returns-in-Some-clause-node
returns-in-Some-clause-node c =
    sym (ap (with_learnt c.args.node.now.place c.args.node.now.state) c.in-Some.ensures.learnt)

pub returns-in-Some-clause-flood : goal.returns-in-Some-clause-flood
returns-in-Some-clause-flood c = sym (c.in-Some.ensures.same c.args.from)

pub returns-in-Some-clause-frames : goal.returns-in-Some-clause-frames
returns-in-Some-clause-frames c =
    answer-frames c.id-me.result c.args.node.now.place.id ((c.args.from, Ack c.in-Some.number) ∷ [])
    (sends_after c.args.flood.now c.args.from c.args.m.now) c.list-frames.result.items c.frame_ack.new.frames.items
    c.list-frames.ensures c.id-me.ensures (sym (c.in-Some.ensures.sends c.args.from))
    c.in_ok-frame_ack.ensures.frames

pub returns-in-Some-clause-spelled : goal.returns-in-Some-clause-spelled
returns-in-Some-clause-spelled c =
    let ack : List (NodeId × FloodMsg) = (c.args.from, Ack c.in-Some.number) ∷ [] in
    subst (λ ss. AllSpelled c.args.node.now.place.id (floods_to ss)) (sym (c.in-Some.ensures.sends c.args.from))
    (subst (λ n. AllSpelled n (floods_to ack)) c.id-me.ensures c.in_ok-frame_ack.ensures.spelled)

pub returns-in-Some-clause-near : goal.returns-in-Some-clause-near
returns-in-Some-clause-near c =
    let n = c.args.node.now in
    let sends = sends_after c.args.flood.now c.args.from c.args.m.now in
    subst (AllFramesToNeighbours n.place) (sym (answer-frames c.id-me.result n.place.id
    ((c.args.from, Ack c.in-Some.number) ∷ []) sends c.list-frames.result.items c.frame_ack.new.frames.items
    c.list-frames.ensures c.id-me.ensures (sym (c.in-Some.ensures.sends c.args.from))
    c.in_ok-frame_ack.ensures.frames))
    (frames-near n.place n.place.id (floods_to sends)
    (answers-near n.place c.args.flood.now c.args.from c.args.m.now c.requires.fits.neighbours c.requires.from))

pub returns-in-Some-clause-few : goal.returns-in-Some-clause-few
returns-in-Some-clause-few c =
    answer-few c.args.node.now.place.id c.args.flood.now c.args.from c.args.m.now c.frame_ack.new.frames.items
    c.counts.ensures
    (answer-frames c.id-me.result c.args.node.now.place.id ((c.args.from, Ack c.in-Some.number) ∷ [])
    (sends_after c.args.flood.now c.args.from c.args.m.now) c.list-frames.result.items c.frame_ack.new.frames.items
    c.list-frames.ensures c.id-me.ensures (sym (c.in-Some.ensures.sends c.args.from))
    c.in_ok-frame_ack.ensures.frames)
