use Rattle.std.proofs.Common.{◌≡◌, [], ◌++◌, refl, subst, sym, append-nil}
use Rattle.std.specs.Prelude.{None}
use Rattle.hop_reliable.specs.declared.heard.Heard.TheVariants.{Acked}
use Rattle.rsvp_messages.specs.Packets.{ack_alone, packet_read}
use Rattle.control_channels.specs.{Controllers.{Becomes, packet_step}, Frames.{AllSpelled, frames_to}}
use Rattle.controller.proofs.{Taking.{IsPacketTaken, ack-taken, took-becomes, took-frames, took-spelled}, reactions.take_read.Goals.After-take}
use Rattle.controller.proofs.reactions.take_read.Goals as goal

taken : (c : After-take) → IsPacketTaken c.args.node.now c.args.adjacencies.now c.args.adjacencies.now
    c.take.new.adjacencies c.take.new.adjacencies c.args.from Acked (ack_alone c.in-Ack.id) None
taken c =
    ack-taken c.args.node.now c.args.adjacencies.now c.take.new.adjacencies c.args.from c.in-Ack.id
    c.requires.ready.rest (c.take.ensures.rest c.requires.ready.rest) c.take.ensures.hops c.take.ensures.peers

pub returns-in-Ack-clause-becomes : goal.returns-in-Ack-clause-becomes
returns-in-Ack-clause-becomes c =
    let n = c.args.node.now in
    let before = c.args.adjacencies.now in
    subst (λ q. Becomes n n before c.take.new.adjacencies (packet_step n before c.args.from (packet_read q)).after)
    (sym c.in-Ack.is)
    (took-becomes n n _ _ _ _ _ _ _ _ (taken (goal.at.returns-in-Ack-clause-becomes c).After-take) refl refl)

pub returns-in-Ack-clause-frames : goal.returns-in-Ack-clause-frames
returns-in-Ack-clause-frames c =
    let n = c.args.node.now in
    let frames = c.args.frames.now.items in
    let same : frames ≡ frames ++ [] = sym (append-nil frames) in
    subst (λ q. frames ≡ frames ++ frames_to n.place.id
    (packet_step n c.args.adjacencies.now c.args.from (packet_read q)).sendings) (sym c.in-Ack.is)
    (took-frames n n _ _ _ _ _ _ _ _ (taken (goal.at.returns-in-Ack-clause-frames c).After-take) frames frames frames
    same same)

pub returns-in-Ack-clause-spelled : goal.returns-in-Ack-clause-spelled
returns-in-Ack-clause-spelled c =
    let n = c.args.node.now in
    subst (λ q. AllSpelled n.place.id
    (packet_step n c.args.adjacencies.now c.args.from (packet_read q)).sendings) (sym c.in-Ack.is)
    (took-spelled n n _ _ _ _ _ _ _ _ (taken (goal.at.returns-in-Ack-clause-spelled c).After-take) tt tt)
