use Rattle.std.proofs.Common.{arith}
use Rattle.std.specs.Option.{option_copied}
use Rattle.ason_base.specs.declared.messages.Packet.{Packet}
use Rattle.rsvp_messages.proofs.Lengths.{packet-room}
use Rattle.rsvp_messages.proofs.room.room_for_ref.Goals as goal

pub returns-clause-enough : goal.returns-clause-enough
returns-clause-enough c = λ sender.
    let p : Packet = record {
      id = c.p.inside.id;
      acks = c.p.inside.acks.now;
      body = option_copied c.p.inside.body;
    } in
    rw (← c.p.view_is)
    (let most = packet-room sender p c.room_for_body.result (c.room_for_body.ensures.enough sender) in
    omega (arith, most))
