use Rattle.std.proofs.Common.{◌≤◌, ◌+◌, ◌*◌, ap, arith, length, subst, sym}
use Rattle.ason_base.specs.declared.messages.Msg.{Msg}
use Rattle.rsvp_messages.specs.Written.{all_bytes, msg_objects}
use Rattle.rsvp_messages.proofs.Lengths.{path-room}
use Rattle.rsvp_messages.proofs.room.room_for_msg.Goals as goal

pub returns-in-Path-clause-enough : goal.returns-in-Path-clause-enough
returns-in-Path-clause-enough c = λ sender.
    let m = c.in-Path in
    let most = path-room sender m.lsp m.egress m.link m.route m.set m.upstream m.role c.room_for_role.result
    (c.room_for_role.ensures.enough m.lsp) in
    subst (λ (x : Msg). length (all_bytes (msg_objects sender x)) ≤ 460 + 12 * length c.items.result.now
    + c.room_for_role.result)
    (sym m.is) (omega (arith, most, ap length c.items.ensures))
