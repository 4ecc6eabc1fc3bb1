use Rattle.std.proofs.Common.{[], ◌∙◌, ap, refl, subst, sym}
use Rattle.std.specs.Prelude.{Some}
use Rattle.ason_base.specs.declared.messages.MsgId.{MsgId}
use Rattle.flood.specs.{declared.frames.Content.TheVariants.Message, Frames.ContentCanBeWritten}
use Rattle.hop_reliable.specs.Hop.{last_number}
use Rattle.control_channels.proofs.Writing.{next-writable}
use Rattle.control_channels.proofs.adjacencies.prepare_framed.Goals as goal

pub frame-requires : goal.frame-requires
frame-requires c =
    subst ContentCanBeWritten
    (sym (c.message.ensures
    ∙ ap (λ (i : MsgId). Message (record { id = Some i; acks = []; body = Some c.args.msg })) c.next_id.ensures))
    (next-writable (last_number c.args.hop.now) c.args.msg _ c.requires.writable refl)
