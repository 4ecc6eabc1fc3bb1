use Rattle.std.proofs.Common.{codes, ap, Err}
use Rattle.message_text.proofs.OneText.{one_fault, packet_told}
use Rattle.message_text.proofs.push_message.Goals as goal

pub returns-in-Ok-objects : goal.returns-in-Ok-objects
returns-in-Ok-objects c =
    packet_told _ _ c.args.text.now c.push_packet.new.text c.in-Ok.packet c.in-Ok-objects.lines.items _
    c.in-Ok.ensures.found c.in-Ok.ensures.only c.in-Ok-objects.ensures.only c.deref.ensures.value c.push_packet.ensures

pub returns-in_ok-push_str-in-Err-NotMessage : goal.returns-in_ok-push_str-in-Err-NotMessage
returns-in_ok-push_str-in-Err-NotMessage c = (
  codes "not a message\n",
  one_fault _ (λ os p s. c.in-Err-NotMessage.ensures.not_message (ap Err c.in-Err-NotMessage.field-0-is) p (os, s)),
  c.in_ok-push_str-in-Err-NotMessage.ensures.bytes,
)
