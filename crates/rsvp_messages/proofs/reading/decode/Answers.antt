use Rattle.std.proofs.{Common.{◌≡◌, ◌∙◌, Err, ap, sym}, lemmas.Result.IfOk-weaker}
use Rattle.ason_base.specs.declared.messages.DecodeError.TheVariants.{NotMessage}
use Rattle.rsvp_messages.specs.Packets.{ack_alone, packet_read}
use Rattle.rsvp_messages.proofs.reading.decode.Goals as goal

pub returns-in-Ok-Ack-clause-only : goal.returns-in-Ok-Ack-clause-only
returns-in-Ok-Ack-clause-only c = λ p spells.
    IfOk-weaker c.listed_ack.result (λ q. q ≡ ack_alone c.in-Ok-Ack.id) (λ q. q ≡ p)
    (λ q is. is ∙ ap packet_read (sym c.in-Ok-Ack.field-0-is) ∙ c.in-Ok-Ack.ensures.only p spells)
    c.listed_ack.ensures.found

pub returns-in-Ok-Whole-clause-only : goal.returns-in-Ok-Whole-clause-only
returns-in-Ok-Whole-clause-only c = λ p spells.
    ap packet_read (sym c.in-Ok-Whole.field-0-is) ∙ c.in-Ok-Whole.ensures.only p spells

pub returns-in-Err-clause-not_message : goal.returns-in-Err-clause-not_message
returns-in-Err-clause-not_message c = λ e.
    let same : c.in-Err.fault ≡ NotMessage = cc e in c.in-Err.ensures.not_message (ap Err same)
