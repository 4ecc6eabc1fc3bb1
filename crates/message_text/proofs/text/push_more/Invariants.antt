use Rattle.std.proofs.Common.{take}
use Rattle.std.specs.List.{flat_map}
use Rattle.message_text.specs.DecodeText.{more_text}
use Rattle.ason_base.specs.Texts.{Appends}
use Rattle.message_text.proofs.text.push_more.Given as goal

abbrev pub invariant-loop-ack : goal.invariant-loop-ack
invariant-loop-ack l =
    Appends l.initial.text l.text (flat_map more_text (take l.ack-index l.acks))
