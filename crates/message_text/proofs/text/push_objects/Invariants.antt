use Rattle.std.proofs.Common.{take}
use Rattle.std.specs.List.{flat_map}
use Rattle.message_text.specs.DecodeText.{object_text}
use Rattle.ason_base.specs.Texts.{Appends}
use Rattle.message_text.proofs.text.push_objects.Given as goal

abbrev pub invariant-loop-object : goal.invariant-loop-object
invariant-loop-object l =
    Appends l.initial.text l.text (flat_map object_text (take l.object-index l.objects))
