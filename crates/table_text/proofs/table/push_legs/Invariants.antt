use Rattle.std.proofs.Common.{take}
use Rattle.std.specs.List.{flat_map}
use Rattle.table_text.specs.TableText.{leg_text}
use Rattle.ason_base.specs.Texts.{Appends}
use Rattle.table_text.proofs.table.push_legs.Given as goal

abbrev pub invariant-loop-leg : goal.invariant-loop-leg
invariant-loop-leg l =
    Appends l.initial.text l.text (flat_map (leg_text l.plan) (take l.leg-index l.legs))
