use Rattle.std.proofs.Common.{take}
use Rattle.std.specs.List.{flat_map}
use Rattle.table_text.specs.RouteText.{more_link}
use Rattle.ason_base.specs.Texts.{Appends}
use Rattle.table_text.proofs.routes.push_more.Given as goal

abbrev pub invariant-loop-step : goal.invariant-loop-step
invariant-loop-step l = Appends l.initial.text l.text (flat_map more_link (take l.step-index l.steps))
