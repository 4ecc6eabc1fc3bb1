use Rattle.std.proofs.Common.{take}
use Rattle.std.specs.List.{flat_map}
use Rattle.table_text.specs.SurveyText.{more_name}
use Rattle.ason_base.specs.Texts.{Appends}
use Rattle.table_text.proofs.survey.push_more.Given as goal

abbrev pub invariant-loop-call : goal.invariant-loop-call
invariant-loop-call l =
    Appends l.initial.text l.text (flat_map (more_name l.plan) (take l.call-index l.calls))
