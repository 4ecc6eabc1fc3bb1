use Rattle.std.proofs.Common.{take}
use Rattle.std.specs.List.{flat_map}
use Rattle.table_text.specs.SurveyText.{contend_line}
use Rattle.ason_base.specs.Texts.{Appends}
use Rattle.table_text.proofs.survey.push_contends.Given as goal

abbrev pub invariant-loop-contend : goal.invariant-loop-contend
invariant-loop-contend l =
    Appends l.initial.text l.text (flat_map (contend_line l.plan) (take l.contend-index l.contends))
