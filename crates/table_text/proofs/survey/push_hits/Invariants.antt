use Rattle.std.proofs.Common.{take}
use Rattle.std.specs.List.{flat_map}
use Rattle.table_text.specs.SurveyText.{hit_line}
use Rattle.ason_base.specs.Texts.{Appends}
use Rattle.table_text.proofs.survey.push_hits.Given as goal

abbrev pub invariant-loop-hit : goal.invariant-loop-hit
invariant-loop-hit l =
    Appends l.initial.text l.text (flat_map (hit_line l.plan) (take l.hit-index l.hits))
