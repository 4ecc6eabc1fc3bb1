use Rattle.std.proofs.Common.{◌++◌, ap, subst, ◌∙◌}
use Rattle.std.specs.Prelude.{◌↔◌, IsTrue, flat_map, vec_items}
use Rattle.round_rules.specs.Records.{world_of}
use Rattle.table_text.specs.SurveyText.{contend_line, survey_start}
use Rattle.ason_main.specs.Surveys.{IsCalmWorld}
use Rattle.ason_main.proofs.SurveyRuns.{tells_survey}
use Rattle.ason_main.proofs.surveying.told.Goals as goal

pub returns : goal.returns
returns c =
    let p = c.args.plan.now in
    let calm = c.is_calm-calm.result in
    let hits = c.items-2.ensures ∙ c.in_ok-survey.ensures.hits in
    let contends = c.in_ok-survey.ensures.contends in
    tells_survey p c.args.fleet.now c.in_ok-rows.rows calm c.into_bytes.result.items c.in_ok-rows.ensures
    (λ t lines r stands. subst (λ legs. IsTrue calm ↔ IsCalmWorld (world_of t r) legs) c.items.ensures
    (c.is_calm-calm.ensures t lines r stands))
    (ap vec_items c.into_bytes.ensures.value ∙ c.in_ok-push_lists.ensures
    ∙ ap (λ text. text ++ flat_map (contend_line p) (flat_map (λ list. list) c.in_ok-survey.survey.contends))
    c.in_ok-text.ensures
    ∙ (λ i. survey_start p calm (hits i) ++ flat_map (contend_line p) (contends i)))
