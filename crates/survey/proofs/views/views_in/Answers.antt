use Rattle.std.proofs.{Common.{[], ◌∷◌, ◌++◌, ◌∙◌, sym}, lemmas.List.map_more}
use Rattle.survey.specs.Views.{view_of}
use Rattle.survey.proofs.views.views_in.Goals as goal

pub loop-call-preserved : goal.loop-call-preserved
loop-call-preserved c legs are =
    c.in_ok-push.ensures.items
    ∙ ((λ i. c.loop-call.invariant legs are i ++ c.in_ok-view_of.ensures legs are i ∷ [])
    ∙ sym (map_more (view_of legs) c.args.calls.now c.loop-call.call-index _ c.loop-call-test.true))
