use Rattle.std.proofs.Common.{ap, ◌∙◌}
use Rattle.std.specs.Prelude.{filter}
use Rattle.survey.specs.Views.{is_live_leg}
use Rattle.survey.proofs.views.view_of.Goals as goal

pub returns : goal.returns
returns c legs are =
    let live = c.in_ok-live.ensures ∙ ap (filter is_live_leg) (c.rows_of_lsp.ensures legs are) in
    let backup = c.from_vec.ensures ∙ c.in_ok-backup.ensures.items ∙ c.rows_of_lsp-2.ensures legs are in
    λ i. record { call = c.args.call.now; live = live i; backup = backup i }
