use Rattle.std.proofs.Common.{sym, subst, ◌∙◌, ap}
use Rattle.std.specs.Prelude.{slice_get}
use Rattle.leg_table.specs.LspIndexes.{IsFirstCall, call_there}
use Rattle.leg_table.proofs.LspIndex.{first-at}
use Rattle.leg_table.proofs.lsp_index.first_call.Goals as goal

pub returns : goal.returns
returns c =
    let l = c.args.lsp in
    let es = c.args.entries.now in
    subst (IsFirstCall l es)
    (sym (c.call_there.ensures ∙ ap (λ o. call_there o l) (ap (slice_get es) c.place_of-place.ensures.place)))
    (first-at l es c.requires)
