use Rattle.std.proofs.{Common.{◌∙◌, ap, inl, inr, map, string_bytes, subst, sym}, lemmas.Result.IfOk-weaker}
use Rattle.ason_base.specs.Network.{row_of}
use Rattle.pair_search.specs.Answers.{IsBest, IsBestFault, IsSmall}
use Rattle.table_text.specs.BestText.{TellsBest, TellsNoPair}
use Rattle.table_text.proofs.{BestPairs.{found-costs, tells-best, tells-none}, PlanRows.searchable}
use Rattle.table_text.proofs.best.between.Goals as goal

pub best-requires : goal.best-requires
best-requires c =
    let are = searchable c.args.plan.now.topology _ _ c.requires c.links.ensures.list
    (c.deref.ensures.value ∙ c.in_ok-rows.ensures) in
    record { metrics = are.metrics; links = are.links }

pub pair_told-requires-clause-links : goal.pair_told-requires-clause-links
pair_told-requires-clause-links c =
    (searchable c.args.plan.now.topology _ _ c.requires c.links.ensures.list
    (c.deref-in-Ok.ensures.value ∙ c.in_ok-rows.ensures)).links

pub pair_told-requires-clause-total : goal.pair_told-requires-clause-total
pair_told-requires-clause-total c =
    let links = (searchable c.args.plan.now.topology _ _ c.requires c.links.ensures.list
    (c.deref-in-Ok.ensures.value ∙ c.in_ok-rows.ensures)).links in
    found-costs c.deref-in-Ok.result.now links c.args.from c.args.to c.in-Ok.found
    (subst (λ rows. IsBest rows c.args.from c.args.to c.in-Ok.found)
    (c.deref.ensures.value ∙ sym c.deref-in-Ok.ensures.value) c.in-Ok.ensures.best)

pub none_told-requires : goal.none_told-requires
none_told-requires c =
    (searchable c.args.plan.now.topology _ _ c.requires c.links.ensures.list
    (c.deref-in-Err-NoPair.ensures.value ∙ c.in_ok-rows.ensures)).links

pub returns-in-Ok : goal.returns-in-Ok
returns-in-Ok c =
    let rows = c.deref-in-Ok.result.now in
    let from = c.args.from in
    let to = c.args.to in
    let found = c.in-Ok.found in
    let links = (searchable c.args.plan.now.topology _ _ c.requires c.links.ensures.list
    (c.deref-in-Ok.ensures.value ∙ c.in_ok-rows.ensures)).links in
    let searched = c.deref.ensures.value ∙ sym c.deref-in-Ok.ensures.value in
    let small : IsSmall rows = subst IsSmall searched c.in-Ok.ensures.small in
    let best : IsBest rows from to found = subst (λ rows. IsBest rows from to found) searched c.in-Ok.ensures.best in
    let same = c.deref-in-Ok.ensures.value ∙ (c.in_ok-rows.ensures ∙ ap (map row_of) c.links.ensures.list) in
    IfOk-weaker c.pair_told.result _ _
    (λ text told. inl (subst (λ rows. TellsBest rows from to (string_bytes text)) same
    (tells-best rows links from to c.checks_are_exact.ensures small found best (string_bytes text) told)))
    c.pair_told.ensures

pub returns-in-Err-NoPair : goal.returns-in-Err-NoPair
returns-in-Err-NoPair c =
    let rows = c.deref-in-Err-NoPair.result.now in
    let from = c.args.from in
    let to = c.args.to in
    let cert = c.in-Err-NoPair.cert in
    let links = (searchable c.args.plan.now.topology _ _ c.requires c.links.ensures.list
    (c.deref-in-Err-NoPair.ensures.value ∙ c.in_ok-rows.ensures)).links in
    let searched = c.deref.ensures.value ∙ sym c.deref-in-Err-NoPair.ensures.value in
    let none = subst (λ rows. IsBestFault rows from to c.in-Err-NoPair.field-0) searched
    c.in-Err-NoPair.ensures.fault in
    let none = subst (IsBestFault rows from to) c.in-Err-NoPair.field-0-is none in
    let same = c.deref-in-Err-NoPair.ensures.value
    ∙ (c.in_ok-rows.ensures ∙ ap (map row_of) c.links.ensures.list) in
    IfOk-weaker c.none_told.result _ _
    (λ text told. inr (inl (subst (λ rows. TellsNoPair rows from to (string_bytes text)) same
    (tells-none rows links from to c.checks_are_exact.ensures none.0 none.1 cert none.2 (string_bytes text)
    told))))
    c.none_told.ensures
