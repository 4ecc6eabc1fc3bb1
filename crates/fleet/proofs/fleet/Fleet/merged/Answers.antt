use Rattle.std.proofs.Common.{◌≡◌, ◌++◌, append-nil, sym, ap, ◌∙◌, subst}
use Rattle.world_merge.specs.Lines.{lines_left}
use Rattle.fleet.specs.Rounds.{IsMerged}
use Rattle.fleet.proofs.fleet.Fleet.merged.Goals as goal

pub returns : goal.returns
returns c t lines r s =
    let lines_of_all = c.loop-line.all.items in
    let same : lines_of_all ≡ lines_left c.into_iter-line-iterator.result =
    sym (append-nil lines_of_all) ∙ ap (λ ls. lines_of_all ++ ls) (sym c.in-None.ensures.steps.0)
    ∙ c.loop-line.invariant in
    let gives = c.into_iter-line-iterator.ensures.into_iter_gives in
    subst (IsMerged t r) (sym (same ∙ ap lines_left gives)) (c.in_ok-lines.ensures.merges t lines r s)
