use Rattle.std.proofs.{lemmas.List.Filters.dedup_is, lemmas.List.Kept.{Contains-dedup_nat, Contains-from_dedup}, lemmas.List.Sorted.{Contains-permutation, IsPermutation-sym}, lemmas.Map.Keys.IsStrictlyIncreasing-dedup}
use Rattle.flood.proofs.neighbours.rising.Goals as goal

pub returns-clause-rising : goal.returns-clause-rising
returns-clause-rising c = rw (dedup_is _ _ _ c.dedup.ensures.filtered)
    (IsStrictlyIncreasing-dedup _ c.sort_unstable.ensures.sorted)

pub returns-clause-same : goal.returns-clause-same
returns-clause-same c n =
    let is = dedup_is _ _ _ c.dedup.ensures.filtered in
    let moved = c.sort_unstable.ensures.permutation in
    rw (is, ← c.in_ok-numbers.ensures) (
      λ there. Contains-permutation _ _ n (IsPermutation-sym _ _ moved) (Contains-from_dedup _ _ n there),
      λ there. Contains-dedup_nat _ n (Contains-permutation _ _ n moved there),
    )
