use Rattle.std.proofs.{lemmas.List.Filters.dedup_is, lemmas.Map.Keys.IsStrictlyIncreasing-dedup}
use Rattle.ason_base.proofs.RisingNumbers.{numbers_in_order, sorted_same}
use Rattle.ason_base.proofs.lists.Srlgs.of.Goals as goal

pub invariant_of-result : goal.invariant_of-result
invariant_of-result c = rw (dedup_is _ _ _ c.dedup.ensures.filtered)
    (IsStrictlyIncreasing-dedup _ c.sort_unstable.ensures.sorted)

pub returns-clause-exact : goal.returns-clause-exact
returns-clause-exact c =
    let is = dedup_is _ _ _ c.dedup.ensures.filtered in
    numbers_in_order c.args.numbers.now c.dedup.new.self.items
    (rw is (IsStrictlyIncreasing-dedup _ c.sort_unstable.ensures.sorted))
    (λ n. rw is (sorted_same c.args.numbers.now c.sort_unstable.new.self.items n
    (rw (← c.in_ok-rising.ensures.items) c.sort_unstable.ensures.permutation)))

pub returns-clause-rising : goal.returns-clause-rising
returns-clause-rising c = rw (dedup_is _ _ _ c.dedup.ensures.filtered)
    (IsStrictlyIncreasing-dedup _ c.sort_unstable.ensures.sorted)

pub returns-clause-same : goal.returns-clause-same
returns-clause-same c =
    let is = dedup_is _ _ _ c.dedup.ensures.filtered in
    λ n. rw is (sorted_same c.args.numbers.now c.sort_unstable.new.self.items n
    (rw (← c.in_ok-rising.ensures.items) c.sort_unstable.ensures.permutation))
