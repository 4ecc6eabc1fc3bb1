use Rattle.std.proofs.{Common.{nat_lt, sym, subst}, lemmas.List.Filters.dedup_is, lemmas.Map.Keys.IsStrictlyIncreasing-dedup}
use Rattle.std.specs.List.{AllByRecursion}
use Rattle.ason_base.proofs.RisingNumbers.{numbers_in_order, sorted_same}
use Rattle.survey.specs.Slots.{IsLabelInRange}
use Rattle.survey.proofs.Joins.{all-in_order}
use Rattle.survey.proofs.slots.rising.Goals as goal

pub returns-clause-exact : goal.returns-clause-exact
returns-clause-exact c =
    let is = dedup_is _ _ _ c.dedup.ensures.filtered in
    numbers_in_order c.args.numbers.items c.dedup.new.self.items
    (rw is (IsStrictlyIncreasing-dedup _ c.sort_unstable.ensures.sorted))
    (λ n. rw is (sorted_same c.args.numbers.items c.sort_unstable.new.self.items n c.sort_unstable.ensures.permutation))

pub returns-clause-labels : goal.returns-clause-labels
returns-clause-labels c labels =
    subst (AllByRecursion IsLabelInRange) (sym (returns-clause-exact c))
    (all-in_order IsLabelInRange nat_lt c.args.numbers.items labels)
