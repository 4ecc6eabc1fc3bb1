use Rattle.std.proofs.{Common.{arith, rules}, lemmas.List.Sorted.IsPartitionPoint-from_clause}
use Rattle.share_check.specs.Guards.{is_before}
use Rattle.share_check.proofs.GuardOrder.{parted}
use Rattle.share_check.proofs.guarded.place_of.Goals as goal

pub returns-clause-before : goal.returns-clause-before
returns-clause-before c = λ k d less.
    let found = c.partition_point.ensures in
    let point =
    IsPartitionPoint-from_clause (λ x. is_before x c.args.sought) c.args.guarded.now c.partition_point.result
    found.partitioned (parted c.args.guarded.now c.args.sought c.requires) (λ a r f k. search rules) in
    let bound = found.bound in
    point.0 k d (omega (arith, less, bound)) less

pub returns-clause-after : goal.returns-clause-after
returns-clause-after c = λ k d from below.
    let found = c.partition_point.ensures in
    let point =
    IsPartitionPoint-from_clause (λ x. is_before x c.args.sought) c.args.guarded.now c.partition_point.result
    found.partitioned (parted c.args.guarded.now c.args.sought c.requires) (λ a r f k. search rules) in
    point.1 k d from below
