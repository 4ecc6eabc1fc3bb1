use Rattle.std.proofs.{Common.{rules, not}, lemmas.List.Sorted.IsPartitionPoint-from_clause}
use Rattle.leg_table.specs.Keyed.{has_key, is_from}
use Rattle.leg_table.proofs.{Halved.{parted, point-is}, KeyedPlaces.key_in_order}
use Rattle.leg_table.proofs.keyed.place_of.Goals as goal

pub returns-clause-place : goal.returns-clause-place
returns-clause-place g c =
    let t = g.T.Keyed in
    let k = c.args.key in
    let xs = c.args.items.now in
    let split =
    parted (has_key t.same t.key_of k) (is_from t.before t.key_of k) xs
    (key_in_order g.met.T.Keyed.order t.key_of k xs c.requires) in
    let found = c.partition_point.ensures in
    point-is (is_from t.before t.key_of k) xs c.partition_point.result found.bound
    (IsPartitionPoint-from_clause (λ x. not (is_from t.before t.key_of k x)) xs c.partition_point.result
    found.partitioned split (λ a r f k. search rules))
