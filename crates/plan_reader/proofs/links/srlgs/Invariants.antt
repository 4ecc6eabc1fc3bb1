use Rattle.std.proofs.Common.{◌≡◌, ◌++◌, drop, is_some}
use Rattle.std.specs.{Prelude.filter_map, List.list_all}
use Rattle.plan_reader.specs.PlanTables.{srlg_in, views}
use Rattle.plan_reader.proofs.links.srlgs.Given as goal

abbrev pub invariant-reading : goal.invariant-reading
invariant-reading l = record {
  numbers : l.numbers ++ filter_map srlg_in (drop l.i (views l.values)) ≡ filter_map srlg_in (views l.values);
  within :
      list_all (λ s. is_some (srlg_in s)) (views l.values)
      ≡ list_all (λ s. is_some (srlg_in s)) (drop l.i (views l.values));
}
