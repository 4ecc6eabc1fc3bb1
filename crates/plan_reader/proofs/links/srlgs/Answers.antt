use Rattle.std.proofs.Common.{◌≡◌, ap, codes, cond, false, is_some, List, None, Some, subst, ◌∙◌, sym}
use Rattle.std.specs.{Prelude.filter_map, List.list_all}
use Rattle.toml.specs.{Data.Data, View.view}
use Rattle.plan_reader.specs.PlanTables.{elements_at, srlg_in}
use Rattle.plan_reader.proofs.SrlgLists.{srlg_beyond, srlg_more, srlg_within}
use Rattle.plan_reader.proofs.links.srlgs.Goals as goal

pub reading-preserved : goal.reading-preserved
reading-preserved c =
    let found = sym c.srlg.ensures ∙ c.in-Some.is in
    let values = c.elements-values.result.now in
    let v = c.index-values-i.result in
    let below = c.reading-test.true in
    let here = c.index-values-i.is in
    record {
      numbers =
          srlg_more values c.reading.i c.in-Some.number v c.reading.numbers c.push.new.self _ below here found
          c.in_ok-push.ensures.ok c.reading.invariant.numbers;
      within = c.reading.invariant.within ∙ srlg_within values c.reading.i c.in-Some.number v below here found;
    }

pub returns-in_default : goal.returns-in_default
returns-in_default c =
    let values = c.elements-values.result.now in
    let beyond =
    srlg_beyond values c.reading.i c.index-values-i.result c.reading-test.true c.index-values-i.is
    (sym c.srlg.ensures ∙ c.in_default.is) in
    let srlgs = elements_at (codes "srlg") (view c.args.value.now) in
    let none : list_all (λ s. is_some (srlg_in s)) srlgs ≡ false =
    subst (λ (ds : List Data). list_all (λ s. is_some (srlg_in s)) ds ≡ false) c.elements-values.ensures
    (c.reading.invariant.within ∙ beyond) in
    sym (ap (λ b. cond b (Some (filter_map srlg_in srlgs)) None) none)
