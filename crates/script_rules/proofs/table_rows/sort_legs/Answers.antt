use Rattle.std.proofs.{Common.rules, lemmas.List.Sorted.answers_always}
use Rattle.script_rules.proofs.LegOrder.{legs_in_order}
use Rattle.script_rules.proofs.table_rows.sort_legs.Goals as goal

pub returns-clause-sorted : goal.returns-clause-sorted
returns-clause-sorted c =
    let by_key = c.in_ok-sort_by_key.ensures.sorted (λ g. (g.lsp, g.node)) (answers_always _ _ _
    (λ f a r q k. search rules)) in
    let sorted = legs_in_order c.sort_by_key.new.self.items by_key in search rules
