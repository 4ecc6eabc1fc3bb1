use Rattle.std.proofs.{Common.rules, lemmas.List.Sorted.answers_always}
use Rattle.script_rules.proofs.LegOrder.{calls_in_order}
use Rattle.script_rules.proofs.table_rows.sort_calls.Goals as goal

pub returns-clause-sorted : goal.returns-clause-sorted
returns-clause-sorted c =
    let by_key = c.in_ok-sort_by_key.ensures.sorted (λ r. (r.call, r.ingress)) (answers_always _ _ _
    (λ f a r q k. search rules)) in
    let sorted = calls_in_order c.sort_by_key.new.self.items by_key in search rules
