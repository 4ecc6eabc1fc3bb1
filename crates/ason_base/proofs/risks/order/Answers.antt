use Rattle.std.proofs.lemmas.List.Filters.{dedup_is}
use Rattle.ason_base.proofs.RiskOrder.{ordered_same, ordered_rising}
use Rattle.ason_base.proofs.risks.order.Goals as goal

pub returns-clause-same : goal.returns-clause-same
returns-clause-same c =
    let is = dedup_is _ _ _ c.dedup.ensures.filtered in
    λ r. rw is (ordered_same c.args.risks.now.items c.sort.new.self.items r c.sort.ensures.permutation)

pub returns-clause-rising : goal.returns-clause-rising
returns-clause-rising c =
    let is = dedup_is _ _ _ c.dedup.ensures.filtered in
    rw is (ordered_rising c.sort.new.self.items c.in_ok-sort.ensures.sorted)
