use Rattle.std.proofs.Common.{◌≡◌, Some, sym, subst}
use Rattle.route_least.specs.{Costs.cost_at, Marking.Crosses, Network.{AreOnce, HasNode}, Searches.IsReached, Trace.IsTraced}
use Rattle.route_least.proofs.RouteLaws.{least_read, listed_read, reached}
use Rattle.route_least.proofs.network.least_from.Goals as goal

pub cost_to-requires-clause-once : goal.cost_to-requires-clause-once
cost_to-requires-clause-once c = subst AreOnce (sym c.deref-4.ensures.value) c.requires.network.once

pub returns-in-None-clause-err : goal.returns-in-None-clause-err
returns-in-None-clause-err c =
    let costs = c.in_ok-costs.costs.items in
    let least = least_read _ _ _ _ _ _ c.deref.ensures.value c.in_ok-costs.ensures.least in
    let listed = listed_read _ _ _ _ _ c.deref-2.ensures.value c.deref-3.ensures.value c.in_ok-potential.ensures in
    record {
      costs = costs;
      are = record { least = least; listed = listed };
      none = λ p cost there has.
          c.in-None.ensures p cost (subst (λ ps. HasNode ps p c.args.to) (sym c.deref-4.ensures.value) there)
          (subst (λ t. cost_at t p ≡ Some cost) (sym c.deref-5.ensures.value) has);
    }

pub least_route-requires-clause-leads : goal.least_route-requires-clause-leads
least_route-requires-clause-leads c =
    let places = c.args.network.now.places.items in
    let costs = c.in_ok-costs.costs.items in
    let least = least_read _ _ _ _ _ _ c.deref.ensures.value c.in_ok-costs.ensures.least in
    let has : cost_at costs c.in-Some.end ≡ Some c.in-Some.cost =
    subst (λ t. cost_at t c.in-Some.end ≡ Some c.in-Some.cost) c.deref-5.ensures.value c.in-Some.ensures.1 in
    subst (λ ps. IsReached ps c.args.closed.now c.deref-in-Some-2.result.now c.args.start c.in-Some.end)
    (sym c.deref-in-Some.ensures.value)
    (subst (λ t. IsReached places c.args.closed.now t c.args.start c.in-Some.end) (sym c.deref-in-Some-2.ensures.value)
    (reached places c.args.closed.now c.args.banned.now costs c.args.start c.in-Some.end c.in-Some.cost least has))

pub returns-clause-ok : goal.returns-clause-ok
returns-clause-ok c =
    let places = c.args.network.now.places.items in
    let costs = c.in_ok-costs.costs.items in
    let route = c.in_ok-route-in-Some.route in
    let least = least_read _ _ _ _ _ _ c.deref.ensures.value c.in_ok-costs.ensures.least in
    let listed = listed_read _ _ _ _ _ c.deref-2.ensures.value c.deref-3.ensures.value c.in_ok-potential.ensures in
    record {
      costs = costs;
      are = record { least = least; listed = listed };
      end = c.in-Some.end;
      there = subst (λ ps. HasNode ps c.in-Some.end c.args.to) c.deref-4.ensures.value c.in-Some.ensures.0;
      has = subst (λ t. cost_at t c.in-Some.end ≡ Some c.in-Some.cost) c.deref-5.ensures.value c.in-Some.ensures.1;
      traced =
          subst (λ ps. IsTraced (Crosses ps c.args.closed.now) costs ps c.args.start c.in-Some.end route)
          c.deref-in-Some.ensures.value
          (subst (λ t. IsTraced (Crosses c.deref-in-Some.result.now c.args.closed.now) t c.deref-in-Some.result.now
          c.args.start c.in-Some.end route) c.deref-in-Some-2.ensures.value c.in_ok-route-in-Some.ensures);
    }
