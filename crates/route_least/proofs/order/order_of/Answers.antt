use Rattle.route_least.proofs.Ordered.{in_order}
use Rattle.route_least.proofs.order.order_of.Goals as goal

pub returns : goal.returns
returns c =
    in_order c.args.places.now c.in_ok-order.order.items c.sort_unstable.new.self.items c.requires
    c.in_ok-order.ensures c.sort_unstable.ensures.permutation c.sort_unstable.ensures.sorted
