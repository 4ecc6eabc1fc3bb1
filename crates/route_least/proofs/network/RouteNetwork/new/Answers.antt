use Rattle.std.proofs.Common.{sym, subst}
use Rattle.route_least.specs.Network.{AreNodesInOrder, AreOnce}
use Rattle.route_least.proofs.RouteLaws.{few}
use Rattle.route_least.proofs.network.RouteNetwork.new.Goals as goal

pub order_of-requires : goal.order_of-requires
order_of-requires c = subst AreOnce (sym c.deref.ensures.value) c.in_ok-places.ensures.once

pub returns : goal.returns
returns c = record {
  places = c.in_ok-places.ensures;
  order = subst (λ ps. AreNodesInOrder ps c.in_ok-order.order.items) c.deref.ensures.value c.in_ok-order.ensures;
  few = few c.args.rows.now c.in_ok-places.places.items c.requires.ends c.in_ok-places.ensures;
  metrics = c.requires.metrics;
  links = c.requires.links;
}
