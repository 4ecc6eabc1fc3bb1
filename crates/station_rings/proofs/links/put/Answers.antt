use Rattle.std.proofs.Common.{sym, subst}
use Rattle.rtrb.specs.Ring.{sent}
use Rattle.station_rings.specs.Protocols.{AreInOrder}
use Rattle.station_rings.proofs.Ordered.{in_order-then}
use Rattle.station_rings.proofs.links.put.Goals as goal

pub returns-then-not-is_empty-clause-order : goal.returns-then-not-is_empty-clause-order
returns-then-not-is_empty-clause-order c =
    subst (AreInOrder (sent c.args.out.now)) (sym c.push.ensures)
    (in_order-then (sent c.args.out.now) c.args.backlog.now c.args.parcel c.requires.order c.requires.follows)
