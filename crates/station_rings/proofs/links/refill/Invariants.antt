use Rattle.std.proofs.Common.{◌≡◌, ◌≤◌, ◌++◌, length}
use Rattle.rtrb.specs.Ring.{sent, known_free, SameProducer}
use Rattle.station_rings.specs.Protocols.{AreInOrder}
use Rattle.station_rings.proofs.links.refill.Given as goal

abbrev pub invariant-loop-parcel : goal.invariant-loop-parcel
invariant-loop-parcel l = record {
  same : SameProducer l.initial.out l.out;
  room : length l.backlog ≤ known_free l.out;
  order : AreInOrder (sent l.out) l.backlog;
  gone : sent l.out ++ l.backlog ≡ sent l.initial.out ++ l.initial.backlog;
}

abbrev pub decreases-loop-parcel : goal.decreases-loop-parcel
decreases-loop-parcel l = length l.backlog
