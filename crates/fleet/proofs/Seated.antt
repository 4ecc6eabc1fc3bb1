-- Where the link of a station leads, and that both ends of its rings are there.
use Rattle.std.proofs.{Common.{◌≡◌, ◌<◌, ◌≤◌, ◌+◌, ℕ, true, List, get_or, length, refl, sym, ap, ◌∙◌, subst, arith}, lemmas.Option.{slice_get_read, slice_get_within}}
use Rattle.std.specs.Prelude.{Some, slice_get}
use Rattle.ason_base.specs.{declared.limits.TheConstants.MOST_FRAMES, declared.ids.NodeId.NodeId, Network.Network}
use Rattle.flood.proofs.Members.{there_from_place}
use Rattle.rtrb.specs.Ring.{received}
use Rattle.world_rules.specs.WorldRuns.{is_world_channel, neighbours_of}
use Rattle.station_rings.specs.LinkStates.{IsFew, gone_of}
use Rattle.round_rules.specs.{OneWorker.ids_of, States.StationState, Fleets.Wires, Looks.HasLinks}
use Rattle.round_rules.proofs.Nodes.{channel-back, channel-near, joins-nodes}
use Rattle.fleet.specs.{declared.seats.End.End, declared.seats.Seat.Seat, Connections.{AreConnected, IsRing}, Looks.AreStationsJoined, Standing.{AreSeats, IsFarEnd, IsSeat}}
use Rattle.fleet.proofs.Places.{get-map, places-differ, zip-get}
use Rattle.ason_base.proofs.Places.{all-at, there-at}

-- from each neighbour leads a channel
pub near-channel : (t : Network) (n u : NodeId) (link : ℕ) → slice_get (neighbours_of t n) link ≡ Some u →
    is_world_channel t n u ≡ true
near-channel t n u link at =
    channel-back t u n (channel-near t n u (there_from_place (neighbours_of t n) link u at))

-- this link of a seat leads from one node to another, and its far end leads back
pub record IsLed (t : Network) (place link : ℕ) (e : End) : Type 0 where
  pub node : NodeId
  pub peer : NodeId
  pub at : slice_get (ids_of t) place ≡ Some node
  pub near : slice_get (neighbours_of t node) link ≡ Some peer
  pub end : IsFarEnd t node peer e

led : (t : Network) (seats : List Seat) (place link : ℕ) (s : Seat) (e : End) → AreSeats t seats →
    slice_get seats place ≡ Some s → slice_get s.ends.items link ≡ Some e → IsLed t place link e
led t seats place link s e are at ends = record {
  node = s.id;
  peer = near.0;
  at = ap (λ ids. slice_get ids place) (sym are.ids) ∙ get-map (λ (x : Seat). x.id) seats place s at;
  near = near.1;
  end = seat.each link e near.0 ends near.1;
}
  where
    seat : IsSeat t s
    seat = all-at (IsSeat t) seats place s are.each at

    near : (u : NodeId) × (slice_get (neighbours_of t s.id) link ≡ Some u)
    near = there-at (neighbours_of t s.id) link
        (subst (λ k. link < k) seat.count (slice_get_within s.ends.items link e ends))

-- the link and the far end that are read
pub led-read : (t : Network) (seats : List Seat) (place link : ℕ) (s : Seat) (e : End) → AreSeats t seats →
    place < length seats → s ≡ get_or seats place s →
    ((x : Seat) → slice_get seats place ≡ Some x → link < length x.ends.items) →
    e ≡ get_or (get_or seats place s).ends.items link e → IsLed t place link e
led-read t seats place link s e are below seat inside end =
    let at : slice_get seats place ≡ Some s = slice_get_read seats (length seats) place s refl below seat in
    led t seats place link s e are at (slice_get_read s.ends.items (length s.ends.items) link e refl (inside s at)
    (end ∙ ap (λ (x : Seat). get_or x.ends.items link e) (sym seat)))

-- the link of the station at this place to a neighbour
pub link-near : (t : Network) (w : Wires) (n u : NodeId) (s : StationState) (link : ℕ) → HasLinks t w n s →
    slice_get (neighbours_of t n) link ≡ Some u → slice_get s.links link ≡ Some (w n.0 u.0)
link-near t w n u s link has near =
    ap (λ ls. slice_get ls link) has ∙ get-map (λ (v : NodeId). w n.0 v.0) (neighbours_of t n) link u near

few : (w : Wires) (u d : NodeId) → IsRing w u d → IsFew (w u.0 d.0) (w d.0 u.0)
few w u d ring =
    less (length (w d.0 u.0).early + length (gone_of (w u.0 d.0))) (w u.0 d.0).standing
    (length (received (w d.0 u.0).into)) ring.room ring.most
  where
    less : (a s r : ℕ) → a ≤ s + r → s ≤ MOST_FRAMES → a ≤ MOST_FRAMES + r
    less a s r p q = omega (arith, p, q)

-- So both stations are there, and at each the link to the other.
pub led-joined : (t : Network) (seats : List Seat) (stations : List StationState) (place link : ℕ) (e : End) →
    AreConnected t seats stations → IsLed t place link e → AreStationsJoined stations place link e
led-joined t seats stations place link e all is = record {
  apart = places-differ (ids_of t) place e.station is.node is.peer is.at is.end.station
      (joins-nodes t is.node is.peer channel).other;
  here = here.0;
  there = there.0;
  is_here = here.1;
  is_there = there.1;
  near = w is.node.0 is.peer.0;
  far = w is.peer.0 is.node.0;
  is_near = link-near t w is.node is.peer here.0 link here.2 is.near;
  is_far = link-near t w is.peer is.node there.0 e.link there.2 is.end.link;
  ends = ring.ends;
  few = record {
    there = few w is.node is.peer ring;
    back = few w is.peer is.node (all.wired.rings is.peer is.node (channel-back t is.node is.peer channel));
  };
}
  where
    w : Wires
    w = all.wires

    channel : is_world_channel t is.node is.peer ≡ true
    channel = near-channel t is.node is.peer link is.near

    ring : IsRing w is.node is.peer
    ring = all.wired.rings is.node is.peer channel

    here : (s : StationState) × (slice_get stations place ≡ Some s) × HasLinks t w is.node s
    here = zip-get (HasLinks t w) (ids_of t) stations place is.node all.wired.links is.at

    there : (s : StationState) × (slice_get stations e.station ≡ Some s) × HasLinks t w is.peer s
    there = zip-get (HasLinks t w) (ids_of t) stations e.station is.peer all.wired.links is.end.station
