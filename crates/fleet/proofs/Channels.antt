-- The link of a station to the other end of a channel.
use Rattle.std.proofs.Common.{◌≡◌, ℕ, true, false, nat_eq, List, refl, sym, ap, ◌∙◌}
use Rattle.std.specs.{Prelude.{None, Option, Some, position, slice_get}, List.Contains}
use Rattle.ason_base.specs.{declared.ids.NodeId.NodeId, declared.commands.Disturb.Disturb, Network.{Network, is_node_id}}
use Rattle.ason_base.proofs.{Numbers.self-number, Members.one-of_all, Bridges.same_node}
use Rattle.flood.proofs.Members.{there_from_place}
use Rattle.world_rules.specs.WorldRuns.{is_world_channel, neighbours_of}
use Rattle.station_rings.specs.LinkStates.{LinkState}
use Rattle.station.specs.Sending.{is_link_to}
use Rattle.round_rules.specs.{OneWorker.ids_of, Records.Record, Rings.count_of, States.StationState, Fleets.{AreStanding, IsStationAt, Wires}}
use Rattle.round_rules.proofs.{Nodes.{channel-back, joins-nodes, near-there}, Wired.{link-count, link-peer, link-there}}
use Rattle.fleet.specs.{declared.seats.Seat.Seat, Commands.is_seat, Noises.{sent_at, sent_by_link, sent_from, sent_of, sent_on}, Standing.{AreSeats, FleetState, StandsFor}}
use Rattle.fleet.proofs.{Finding.{first-at, seat-found, seat-lost}, Firsts.none-passes, Places.{map-get, zip-get}}

-- the link to a neighbour is found
pub record IsLinkTo (w : Wires) (n u : NodeId) (s : StationState) : Type 0 where
  pub place : ℕ
  pub found : position (is_link_to u) s.links ≡ Some place
  pub is : slice_get s.links place ≡ Some (w n.0 u.0)

pub link-to : (t : Network) (lines : List Disturb) (r : Record) (w : Wires) (n : NodeId) (s : StationState) →
    IsStationAt t lines r w n s → (u : NodeId) → Contains (neighbours_of t n) u → IsLinkTo w n u s
link-to t lines r w n s is u near = go (position (is_link_to u) s.links) refl
  where
    go : (o : Option ℕ) → position (is_link_to u) s.links ≡ o → IsLinkTo w n u s
    go None e =
        let lost = one-of_all (λ (l : LinkState). is_link_to u l ≡ false) s.links (w n.0 u.0)
        (none-passes (is_link_to u) s.links e) (link-there t lines r w n s is u near) in
        absurd (cc (lost, ap (λ (v : NodeId). nat_eq v.0 u.0) (link-peer t lines r w n s is u near), self-number u.0))
    go (Some place) e =
        let first = first-at (is_link_to u) s.links place e in
        let v = map-get (λ (k : NodeId). w n.0 k.0) (neighbours_of t n) place first.item
        (ap (λ ls. slice_get ls place) (sym is.links) ∙ first.there) in
        let peer : (w n.0 v.0.0).peer ≡ v.0 =
        link-peer t lines r w n s is v.0 (there_from_place (neighbours_of t n) place v.0 v.1) in
        let same : v.0 ≡ u =
        sym peer ∙ ap (λ (l : LinkState). l.peer) v.2 ∙ same_node first.item.peer u first.passes in
        record {
          place = place;
          found = e;
          is = first.there ∙ ap Some (sym v.2) ∙ ap (λ (k : NodeId). Some (w n.0 k.0)) same;
        }

-- the station of a node of the network, at the place of its seat
pub record IsSeated (t : Network) (lines : List Disturb) (r : Record) (w : Wires) (seats : List Seat)
    (stations : List StationState) (n : NodeId) : Type 0 where
  pub place : ℕ
  pub found : position (is_seat n) seats ≡ Some place
  pub node : slice_get (ids_of t) place ≡ Some n
  pub station : StationState
  pub there : slice_get stations place ≡ Some station
  pub is : IsStationAt t lines r w n station

pub seated : (t : Network) (lines : List Disturb) (r : Record) (w : Wires) (seats : List Seat)
    (stations : List StationState) → AreSeats t seats → AreStanding t lines r w stations → (n : NodeId) →
    is_node_id t.nodes n ≡ true → IsSeated t lines r w seats stations n
seated t lines r w seats stations are all n known = go (position (is_seat n) seats) refl
  where
    go : (o : Option ℕ) → position (is_seat n) seats ≡ o → IsSeated t lines r w seats stations n
    go None e = absurd (seat-lost t seats n are e known)
    go (Some place) e =
        let node = seat-found t seats n place are e in
        let s = zip-get (IsStationAt t lines r w) (ids_of t) stations place n all.each node in
        record { place = place; found = e; node = node; station = s.0; there = s.1; is = s.2 }

-- so many frames were sent on a channel as its station counts
pub sent-is-count : (t : Network) (lines : List Disturb) (f : FleetState) (r : Record) → StandsFor t lines f r →
    (u d : NodeId) → is_world_channel t u d ≡ true → sent_on f.seats f.stations u d ≡ Some (count_of t r u d)
sent-is-count t lines f r s u d joined =
    ap (sent_of d f.stations) at.found ∙ ap (sent_from d) at.there ∙ ap (sent_at at.station.links) link.found
    ∙ ap sent_by_link link.is ∙ ap Some (link-count t lines r s.wires u at.station at.is d near)
  where
    at : IsSeated t lines r s.wires f.seats f.stations u
    at = seated t lines r s.wires f.seats f.stations s.seats s.stations u (joins-nodes t u d joined).from

    near : Contains (neighbours_of t u) d
    near = near-there t u d (channel-back t u d joined)

    link : IsLinkTo s.wires u d at.station
    link = link-to t lines r s.wires u at.station at.is d near
