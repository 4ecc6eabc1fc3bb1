-- A fleet that stands for a record is connected.
use Rattle.std.proofs.{Common.{◌≡◌, ◌≤◌, ◌+◌, ℕ, true, List, length, sym, ap, ◌∙◌, arith}, lemmas.List.{length-append, length-map}}
use Rattle.std.specs.List.{AllZip}
use Rattle.rtrb.specs.Ring.{received}
use Rattle.ason_base.specs.{declared.ids.NodeId.NodeId, declared.commands.Disturb.Disturb, Network.Network}
use Rattle.world_rules.specs.WorldRuns.{is_world_channel}
use Rattle.station_rings.specs.{declared.parcel.Parcel.Parcel, LinkStates.{LinkState, gone_of}}
use Rattle.round_rules.specs.{States.{IsTakenFrom, StationState}, Doings.Doing, OneWorker.ids_of, Records.Record, Rings.got_from, Fleets.{AreStanding, IsRingOf, IsStationAt, Wires}, Looks.HasLinks}
use Rattle.round_rules.proofs.{Choosing.zip-more, Wired.{ChannelEnds, channel-ends, link-peer, link-taken}}
use Rattle.fleet.specs.{declared.seats.Seat.Seat, Connections.{AreConnected, IsRing}, Standing.AreSeats}

-- what came out of a ring was taken, or is early
came_count : (ds : List Doing) (l : LinkState) (u : NodeId) → l.peer ≡ u → IsTakenFrom ds l →
    length (received l.into) ≡ length (got_from u ds) + length l.early
came_count ds l u peer is =
    ap length is.came ∙ length-append is.taken l.early
    ∙ ap (λ k. k + length l.early) (sym (length-map is.taken (λ (p : Parcel). p.number)) ∙ ap length is.numbers
    ∙ ap (λ (v : NodeId). length (got_from v ds)) peer)

ring : (t : Network) (lines : List Disturb) (r : Record) (w : Wires) (xs : List StationState) →
    AreStanding t lines r w xs → (u d : NodeId) → is_world_channel t u d ≡ true → IsRing w u d
ring t lines r w xs all u d channel = record {
  peer = link-peer t lines r w u ends.sender ends.sends d ends.out;
  ends = is.ends;
  room = numbers (length (w d.0 u.0).early) (length (gone_of (w u.0 d.0))) (w u.0 d.0).standing
      (length (received (w d.0 u.0).into)) (length (got_from u (r.doings d.0))) is.room
      (came_count (r.doings d.0) (w d.0 u.0) u (link-peer t lines r w d ends.receiver ends.receives u ends.into)
      (link-taken t lines r w d ends.receiver ends.receives u ends.into));
  most = is.most;
}
  where
    ends : ChannelEnds t lines r w u d
    ends = channel-ends t lines r w xs all u d channel

    is : IsRingOf t r w u d
    is = all.rings u d channel

    numbers : (e g s c k : ℕ) → g ≤ s + k → c ≡ k + e → e + g ≤ s + c
    numbers e g s c k p q = omega (arith, p, q)

pub standing-links : (t : Network) (lines : List Disturb) (r : Record) (w : Wires) (xs : List StationState) →
    AreStanding t lines r w xs → AllZip (HasLinks t w) (ids_of t) xs
standing-links t lines r w xs all =
    zip-more (IsStationAt t lines r w) (HasLinks t w) (λ n s is. is.links) (ids_of t) xs all.each

pub standing-connected : (t : Network) (lines : List Disturb) (seats : List Seat) (r : Record) (w : Wires)
    (xs : List StationState) → AreSeats t seats → AreStanding t lines r w xs → AreConnected t seats xs
standing-connected t lines seats r w xs are all = record {
  valid = all.valid;
  seated = are;
  wires = w;
  wired = record { links = standing-links t lines r w xs all; rings = ring t lines r w xs all };
}
