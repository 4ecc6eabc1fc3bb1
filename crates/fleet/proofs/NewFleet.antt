-- New stations and their seats are a fleet's, in which nothing was done.
use Rattle.std.proofs.Common.{◌≡◌, ◌≤◌, ◌+◌, ◌^◌, ℕ, List, [], ◌∷◌, length, sym, ap, subst, arith}
use Rattle.std.specs.List.{AllZip}
use Rattle.ason_base.specs.{declared.limits.TheConstants.MOST_FRAMES, declared.ids.NodeId.NodeId, Network.Network}
use Rattle.rtrb.specs.Ring.{received}
use Rattle.round_rules.specs.{OneWorker.ids_of, Records.new_record, States.StationState, Commands.{BeginsAsNew, IsNewAt, IsNewRing, NewStationsStand}, Fleets.Wires, Looks.{HasLinks, KnownHaveBegun, LooksStand, LooksTell}}
use Rattle.station_rings.specs.LinkStates.{gone_of}
use Rattle.round_rules.proofs.Nodes.{channel-back}
use Rattle.fleet.specs.{declared.seats.Seat.Seat, Connections.{AreConnected, AreSettled, HaveSeats, IsRing}, Joining.AreNew, Looks.{HaveLooked, IsAny, LooksOver}, Standing.{AreSeats, FleetState, StandsFor}}
use Rattle.fleet.proofs.Connected.{standing-links}

zip_links : (t : Network) (w : Wires) (ns : List NodeId) (xs : List StationState) → AllZip (IsNewAt t w) ns xs →
    AllZip (HasLinks t w) ns xs
zip_links t w [] [] all = tt
zip_links t w [] (x ∷ xs) all = absurd all
zip_links t w (n ∷ ns) [] all = absurd all
zip_links t w (n ∷ ns) (x ∷ xs) all = (all.0.links, zip_links t w ns xs all.1)

-- over a new ring nothing was handed, and nothing stands in it
new_ring : (w : Wires) (u d : NodeId) → IsNewRing w u d → IsNewRing w d u → IsRing w u d
new_ring w u d there back = record {
  peer = there.new.peer;
  ends = there.ends;
  room =
      room (length (w d.0 u.0).early) (length (gone_of (w u.0 d.0))) (w u.0 d.0).standing
      (length (received (w d.0 u.0).into)) (ap length back.new.early) (ap length there.new.gone);
  most = most (w u.0 d.0).standing there.new.standing;
}
  where
    room : (a b c d : ℕ) → a ≡ 0 → b ≡ 0 → a + b ≤ c + d
    room a b c d p q = omega (arith, p, q)

    most : (a : ℕ) → a ≡ 0 → a ≤ MOST_FRAMES
    most a p = omega (arith, p)

-- The seats and the new stations are those of a network.
pub new-connected : (t : Network) (seats : List Seat) (xs : List StationState) → AreSeats t seats → AreNew t xs
    → AreConnected t seats xs
new-connected t seats xs seated new = record {
  valid = new.valid;
  seated = seated;
  wires = new.wires;
  wired = record {
    links = zip_links t new.wires (ids_of t) xs new.each;
    rings = λ u d on. new_ring new.wires u d (new.rings u d on) (new.rings d u (channel-back t u d on));
  };
}

-- They may have been lent.
pub new-lent : (t : Network) (ss seats : List Seat) (lent xs : List StationState) → ss ≡ seats → lent ≡ xs →
    AreSeats t seats → AreNew t xs → HaveSeats ss lent
new-lent t ss seats lent xs same was seated new = (
  t,
  subst (λ ks. AreConnected t ks lent) (sym same)
      (subst (AreConnected t seats) (sym was) (new-connected t seats xs seated new)),
)

-- what was looked at, of the stations that were lent and came back
pub looks-back : (ss seats : List Seat) (lent xs now zs : List StationState) → ss ≡ seats → lent ≡ xs → now ≡ zs →
    LooksOver ss IsAny lent now → LooksOver seats IsAny xs zs
looks-back ss seats lent xs now zs same was is looks =
    subst (LooksOver seats IsAny xs) is
    (subst (λ ks. LooksOver seats IsAny ks now) was (subst (λ ks. LooksOver ks IsAny lent now) same looks))

pub settled-new : (ss seats : List Seat) (now zs : List StationState) → ss ≡ seats → now ≡ zs → AreSettled ss now →
    AreSettled seats zs
settled-new ss seats now zs same is all =
    subst (AreSettled seats) is (subst (λ ks. AreSettled ks now) same all)

-- After a look at all rings they stand for the record in which nothing was done.
pub new-stands : NewStationsStand → LooksStand → LooksTell → KnownHaveBegun → (t : Network) (f : FleetState)
    (xs : List StationState) → AreSeats t f.seats → AreNew t xs → LooksOver f.seats IsAny xs f.stations →
    f.posts ≡ [] → f.network ≡ t → f.failed ≡ [] → StandsFor t [] f new_record
new-stands start stand tell begun t f xs seated new looks posts network failed = record {
  seats = seated;
  wires = now.wires_now;
  stations =
      stand t [] new_record new.wires now.wires_now xs f.stations begins.stands now.kept now.links now.ways;
  begun = λ u d channel.
      begun now.wires_now u d (tell new.wires now.wires_now u d (now.seen u d channel channel));
  posts = posts;
  follow = begins.follow;
  few = subst (λ k. length k ≤ 2 ^ 32) (sym posts) (omega arith);
  network = network;
  failed = failed;
}
  where
    begins : BeginsAsNew t new.wires xs
    begins = start t new.wires xs new.valid new.each new.rings

    now : HaveLooked t new.wires xs f.stations (IsAny t)
    now = looks t (new-connected t f.seats xs seated new) new.wires
        (standing-links t [] new_record new.wires xs begins.stands)
