-- The station of a node whose seat was found.
use Rattle.std.proofs.{Common.{◌≡◌, ◌<◌, ℕ, List, length, get_or, refl, sym, ap, ◌∙◌, arith}, lemmas.Option.slice_get_read}
use Rattle.std.specs.Prelude.{Some, position, slice_get, slice_set}
use Rattle.ason_base.specs.declared.ids.NodeId.{NodeId}
use Rattle.round_rules.specs.States.{StationState}
use Rattle.fleet.specs.{declared.seats.Seat.Seat, Commands.{is_seat, station_of, station_in}, Connections.AreSettled, Standing.FleetState}
use Rattle.fleet.proofs.{Finding.place-within, KeptSeats.{lent-same, seats-count, set-links, set-same, settled-kept}}

-- There is a station at the place of the seat.
pub station-within : {seen seats : List Seat} {stations : List StationState} {place len : ℕ} (n : NodeId) →
    AreSettled seats stations → seen ≡ seats → Some place ≡ position (is_seat n) seen →
    len ≡ length stations → place < len
station-within {seen = seen} {seats = seats} {stations = stations} {place = place} n have same at count =
    omega (
      arith,
      place-within (is_seat n) seen place (sym at),
      ap length same,
      seats-count seats stations have,
      count,
    )

-- the station at this place is that of the node, in what the parts of the fleet show and in the fleet
pub record IsFound (parts value : FleetState) (n : NodeId) (place : ℕ) (s : StationState) : Type 0 where
  pub is : parts ≡ value
  pub have : AreSettled parts.seats parts.stations
  pub at : slice_get parts.stations place ≡ Some s
  pub there : slice_get value.stations place ≡ Some s
  pub found : position (is_seat n) value.seats ≡ Some place

-- What is read at the place of the seat is the station.
pub station-found : {parts value : FleetState} {seen : List Seat} {place : ℕ} {s : StationState} (n : NodeId) →
    parts ≡ value → AreSettled parts.seats parts.stations → seen ≡ parts.seats →
    Some place ≡ position (is_seat n) seen → s ≡ get_or parts.stations place s → IsFound parts value n place s
station-found {parts = parts} {place = place} {s = s} n is have same at read =
    let here : slice_get parts.stations place ≡ Some s =
    slice_get_read parts.stations (length parts.stations) place s refl (station-within n have same at refl) read in
    record {
      is = is;
      have = have;
      at = here;
      there = ap (λ (f : FleetState). slice_get f.stations place) (sym is) ∙ here;
      found = ap (position (is_seat n)) (sym (same ∙ ap (λ (f : FleetState). f.seats) is)) ∙ sym at;
    }

module _ {parts value : FleetState} {n : NodeId} {place : ℕ} {s : StationState}
    (is : IsFound parts value n place s) where
  -- It is the fleet's station of the node.
  pub found-station : station_of value n ≡ Some s
  found-station = ap (station_in value) is.found ∙ is.there

  -- Where it keeps its links the fleet stays settled.
  pub found-kept : (new : StationState) → new.links ≡ s.links →
      AreSettled parts.seats (slice_set parts.stations place new)
  found-kept new same =
      settled-kept parts.seats parts.stations (slice_set parts.stations place new) is.have
      (set-links parts.stations place s new is.at same)

  -- Where it is as it was so is the fleet.
  pub found-same : (new : StationState) → new ≡ s →
      record parts { stations = slice_set parts.stations place new } ≡ value
  found-same new same = lent-same is.is (set-same parts.stations place s new is.at same)
