-- Where links and seats stay a fleet stays settled, and with more room on desks it stands for the same records.
use Rattle.std.proofs.{Common.{◌≡◌, ◌≤◌, ◌<◌, ◌^◌, ℕ, List, [], ◌∷◌, ◌++◌, get_or, length, map, refl, sym, ap, ◌∙◌, subst}, lemmas.List.length-map, lemmas.Option.{slice_get-get_or, slice_get_within}}
use Rattle.std.specs.{Prelude.{Some, slice_get, slice_set}, List.AllZip}
use Rattle.ason_base.specs.{declared.ids.NodeId.NodeId, declared.commands.DeskItem.DeskItem, declared.commands.Disturb.Disturb, declared.commands.Entry.Entry, Network.Network}
use Rattle.ason_base.proofs.{Members.map-map, Places.there-at}
use Rattle.station_rings.specs.LinkStates.{LinkState}
use Rattle.round_rules.specs.{OneWorker.ids_of, Records.Record, States.StationState, Fleets.{IsStationAt, Wires}, Looks.HasLinks}
use Rattle.fleet.specs.{declared.seats.Seat.Seat, Commands.{IsAsBefore, FleetStandsOn, but_room}, Connections.{AreConnected, AreSettled}, Noises.HasLine, Posting.{TakeItems, TakesOrder, with_clock}, Standing.{AreSeats, FleetState, KeepsRest}}
use Rattle.fleet.proofs.{Places.{map-back, set-back, zip-length}, Taking.same-places}

abbrev pub station_links : StationState → List LinkState
station_links s = s.links

zip_links : (t : Network) (w : Wires) (ns : List NodeId) (xs ys : List StationState) →
    map station_links ys ≡ map station_links xs → AllZip (HasLinks t w) ns xs → AllZip (HasLinks t w) ns ys
zip_links t w [] [] [] same all = tt
zip_links t w [] [] (y ∷ ys) same all = absurd (cc (same))
zip_links t w [] (x ∷ xs) ys same all = absurd all
zip_links t w (n ∷ ns) [] ys same all = absurd all
zip_links t w (n ∷ ns) (x ∷ xs) [] same all = absurd (cc (same))
zip_links t w (n ∷ ns) (x ∷ xs) (y ∷ ys) same all =
    let first : y.links ≡ x.links = cc (same) in
    let rest : map station_links ys ≡ map station_links xs = cc (same) in
    (first ∙ all.0, zip_links t w ns xs ys rest all.1)

connected_kept : (t : Network) (seats : List Seat) (xs ys : List StationState) → AreConnected t seats xs →
    map station_links ys ≡ map station_links xs → AreConnected t seats ys
connected_kept t seats xs ys are same = record {
  valid = are.valid;
  seated = are.seated;
  wires = are.wires;
  wired = record {
    links = zip_links t are.wires (ids_of t) xs ys same are.wired.links;
    rings = are.wired.rings;
  };
}

-- seats and stations stay settled where each link is as it was
pub settled-kept : (seats : List Seat) (xs ys : List StationState) → AreSettled seats xs →
    map station_links ys ≡ map station_links xs → AreSettled seats ys
settled-kept seats xs ys are same = (
  are.0,
  record {
    connected = connected_kept are.0 seats xs ys are.1.connected same;
    wires = are.1.wires;
    links = zip_links are.0 are.1.wires (ids_of are.0) xs ys same are.1.links;
    looked = are.1.looked;
  },
)

-- a seat for each station
pub connected-count : (t : Network) (seats : List Seat) (xs : List StationState) → AreConnected t seats xs →
    length xs ≡ length seats
connected-count t seats xs are =
    zip-length (HasLinks t are.wires) (ids_of t) xs are.wired.links
    ∙ ap length (sym are.seated.ids) ∙ length-map seats (λ (s : Seat). s.id)

pub seats-count : (seats : List Seat) (xs : List StationState) → AreSettled seats xs → length xs ≡ length seats
seats-count seats xs are = connected-count are.0 seats xs are.1.connected

-- so there is a station at the place of a seat
pub seated-within : (seats : List Seat) (xs : List StationState) (place : ℕ) → AreSettled seats xs →
    place < length seats → place < length xs
seated-within seats xs place are below = subst (λ k. place < k) (sym (seats-count seats xs are)) below

pub seated-read : (seats : List Seat) (xs : List StationState) (place : ℕ) (d : StationState) →
    AreSettled seats xs → place < length seats → slice_get xs place ≡ Some (get_or xs place d)
seated-read seats xs place d are below = slice_get-get_or xs place d (seated-within seats xs place are below)

-- more room changes no link
pub room-links : (xs ys : List StationState) → map but_room ys ≡ map but_room xs →
    map station_links ys ≡ map station_links xs
room-links xs ys same = sym (map-map but_room station_links ys) ∙ ap (map station_links) same
    ∙ map-map but_room station_links xs

-- nor do items on desks
pub items-links : (items : NodeId → List DeskItem) (stamp : ℕ) (seats : List Seat) (xs ys : List StationState) →
    length xs ≡ length seats → TakeItems items stamp seats xs ys → map station_links ys ≡ map station_links xs
items-links items stamp seats xs ys count take =
    same-places station_links xs ys take.count (λ place x y was is.
    (let n = there-at seats place (subst (λ k. place < k) count (slice_get_within xs place x was)) in
    ap station_links (take.each place n.0 x y n.1 was is).station))

-- stations that were lent, and came back with more room
pub settled-roomed : (seats : List Seat) (xs lent mid now : List StationState) → AreSettled seats xs → lent ≡ xs →
    map but_room mid ≡ map but_room lent → now ≡ mid → AreSettled seats now
settled-roomed seats xs lent mid now are was same is =
    subst (AreSettled seats) (sym is)
    (settled-kept seats lent mid (subst (AreSettled seats) (sym was) are) (room-links lent mid same))

-- a seat for each of them
pub roomed-count : {seen seats : List Seat} {xs lent mid again : List StationState} → AreSettled seats xs →
    seen ≡ seats → lent ≡ xs → map but_room mid ≡ map but_room lent → again ≡ mid → length again ≡ length seen
roomed-count {seats = seats} {xs = xs} {lent = lent} {mid = mid} are seen was same is =
    ap length is ∙ sym (length-map mid but_room) ∙ ap length same ∙ length-map lent but_room ∙ ap length was
    ∙ seats-count seats xs are ∙ sym (ap length seen)

-- and came back with the same links
pub settled-back : (seats : List Seat) (xs lent mid now : List StationState) → AreSettled seats xs → lent ≡ xs →
    map station_links mid ≡ map station_links lent → now ≡ mid → AreSettled seats now
settled-back seats xs lent mid now are was same is =
    subst (AreSettled seats) (sym is) (settled-kept seats lent mid (subst (AreSettled seats) (sym was) are) same)

-- where one station is another with the same links
pub set-links : (xs : List StationState) (place : ℕ) (x y : StationState) → slice_get xs place ≡ Some x →
    y.links ≡ x.links → map station_links (slice_set xs place y) ≡ map station_links xs
set-links xs place x y at same = map-back station_links xs place x y at same

-- one that is as it was
pub set-same : (xs : List StationState) (place : ℕ) (x y : StationState) → slice_get xs place ≡ Some x → y ≡ x →
    slice_set xs place y ≡ xs
set-same xs place x y at same = set-back xs place x y at same

-- one station has an item more
pub order-links : (place : ℕ) (item : DeskItem) (stamp : ℕ) (xs ys : List StationState) →
    TakesOrder place item stamp xs ys → map station_links ys ≡ map station_links xs
order-links place item stamp xs ys take =
    ap (map station_links) take.clocks ∙ map-map (with_clock stamp) station_links take.put
    ∙ ap (map station_links) take.is_put.stations
    ∙ set-links xs place take.is_put.before take.is_put.after take.is_put.there
    (ap station_links take.is_put.told.station)

-- or a line
pub line-links : (d : Disturb) (place : ℕ) (xs ys : List StationState) → HasLine d place xs ys →
    map station_links ys ≡ map station_links xs
line-links d place xs ys has =
    ap (map station_links) has.stations
    ∙ set-links xs place has.before (record has.before { lines = has.before.lines ++ d ∷ [] }) has.there refl

-- Where its stations are those that its parts show a fleet is as it was.
pub lent-same : {parts value : FleetState} {xs : List StationState} → parts ≡ value → xs ≡ parts.stations →
    record parts { stations = xs } ≡ value
lent-same {parts = parts} is same = ap (λ (ys : List StationState). record parts { stations = ys }) same ∙ is

-- The rest of a fleet is what its parts show of it.
pub rest-kept : {parts value : FleetState} {xs : List StationState} → parts ≡ value →
    KeepsRest value (record parts { stations = xs })
rest-kept is = record {
  posts = ap (λ (f : FleetState). f.posts) is;
  network = ap (λ (f : FleetState). f.network) is;
  failed = ap (λ (f : FleetState). f.failed) is;
}

-- With more room on desks and the posts that were a fleet is as before.
pub roomed-same : {parts value : FleetState} {xs : List StationState} {posts : List Entry} → parts ≡ value →
    map but_room xs ≡ map but_room parts.stations → posts ≡ parts.posts →
    IsAsBefore value (record parts { stations = xs; posts = posts })
roomed-same is room posts = record {
  stations = room ∙ ap (λ (f : FleetState). map but_room f.stations) is;
  seats = ap (λ (f : FleetState). f.seats) is;
  rest = record {
    posts = posts ∙ ap (λ (f : FleetState). f.posts) is;
    network = ap (λ (f : FleetState). f.network) is;
    failed = ap (λ (f : FleetState). f.failed) is;
  };
}

-- Room

roomed : (t : Network) (lines : List Disturb) (r : Record) (w : Wires) (n : NodeId) (x y : StationState) →
    but_room y ≡ but_room x → IsStationAt t lines r w n x → IsStationAt t lines r w n y
roomed t lines r w n x y same is =
    back (subst (IsStationAt t lines r w n) (sym same) (record {
      station = record { stands = is.station.stands; taken = is.station.taken };
      links = is.links;
      told = is.told;
    }))
  where
    back : IsStationAt t lines r w n (but_room y) → IsStationAt t lines r w n y
    back k = record {
      station = record { stands = k.station.stands; taken = k.station.taken };
      links = k.links;
      told = k.told;
    }

zip_roomed : (t : Network) (lines : List Disturb) (r : Record) (w : Wires) (ns : List NodeId)
    (xs ys : List StationState) → map but_room ys ≡ map but_room xs → AllZip (IsStationAt t lines r w) ns xs →
    AllZip (IsStationAt t lines r w) ns ys
zip_roomed t lines r w [] [] [] same all = tt
zip_roomed t lines r w [] [] (y ∷ ys) same all = absurd (cc (same))
zip_roomed t lines r w [] (x ∷ xs) ys same all = absurd all
zip_roomed t lines r w (n ∷ ns) [] ys same all = absurd all
zip_roomed t lines r w (n ∷ ns) (x ∷ xs) [] same all = absurd (cc (same))
zip_roomed t lines r w (n ∷ ns) (x ∷ xs) (y ∷ ys) same all =
    let first : but_room y ≡ but_room x = cc (same) in
    let rest : map but_room ys ≡ map but_room xs = cc (same) in
    (roomed t lines r w n x y first all.0, zip_roomed t lines r w ns xs ys rest all.1)

-- With more room on desks a fleet stands for the same records.
pub room-stands : (old new : FleetState) → IsAsBefore old new → FleetStandsOn old new
room-stands old new same t lines r s = record {
  seats = subst (AreSeats t) (sym same.seats) s.seats;
  wires = s.wires;
  stations = record {
    valid = s.stations.valid;
    each = zip_roomed t lines r s.wires (ids_of t) old.stations new.stations same.stations s.stations.each;
    rings = s.stations.rings;
    nowhere = s.stations.nowhere;
    posts = s.stations.posts;
  };
  begun = s.begun;
  posts = same.rest.posts ∙ s.posts;
  follow = s.follow;
  few = subst (λ ps. length ps ≤ 2 ^ 32) (sym same.rest.posts) s.few;
  network = same.rest.network ∙ s.network;
  failed = same.rest.failed ∙ s.failed;
}
