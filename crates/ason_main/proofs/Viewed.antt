-- The station of a node that is watched is in view, and what its viewer is told.
use Rattle.std.proofs.{Common.{◌≡◌, ◌==◌, ◌+◌, ℕ, false, not, cond, nat_lt, List, [], ◌∷◌, map, refl, sym, ap, ◌∙◌, subst, append-nil}, lemmas.List.length-map}
use Rattle.std.specs.{Prelude.{Option, Some, None, Ok, Err, IsSome, position, slice_set}, List.position_or_len}
use Rattle.ason_base.specs.{declared.commands.Disturb.Disturb, declared.ids.NodeId.NodeId, Network.Network}
use Rattle.ason_base.proofs.Places.{all-at}
use Rattle.fleet.specs.{declared.seats.Seat.Seat, Commands.{is_seat, station_in, station_of}, Standing.{FleetState, StandsFor}, Views.{AreUnwatched, HasStation, WatchesAt, publisher_in, publisher_of}}
use Rattle.fleet.proofs.{Finding.seat-lost, Places.{set-there, zip-get}}
use Rattle.mgmt_view.specs.{Publishing.{PublisherState, published_first}, Tables.EndsWith, Viewing.ViewerState, declared.node_table.NodeTable.NodeTable}
use Rattle.mgmt_view.proofs.Reading.{last-read, one-last}
use Rattle.plan_reader.specs.{declared.plan.Plan.Plan, Names.place_of}
use Rattle.plan_reader.proofs.KnownNodes.{place_is_known}
use Rattle.round_rules.specs.{Records.Record, States.StationState}
use Rattle.station.specs.Watched.{table_of, tables_by}
use Rattle.station.specs.declared.watching.WatchFault.TheVariants as fault
use Rattle.table_text.specs.EndsText.{plan_node}
use Rattle.ason_main.specs.Views.{HasReadLast, IsInView, IsTableOf, IsViewed, StayInView, ends_in_noise}
use Rattle.ason_main.proofs.Rounded.{AreWithoutNoise}

-- What is told

published_of : (n : NodeId) (f : FleetState) (v : IsViewed n f) →
    tables_by (publisher_of n f) ≡ Some v.2.publisher.published
published_of n f v = ap (λ o. tables_by (publisher_in o)) v.1 ∙ ap tables_by v.2.watched

-- there is something
pub told_some : (n : NodeId) (f : FleetState) → IsViewed n f → None ≡ tables_by (publisher_of n f) → ⊥
told_some n f v none = absurd (cc (none, published_of n f v))

-- What is read

-- the table that is read behind the last token is one of the node's station
pub read_view : (n : NodeId) (f : FleetState) (old new : ViewerState) (t : NodeTable) (v : IsViewed n f) →
    HasReadLast n f old new t → IsTableOf t v.0
read_view n f old new t v is =
    let published = v.2.publisher.published in
    let same : Some is.published ≡ Some published = sym is.all ∙ published_of n f v in
    let all : is.published ≡ published = cc (same) in
    let read : EndsWith published t =
    subst (λ tables. EndsWith tables t) all (last-read old is.learnt new is.published t is.token is.read) in
    subst (λ u. IsTableOf u v.0) (one-last published v.2.table t v.2.last read) v.2.is_table

-- The station of the node

place_map : {X Y : Type 0} (f : X → Y) (q : Y → _) (xs : List X) →
    position_or_len (λ x. q (f x)) xs ≡ position_or_len q (map f xs)
place_map f q [] = refl
place_map f q (x ∷ xs) = ap (λ k. cond (not (q (f x))) (1 + k) 0) (place_map f q xs)

found_map : {X Y : Type 0} (f : X → Y) (q : Y → _) (xs : List X) →
    position (λ x. q (f x)) xs ≡ position q (map f xs)
found_map f q xs = λ i.
    cond (nat_lt (place_map f q xs i) (sym (length-map xs f) i)) (Some (place_map f q xs i)) None

-- it stands at one place in fleets of one network
one_place : (t : Network) (ls ms : List Disturb) (r q : Record) (n : NodeId) (old new : FleetState) →
    StandsFor t ls old r → StandsFor t ms new q → position (is_seat n) new.seats ≡ position (is_seat n) old.seats
one_place t ls ms r q n old new before after =
    found_map (λ (s : Seat). s.id) (λ (m : NodeId). m.0 == n.0) new.seats
    ∙ ap (position (λ (m : NodeId). m.0 == n.0)) (after.seats.ids ∙ sym before.seats.ids)
    ∙ sym (found_map (λ (s : Seat). s.id) (λ (m : NodeId). m.0 == n.0) old.seats)

-- it stays in view
pub view_lasts : (t : Network) (ls ms : List Disturb) (r q : Record) (n : NodeId) (old new : FleetState) →
    StandsFor t ls old r → StandsFor t ms new q → StayInView old.stations new.stations → IsViewed n old →
    IsViewed n new
view_lasts t ls ms r q n old new before after stay v =
    go (position (is_seat n) old.seats) (one_place t ls ms r q n old new before after) v.1
  where
    go : (o : Option ℕ) → position (is_seat n) new.seats ≡ o → station_in old o ≡ Some v.0 → IsViewed n new
    go None at there = absurd (cc (there))
    go (Some place) at there =
        let z = zip-get (λ (s z : StationState). IsInView s → IsInView z) old.stations new.stations place v.0 stay
        there in
        (z.0, ap (station_in new) at ∙ z.1, z.2 v.2)

-- A new fleet

-- a node of the plan has a station
pub named_node : (p : Plan) (name : List ℕ) (n : NodeId) (f : FleetState) (lines : List Disturb) (r : Record) →
    plan_node p name ≡ Some n → StandsFor p.topology lines f r → HasStation n f
named_node p name n f lines r named stands = go (position (is_seat n) f.seats) refl
  where
    go : (o : Option ℕ) → position (is_seat n) f.seats ≡ o → IsSome o
    go None none =
        absurd (seat-lost p.topology f.seats n stands.seats none
        (place_is_known p.topology.nodes (place_of p.node_names name) n named))
    go (Some place) found = refl

-- from now on it is in view
pub watched_view : (n : NodeId) (v : ViewerState) (old new : FleetState) → AreWithoutNoise old.stations →
    WatchesAt n (Ok v) old new → IsViewed n new
watched_view n v old new ended is = (
  is.after,
  ap (λ (f : FleetState). station_of f n) is.fleet
      ∙ ap (station_in (record old { stations = slice_set old.stations is.place is.after })) is.found
      ∙ set-there old.stations is.place is.before is.after is.there,
  record {
    publisher = published_first (table_of is.before);
    watched = ap (λ (s : StationState). s.publisher) is.watches.station;
    table = table_of is.before;
    last = refl;
    is_table = subst (IsTableOf (table_of is.before)) (sym is.watches.station) (record {
      legs = refl;
      before = is.before.log;
      since = [];
      noise = tt;
      ended = all-at (λ (s : StationState). ends_in_noise s.log ≡ false) old.stations is.place is.before ended is.there;
      log = sym (append-nil is.before.log);
      entries = refl;
    });
  },
)

none_watched : (o : Option PublisherState) → o ≡ None → IsSome o → ⊥
none_watched o none some = absurd (cc (none, some))

-- it wasn't watched before
pub not_watched : (n : NodeId) (old new : FleetState) → AreUnwatched old.stations →
    WatchesAt n (Err fault.Watched) old new → ⊥
not_watched n old new all is =
    none_watched is.before.publisher
    (all-at (λ (s : StationState). s.publisher ≡ None) old.stations is.place is.before all is.there) is.watches.0
