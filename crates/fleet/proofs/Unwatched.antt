-- What is published stays where stations are joined or looked at, and so does what is shown where they are told of posts;
-- new stations publish nothing.
use Rattle.std.proofs.{Common.{◌≡◌, ◌<◌, ℕ, List, [], ◌∷◌, ◌++◌, drop, length, map, take, refl, sym, ap, subst, ◌∙◌}, lemmas.List.length-map, ByRecursion.All-append, lemmas.Option.slice_get_within}
use Rattle.std.specs.{Prelude.{None, Option, slice_set}, List.AllZip}
use Rattle.ason_base.specs.{declared.commands.DeskItem.DeskItem, declared.ids.NodeId.NodeId, Network.Network}
use Rattle.ason_base.proofs.{Members.map-map, Places.there-at}
use Rattle.mgmt_view.specs.Publishing.{PublisherState}
use Rattle.round_rules.specs.States.{StationState}
use Rattle.fleet.specs.{declared.seats.End.End, declared.seats.Seat.Seat, Commands.but_room, Joining.HasMore, Looks.HaveMet, Posting.{TakeItems, TakesOrder, with_clock}, Views.{AreUnwatched, publishers_of, shown_by}}
use Rattle.station.specs.Watched.{shown_of}
use Rattle.fleet.proofs.{Places.{get-map, map-back, map-set, set-back}, Splitting.whole, Taking.same-places}

-- two stations that looked at each other
pub met-publishers : (place link : ℕ) (e : End) (old new : List StationState) → HaveMet place link e old new →
    publishers_of new ≡ publishers_of old
met-publishers place link e old new met =
    ap (map f) met.stations
    ∙ map-set f (slice_set old place met.here_now) e.station met.there_now
    ∙ ap (λ ps. slice_set ps e.station (f met.there_now)) first
    ∙ set-back (map f old) e.station (f met.there) (f met.there_now) (get-map f old e.station met.there met.is_there)
    (ap f met.looked.there)
  where
    f : StationState → Option PublisherState
    f s = s.publisher

    first : map f (slice_set old place met.here_now) ≡ map f old
    first = map-back f old place met.here met.here_now met.is_here (ap f met.looked.here)

-- two lists, item by item
pub same-publishers : (xs ys : List StationState) → AllZip (λ (x y : StationState). y.publisher ≡ x.publisher) xs ys →
    publishers_of ys ≡ publishers_of xs
same-publishers [] [] all = refl
same-publishers [] (y ∷ ys) all = absurd all
same-publishers (x ∷ xs) [] all = absurd all
same-publishers (x ∷ xs) (y ∷ ys) all = λ i. (all.0 i) ∷ same-publishers xs ys all.1 i

-- Posts

-- stations with more room
pub room-shown : (xs ys : List StationState) → map but_room ys ≡ map but_room xs →
    shown_by ys ≡ shown_by xs
room-shown xs ys same =
    sym (map-map but_room shown_of ys) ∙ ap (map shown_of) same ∙ map-map but_room shown_of xs

-- with items on their desks
pub items-shown : (items : NodeId → List DeskItem) (stamp : ℕ) (seats : List Seat) (xs ys : List StationState) →
    length xs ≡ length seats → TakeItems items stamp seats xs ys → shown_by ys ≡ shown_by xs
items-shown items stamp seats xs ys count take =
    same-places shown_of xs ys take.count (λ place x y was is.
    (let n = there-at seats place (subst (λ k. place < k) count (slice_get_within xs place x was)) in
    ap shown_of (take.each place n.0 x y n.1 was is).station))

pub order-shown : (place : ℕ) (item : DeskItem) (stamp : ℕ) (xs ys : List StationState) →
    TakesOrder place item stamp xs ys → shown_by ys ≡ shown_by xs
order-shown place item stamp xs ys take =
    ap (map shown_of) take.clocks ∙ map-map (with_clock stamp) shown_of take.put
    ∙ ap (map shown_of) take.is_put.stations
    ∙ map-back shown_of xs place take.is_put.before take.is_put.after take.is_put.there
    (ap shown_of take.is_put.told.station)

abbrev publisher : StationState → Option PublisherState
publisher s = s.publisher

-- Stations that aren't watched

pub unwatched-same : (xs ys : List StationState) → publishers_of ys ≡ publishers_of xs → AreUnwatched xs →
    AreUnwatched ys
unwatched-same [] [] same all = tt
unwatched-same [] (y ∷ ys) same all = absurd (cc (same))
unwatched-same (x ∷ xs) [] same all = absurd (cc (same))
unwatched-same (x ∷ xs) (y ∷ ys) same all =
    let first : y.publisher ≡ x.publisher = cc (same) in
    let rest : publishers_of ys ≡ publishers_of xs = cc (same) in
    (first ∙ all.0, unwatched-same xs ys rest all.1)

pub publishers-count : (xs ys : List StationState) → publishers_of ys ≡ publishers_of xs → length ys ≡ length xs
publishers-count xs ys same = sym (length-map ys publisher) ∙ ap length same ∙ length-map xs publisher

-- a vector that was lent, and came back with what is published as it was
pub back-whole : {items lent : List StationState} {len : ℕ} (new : List StationState) →
    publishers_of new ≡ publishers_of lent → lent ≡ items → len ≡ length items →
    new ≡ take len (new ++ drop (length new) items)
back-whole {items = items} {lent = lent} {len = len} new same is count =
    whole new items len (publishers-count lent new same ∙ ap length is ∙ sym count)

-- and its stations are as unwatched as they were
pub back-unwatched : {items lent : List StationState} {len : ℕ} (new : List StationState) →
    publishers_of new ≡ publishers_of lent → lent ≡ items → len ≡ length items → AreUnwatched items →
    AreUnwatched (take len (new ++ drop (length new) items))
back-unwatched {items = items} new same is count all =
    subst AreUnwatched (back-whole new same is count) (unwatched-same items new (same ∙ ap publishers_of is) all)

-- with one more
pub unwatched-more : (t : Network) (n : NodeId) (xs ys : List StationState) → HasMore t n xs ys → AreUnwatched xs →
    AreUnwatched ys
unwatched-more t n xs ys more all =
    subst AreUnwatched (sym more.stations)
    (All-append (λ (s : StationState). s.publisher ≡ None) xs (more.station ∷ []) all (more.is_new.publisher, tt))

-- but for the last one, and the last one
pub unwatched-but : (xs : List StationState) (y : StationState) → AreUnwatched (xs ++ y ∷ []) →
    AreUnwatched xs × (y.publisher ≡ None)
unwatched-but [] y all = (tt, all.0)
unwatched-but (x ∷ xs) y all = let rest = unwatched-but xs y all.1 in ((all.0, rest.0), rest.1)
