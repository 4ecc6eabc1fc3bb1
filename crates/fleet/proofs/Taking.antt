-- Each station takes what a post puts on its desk.
use Rattle.std.proofs.{Common.{◌≡◌, ◌≤◌, ◌<◌, ◌+◌, ℕ, zero, suc, Bool, true, false, cond, nat_eq, List, [], ◌∷◌, ◌++◌, eqb-true, length, map, refl, sym, ap, ◌∙◌, subst, arith}, lemmas.List.length-map, lemmas.Option.slice_get_within}
use Rattle.std.specs.{Prelude.{Some, slice_get, slice_set}, List.{AllByRecursion, Contains}}
use Rattle.ason_base.specs.{declared.ids.NodeId.NodeId, declared.commands.Command.Command, declared.commands.DeskItem.DeskItem, declared.commands.DeskItem.TheVariants.Order, Network.{IsTopology, Network}}
use Rattle.ason_base.proofs.{Numbers.apart-turned, Places.{all-by_place, there-at, all-at, length-set}, Members.{contains-head, contains-tail}}
use Rattle.round_rules.specs.{States.StationState, Moves.AreApart}
use Rattle.round_rules.proofs.{Greatest.greatest-above, Nodes.apart-ids}
use Rattle.fleet.specs.{declared.seats.Seat.Seat, Commands.{but_room, is_seat}, Posting.{AreTold, IsItemPut, IsStationTold, TakeItems, TakesItems, greatest_of, order_for, with_clock}, Standing.AreSeats}
use Rattle.fleet.proofs.{News.{get-set, told-none}, Places.{apart-places, get-map, get-set-elsewhere, map-get}}

-- Lists by their places

-- two lists whose images are the same at each place
pub same-places : {X Y : Type 0} (f : X → Y) (xs ys : List X) → length ys ≡ length xs →
    ((i : ℕ) (x y : X) → slice_get xs i ≡ Some x → slice_get ys i ≡ Some y → f y ≡ f x) → map f ys ≡ map f xs
same-places f [] [] count each = refl
same-places f [] (y ∷ ys) count each = absurd (omega (arith, count))
same-places f (x ∷ xs) [] count each = absurd (omega (arith, count))
same-places f (x ∷ xs) (y ∷ ys) count each =
    λ i. (each 0 x y refl refl i) ∷ (same-places f xs ys (omega (arith, count)) (λ k. each (suc k)) i)

-- what has the same image at a place
pub same-image : {X Y : Type 0} (f : X → Y) (xs ys : List X) → map f ys ≡ map f xs → (place : ℕ) (x : X) →
    slice_get xs place ≡ Some x → (y : X) × (slice_get ys place ≡ Some y) × (f y ≡ f x)
same-image f xs ys same place x at =
    map-get f ys place (f x) (ap (λ zs. slice_get zs place) same ∙ get-map f xs place x at)

-- Clocks

-- no clock is above the greatest
pub clocks-below : (xs : List StationState) → AllByRecursion (λ (s : StationState). s.clock ≤ greatest_of xs + 1) xs
clocks-below xs = go xs (λ s there. there)
  where
    go : (ys : List StationState) → ((s : StationState) → Contains ys s → Contains xs s) →
        AllByRecursion (λ (s : StationState). s.clock ≤ greatest_of xs + 1) ys
    go [] inside = tt
    go (y ∷ ys) inside = (
      (let le = greatest-above (λ (s : StationState). s.clock) 0 xs y (inside y (contains-head y ys)) in
          omega (arith, le)),
      go ys (λ s there. inside s (contains-tail y s ys there)),
    )

-- a stamp that is one more than the greatest clock is above each
pub stamp-above : (stamp : ℕ) (xs ys : List StationState) → xs ≡ ys → stamp ≡ greatest_of ys + 1 →
    AllByRecursion (λ (s : StationState). s.clock ≤ stamp) xs
stamp-above stamp xs ys same is =
    subst (AllByRecursion (λ (s : StationState). s.clock ≤ stamp)) (sym same)
    (subst (λ k. AllByRecursion (λ (s : StationState). s.clock ≤ k) ys) (sym is) (clocks-below ys))

-- with more room no clock differs
pub room-clocks : (k : ℕ) (xs ys : List StationState) → map but_room ys ≡ map but_room xs →
    AllByRecursion (λ (s : StationState). s.clock ≤ k) xs → AllByRecursion (λ (s : StationState). s.clock ≤ k) ys
room-clocks k [] [] same all = tt
room-clocks k [] (y ∷ ys) same all = absurd (cc (same))
room-clocks k (x ∷ xs) [] same all = absurd (cc (same))
room-clocks k (x ∷ xs) (y ∷ ys) same all =
    let first : but_room y ≡ but_room x = cc (same) in
    let rest : map but_room ys ≡ map but_room xs = cc (same) in
    (subst (λ j. j ≤ k) (sym (ap (λ (s : StationState). s.clock) first)) all.0, room-clocks k xs ys rest all.1)

-- All stations

-- what is told at each place, and then the stamp
pub all-take : (items : NodeId → List DeskItem) (stamp : ℕ) (seats : List Seat) (old told : List StationState) →
    length told ≡ length old → ((place : ℕ) (n : Seat) (x z : StationState) → slice_get seats place ≡ Some n →
    slice_get old place ≡ Some x → slice_get told place ≡ Some z → IsStationTold (items n.id) x z) →
    TakeItems items stamp seats old (map (with_clock stamp) told)
all-take items stamp seats old told count each = record {
  count = length-map told (with_clock stamp) ∙ count;
  each = λ place n x y seat was is.
      let z = map-get (with_clock stamp) told place y is in
      subst (TakesItems (items n.id) stamp x) z.2
      (record { station = ap (with_clock stamp) (each place n x z.0 seat was z.1).station });
}

-- once there was more room
pub take-roomed : (items : NodeId → List DeskItem) (stamp : ℕ) (seats : List Seat)
    (old roomed new : List StationState) → map but_room roomed ≡ map but_room old →
    TakeItems items stamp seats roomed new → TakeItems items stamp seats old new
take-roomed items stamp seats old roomed new same take = record {
  count = take.count ∙ sym (length-map roomed but_room) ∙ ap length same ∙ length-map old but_room;
  each = λ place n x y seat was is.
      let v = same-image but_room old roomed same place x was in
      record {
        station =
            (take.each place n v.0 y seat v.1 is).station
            ∙ ap (λ (k : StationState).
            record k { desk = k.desk ++ items n.id; spare = y.spare; clock = stamp }) v.2;
      };
}

-- what equal lists take
pub take-same : (items more : NodeId → List DeskItem) (stamp : ℕ) (seats places : List Seat)
    (old before new after : List StationState) → items ≡ more → seats ≡ places → old ≡ before → new ≡ after →
    TakeItems items stamp seats old new → TakeItems more stamp places before after
take-same items more stamp seats places old before new after p q r s take =
    subst (TakeItems more stamp places before) s
    (subst (λ xs. TakeItems more stamp places xs new) r
    (subst (λ ss. TakeItems more stamp ss old new) q
    (subst (λ (is : NodeId → List DeskItem). TakeItems is stamp seats old new) p take)))

-- where all were told
pub told-takes : (items : NodeId → List DeskItem) (stamp places : ℕ) (seats : List Seat)
    (old told new : List StationState) → length old ≤ places → AreTold items places seats old told →
    new ≡ map (with_clock stamp) told → TakeItems items stamp seats old new
told-takes items stamp places seats old told new most are clocks =
    subst (TakeItems items stamp seats old) (sym clocks)
    (all-take items stamp seats old told are.count (λ place n x z seat was is.
    (let below = slice_get_within old place x was in
    are.told place n x z (omega (arith, below, most)) seat was is)))

-- no clock changes where items are told
pub told-clocks : (items : NodeId → List DeskItem) (k places : ℕ) (seats : List Seat) (old told : List StationState) →
    length old ≡ length seats → length old ≤ places → AreTold items places seats old told →
    AllByRecursion (λ (s : StationState). s.clock ≤ k) old → AllByRecursion (λ (s : StationState). s.clock ≤ k) told
told-clocks items k places seats old told count most are all =
    all-by_place (λ (s : StationState). s.clock ≤ k) told one
  where
    one : (place : ℕ) (z : StationState) → slice_get told place ≡ Some z → z.clock ≤ k
    one place z is =
        let here = slice_get_within told place z is in
        let many = are.count in
        let below : place < length old = omega (arith, here, many) in
        let x = there-at old place below in
        let n = there-at seats place (subst (λ j. place < j) count below) in
        subst (λ j. j ≤ k)
        (sym (ap (λ (s : StationState). s.clock)
        (are.told place n.0 x.0 z (omega (arith, below, most)) n.1 x.1 is).station))
        (all-at (λ (s : StationState). s.clock ≤ k) old place x.0 all x.1)

-- nor where one is
pub put-clocks : (k place : ℕ) (item : DeskItem) (old new : List StationState) → IsItemPut place item old new →
    AllByRecursion (λ (s : StationState). s.clock ≤ k) old → AllByRecursion (λ (s : StationState). s.clock ≤ k) new
put-clocks k place item old new is all =
    subst (AllByRecursion (λ (s : StationState). s.clock ≤ k)) (sym is.stations) (set old place is.there all)
  where
    set : (xs : List StationState) (i : ℕ) → slice_get xs i ≡ Some is.before →
        AllByRecursion (λ (s : StationState). s.clock ≤ k) xs →
        AllByRecursion (λ (s : StationState). s.clock ≤ k) (slice_set xs i is.after)
    set [] i at each = tt
    set (x ∷ xs) zero at each =
        let same : is.after.clock ≡ x.clock =
        ap (λ (s : StationState). s.clock) is.told.station ∙ ap (λ (s : StationState). s.clock) (sym (first at)) in
        (subst (λ j. j ≤ k) (sym same) each.0, each.1)
      where
        first : Some x ≡ Some is.before → x ≡ is.before
        first e = cc (e)
    set (x ∷ xs) (suc i) at each = (each.0, set xs i at each.1)

-- where one station has the command
module _ (t : Network) (valid : IsTopology t) (seats : List Seat) (are : AreSeats t seats) (n : NodeId) (c : Command)
    (stamp place : ℕ) (seat : Seat) (at : slice_get seats place ≡ Some seat) (is_it : is_seat n seat ≡ true)
    (old put new : List StationState) (is_put : IsItemPut place (Order c) old put)
    (clocks : new ≡ map (with_clock stamp) put) where
  id_at : (k : ℕ) (m : Seat) → slice_get seats k ≡ Some m → slice_get (map (λ (s : Seat). s.id) seats) k ≡ Some m.id
  id_at k m there = get-map (λ (s : Seat). s.id) seats k m there

  turned : (a b : ℕ) → nat_eq a b ≡ true → nat_eq b a ≡ true
  turned a b e = grind (arith, e)

  told : (k : ℕ) (m : Seat) (v z : StationState) → slice_get seats k ≡ Some m → slice_get old k ≡ Some v →
      slice_get put k ≡ Some z → IsStationTold (order_for n c m.id) v z
  told k m v z there was is = go (nat_eq k place) refl
    where
      now : slice_get (slice_set old place is_put.after) k ≡ Some z
      now = ap (λ xs. slice_get xs k) (sym is_put.stations) ∙ is

      go : (b : Bool) → nat_eq k place ≡ b → IsStationTold (order_for n c m.id) v z
      go true e =
          let here : k ≡ place = eqb-true k place e in
          let node : seat ≡ m = cc (at, there, here) in
          let first : is_put.before ≡ v = cc (is_put.there, was, here) in
          let last : z ≡ is_put.after = get-set old place is_put.after z
          (subst (λ j. slice_get (slice_set old place is_put.after) j ≡ Some z) here now) in
          let mine : nat_eq n.0 m.id.0 ≡ true =
          subst (λ (s : Seat). nat_eq n.0 s.id.0 ≡ true) node (turned seat.id.0 n.0 is_it) in
          subst (λ b. IsStationTold (cond b (Order c ∷ []) []) v z) (sym mine)
          (subst (λ (s : StationState). IsStationTold (Order c ∷ []) v s) (sym last)
          (subst (λ (s : StationState). IsStationTold (Order c ∷ []) s is_put.after) first is_put.told))
      go false e =
          let other : nat_eq m.id.0 seat.id.0 ≡ false =
          apart-places (map (λ (s : Seat). s.id) seats) (subst AreApart (sym are.ids) (apart-ids t valid)) k place
          m.id
          seat.id (id_at k m there) (id_at place seat at) e in
          let not_mine : nat_eq n.0 m.id.0 ≡ false =
          subst (λ j. nat_eq j m.id.0 ≡ false) (eqb-true seat.id.0 n.0 is_it) (apart-turned m.id.0 seat.id.0 other) in
          let still : z ≡ v = cc (now, get-set-elsewhere old place k is_put.after e, was) in
          subst (λ b. IsStationTold (cond b (Order c ∷ []) []) v z) (sym not_mine)
          (subst (λ (s : StationState). IsStationTold [] v s) (sym still) (told-none [] v refl))

  pub order-takes : TakeItems (order_for n c) stamp seats old new
  order-takes =
      subst (TakeItems (order_for n c) stamp seats old) (sym clocks)
      (all-take (order_for n c) stamp seats old put
      (ap length is_put.stations ∙ length-set old place is_put.after) told)
