-- What is published stays as it is, or grows by the table of each station.
use Rattle.std.proofs.Common.{◌≡◌, ◌<◌, ◌≤◌, ℕ, zero, suc, List, [], ◌∷◌, ◌++◌, get_or, length, map, set, take, drop, refl, sym, ap, ◌∙◌, subst, inl, inr, arith}
use Rattle.std.specs.{Prelude.{Option, None, Some, Result, Ok, Err}, List.AllZip}
use Rattle.ason_base.specs.{declared.commands.Disturb.Disturb, declared.ids.NodeId.NodeId, Network.Network}
use Rattle.mgmt_view.specs.{Publishing.PublisherState, declared.node_table.NodeTable.NodeTable}
use Rattle.round_rules.specs.{OneWorker.ids_of, Records.Record, States.StationState, Commands.{CutRoundsPostNothing, RoundsPostNothing}, Fleets.{IsStationAt, Wires}}
use Rattle.station.specs.Watched.{MayWaitBy, publishing, table_of, with_publisher}
use Rattle.round_rules.proofs.Choosing.{ThroughMiddle, zip-more, zip-then}
use Rattle.fleet.specs.{declared.fleet.RoundFault.RoundFault, declared.seats.Seat.Seat, Connections.AreSettled, Rounds.{EndsRound, Rounds, StarvesRound}, Standing.{FleetState, StandsFor}, Views.{HasPublished, MayHavePublished, MayPublish, Publishes, publishers_of}}
use Rattle.fleet.specs.declared.fleet.RoundFault.TheVariants as fault
use Rattle.fleet.proofs.{KeptSeats.{station_links, settled-kept}, Places.zip-self}

-- Nothing differs but what is published

abbrev pub SameBut : StationState → StationState → Type 0
SameBut x y = y ≡ with_publisher x y.publisher

same-but : (x y : StationState) → MayPublish x y → SameBut x y
same-but x y may = elim may [
  | inl is ↦ is ∙ ap (with_publisher x) (sym (ap (λ (s : StationState). s.publisher) is))
  | inr not ↦ not.station
]

all-but : (xs ys : List StationState) → AllZip MayPublish xs ys → AllZip SameBut xs ys
all-but xs ys all = zip-more MayPublish SameBut same-but xs ys all

links-so : (xs ys : List StationState) → AllZip SameBut xs ys → map station_links ys ≡ map station_links xs
links-so [] [] all = refl
links-so [] (y ∷ ys) all = absurd all
links-so (x ∷ xs) [] all = absurd all
links-so (x ∷ xs) (y ∷ ys) all = λ i. station_links (all.0 i) ∷ links-so xs ys all.1 i

-- so seats and stations stay settled
pub published-settled : (seats : List Seat) (xs ys : List StationState) → AreSettled seats xs →
    AllZip MayPublish xs ys → AreSettled seats ys
published-settled seats xs ys are all = settled-kept seats xs ys are (links-so xs ys (all-but xs ys all))

told_at : (t : Network) (lines : List Disturb) (r : Record) (w : Wires) (n : NodeId) (x y : StationState) →
    IsStationAt t lines r w n x → SameBut x y → IsStationAt t lines r w n y
told_at t lines r w n x y is same =
    subst (IsStationAt t lines r w n) (sym same) (record {
      station = record { stands = is.station.stands; taken = is.station.taken };
      links = is.links;
      told = is.told;
    })

-- and stand for the same records
pub published-stands : (t : Network) (lines : List Disturb) (f : FleetState) (r : Record) (ys : List StationState) →
    AllZip SameBut f.stations ys → StandsFor t lines f r → StandsFor t lines (record f { stations = ys }) r
published-stands t lines f r ys all s = record {
  seats = s.seats;
  wires = s.wires;
  stations = record {
    valid = s.stations.valid;
    each = zip-more (ThroughMiddle (IsStationAt t lines r s.wires) SameBut) (IsStationAt t lines r s.wires)
        (λ n y b. told_at t lines r s.wires n b.mid y b.one b.two) (ids_of t) ys
        (zip-then (IsStationAt t lines r s.wires) SameBut (ids_of t) f.stations ys s.stations.each all);
    rings = s.stations.rings;
    nowhere = s.stations.nowhere;
    posts = s.stations.posts;
  };
  begun = s.begun;
  posts = s.posts;
  follow = s.follow;
  few = s.few;
  network = s.network;
  failed = s.failed;
}

-- Rounds

module _ (t : Network) (lines : List Disturb) (workers : ℕ) (r : Record) (f : FleetState) where
  -- however the round ends
  ends-so : (ys : List StationState) → AllZip SameBut f.stations ys → (answer : Result ℕ RoundFault) →
      EndsRound t lines workers r f answer → EndsRound t lines workers r (record f { stations = ys }) answer
  ends-so ys all (Ok count) is = record {
    after = is.after;
    stands = published-stands t lines f is.after ys all is.stands;
    round = is.round;
    written = is.written;
  }
  ends-so ys all (Err (fault.AtLimit n)) is = record {
    after = is.after;
    stands = published-stands t lines f is.after ys all is.stands;
    unfinished = is.unfinished;
  }
  ends-so ys all (Err fault.Starved) is = record {
    after = is.after;
    stands = published-stands t lines f is.after ys all is.stands;
    grown = is.grown;
  }

  -- more may have been done
  starves-so : RoundsPostNothing → CutRoundsPostNothing → (answer : Result ℕ RoundFault) →
      EndsRound t lines workers r f answer → StarvesRound t lines r f
  starves-so one two (Ok count) is = record {
    after = is.after;
    stands = is.stands;
    grown = λ m. one t lines r is.after is.round.round (record { 0 = m });
  }
  starves-so one two (Err (fault.AtLimit n)) is = record {
    after = is.after;
    stands = is.stands;
    grown = λ m. two t lines r is.after is.unfinished.unfinished (record { 0 = m });
  }
  starves-so one two (Err fault.Starved) is = is

-- The stations were lent, and came back.
module _ (workers : ℕ) (old mid f : FleetState) (lent ys vs : List StationState) (answer : Result ℕ RoundFault)
    (same : f ≡ mid) (was : lent ≡ f.stations) (is : vs ≡ ys) (all : AllZip MayPublish lent ys) where
  now_all : AllZip SameBut mid.stations vs
  now_all =
      subst (λ xs. AllZip SameBut xs vs) (was ∙ ap (λ (x : FleetState). x.stations) same)
      (subst (AllZip SameBut lent) (sym is) (all-but lent ys all))

  abbrev new : FleetState
  new = record f { stations = vs }

  new-is : record mid { stations = vs } ≡ new
  new-is = ap (λ (x : FleetState). record x { stations = vs }) (sym same)

  -- a round after which all tables are published
  pub rounds-published : Rounds workers old mid answer → Rounds workers old new answer
  rounds-published rounds t lines r s =
      subst (λ x. EndsRound t lines workers r x answer) new-is
      (ends-so t lines workers r mid vs now_all answer (rounds t lines r s))

  -- and one after which memory was wanting
  pub rounds-starved : RoundsPostNothing → CutRoundsPostNothing → Rounds workers old mid answer →
      Rounds workers old new (Err fault.Starved)
  rounds-starved one two rounds t lines r s =
      subst (λ x. EndsRound t lines workers r x (Err fault.Starved)) new-is
      (ends-so t lines workers r mid vs now_all (Err fault.Starved)
      (starves-so t lines workers r mid one two answer (rounds t lines r s)))

-- Tables

has_published : (xs : List StationState) → AllZip HasPublished (publishers_of xs) (map publishing xs)
has_published [] = tt
has_published (x ∷ xs) = (refl, has_published xs)

may_have : (x y : StationState) → MayPublish x y → MayHavePublished x.publisher y
may_have x y may = elim may [
  | inl is ↦ inl (subst (HasPublished x.publisher) (sym is) refl)
  | inr not ↦ inr (subst (λ t. MayWaitBy x.publisher t y.publisher) (sym (ap table_of not.station)) not.publisher)
]

may_all : (xs ys : List StationState) → AllZip MayPublish xs ys → AllZip MayHavePublished (publishers_of xs) ys
may_all [] [] all = tt
may_all [] (y ∷ ys) all = absurd all
may_all (x ∷ xs) [] all = absurd all
may_all (x ∷ xs) (y ∷ ys) all = (may_have x y all.0, may_all xs ys all.1)

-- of the stations before the turns
pub all-published : (answer : Result ℕ RoundFault) (old new : FleetState) (xs : List StationState) →
    publishers_of xs ≡ publishers_of old.stations → new.stations ≡ map publishing xs → Publishes answer old new
all-published answer old new xs same is = go answer
  where
    has : AllZip HasPublished (publishers_of old.stations) new.stations
    has =
        subst (λ ps. AllZip HasPublished ps new.stations) same
        (subst (AllZip HasPublished (publishers_of xs)) (sym is) (has_published xs))

    go : (a : Result ℕ RoundFault) → Publishes a old new
    go (Ok count) = has
    go (Err (fault.AtLimit n)) = has
    go (Err fault.Starved) = zip-more HasPublished MayHavePublished (λ p s h. inl h) (publishers_of old.stations)
        new.stations has

pub some-published : (old new : FleetState) (xs : List StationState) → publishers_of xs ≡ publishers_of old.stations →
    AllZip MayPublish xs new.stations → Publishes (Err fault.Starved) old new
some-published old new xs same all =
    subst (λ ps. AllZip MayHavePublished ps new.stations) same (may_all xs new.stations all)

-- The stations up to a place have published

may_wait_self : (o : Option PublisherState) (t : NodeTable) → MayWaitBy o t o
may_wait_self None t = tt
may_wait_self (Some p) t = record { published = refl; waiting = inl refl }

may_self : (x : StationState) → MayPublish x x
may_self x = inr (record { station = refl; publisher = may_wait_self x.publisher (table_of x) })

pub may-all : (xs : List StationState) → AllZip MayPublish xs (map publishing xs)
may-all [] = tt
may-all (x ∷ xs) = (inl refl, may-all xs)

pub may-cut : (xs : List StationState) (i : ℕ) (x y : StationState) → MayPublish x y → x ≡ get_or xs i x →
    AllZip MayPublish xs (set (map publishing (take i xs) ++ drop i xs) i y)
may-cut [] zero x y may is = tt
may-cut [] (suc i) x y may is = tt
may-cut (z ∷ xs) zero x y may is = (subst (λ k. MayPublish k y) is may, zip-self MayPublish may_self xs)
may-cut (z ∷ xs) (suc i) x y may is = (inl refl, may-cut xs i x y may is)

-- the item at the place comes as it was
pub read-left : (xs ys : List StationState) (i : ℕ) (x : StationState) → i < length xs →
    ys ≡ map publishing (take i xs) ++ drop i xs → x ≡ get_or ys i x → x ≡ get_or xs i x
read-left [] ys i x below is at = absurd (omega (arith, below))
read-left (z ∷ xs) ys zero x below is at = at ∙ ap (λ zs. get_or zs 0 x) is
read-left (z ∷ xs) ys (suc i) x below is at =
    read-left xs (map publishing (take i xs) ++ drop i xs) i x (omega (arith, below)) refl
    (at ∙ ap (λ zs. get_or zs (suc i) x) is)

-- all have published
pub cut-all : (xs : List StationState) (i : ℕ) → length xs ≤ i →
    map publishing (take i xs) ++ drop i xs ≡ map publishing xs
cut-all [] zero past = refl
cut-all [] (suc i) past = refl
cut-all (x ∷ xs) zero past = absurd (omega (arith, past))
cut-all (x ∷ xs) (suc i) past = ap (λ ys. publishing x ∷ ys) (cut-all xs i (omega (arith, past)))
