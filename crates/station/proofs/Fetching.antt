-- Frames that come out of a ring before they are taken, and rings one after the other.
use Rattle.std.proofs.{Common.{◌≡◌, ◌≤◌, ◌<◌, ◌+◌, ℕ, zero, suc, List, [], ◌∷◌, ◌++◌, length, refl, sym, ap, ◌∙◌, subst, arith}, lemmas.Option.none-some}
use Rattle.std.specs.Prelude.{max, slice_get, Some, Result, Ok}
use Rattle.rtrb.specs.Ring.{known_items, sent}
use Rattle.station_rings.specs.LinkStates.{IsFetched, LinkState}
use Rattle.round_rules.specs.{Entered.me_of, Moves.{AreApart, IsChangedAt, IsDrained}, Phases.{ring_phase, rings_phase}, States.StationState}
use Rattle.round_rules.proofs.{Parting.fetched-of, Passing.{ring-begins, ring-ends}, Places.{AllMoved, changed-peers, nones-fetched, nones-moved}, RingSteps.{ring-fetch, rings-none}}
use Rattle.station.specs.{declared.halts.Halt.Halt, declared.parts.Parts.Parts, Fits.{PartsFit, StationFits, station_state}, Leads.{GoesOnAt, GoesPast, IsMoving, StationLeads}, Rings.IsDrainedAt}
use Rattle.station.proofs.{Fitting.{LinkStays, changed-keeps}, Leading.{goes-across, leads-as}, Ringing.{IsMovedBy, drained-many, moved-start}}

abbrev pub with_station_links : StationState → List LinkState → StationState
with_station_links s links = record s { links = links }

-- A frame comes out of its ring

fetched_stays : (l m : LinkState) → IsFetched l m → LinkStays l m
fetched_stays l m is = record { peer = is.peer; sent = is.sent; gone = λ j. sent (is.out j) ++ is.backlog j }

-- the parts fit as before
pub fetched-parts : (p new : Parts) (place : ℕ) → IsChangedAt IsFetched place p.links.items new.links.items →
    station_state new ≡ with_station_links (station_state p) new.links.items → new.me ≡ p.me → PartsFit p → PartsFit new
fetched-parts p new place is same me fit = record {
  station =
      subst StationFits (sym same) (record {
        most = fit.station.most;
        count = fit.station.count;
        apart =
            subst AreApart
            (sym (changed-peers IsFetched (λ a b f. f.peer) place p.links.items new.links.items is)) fit.station.apart;
        links =
            changed-keeps IsFetched fetched_stays p.controller.node.place p.controller.steps p.clock place p.links.items
            new.links.items is fit.station.links;
        held = fit.station.held;
      });
  me = me ∙ fit.me ∙ ap me_of (sym same);
}

pub fetched-moves : (s : StationState) (place : ℕ) (links : List LinkState) →
    IsChangedAt IsFetched place s.links links → IsMoving s (with_station_links s links)
fetched-moves s place links is = record {
  links = nones-moved s.links links (nones-fetched place s.links links is);
  lines = refl;
  grows = omega arith;
}

-- and what follows is done as before
pub fetched-goes : (s : StationState) (place : ℕ) (links : List LinkState) → IsChangedAt IsFetched place s.links links →
    GoesOnAt (Ok tt) place s (with_station_links s links)
fetched-goes s place links f first =
    goes-across (ring_phase first place) s (with_station_links s links)
    (λ end t n ds is.
    ring-fetch t n ds place s first (with_station_links s links) end (nones-fetched place s.links links f) refl
    (fetched-of t n ds place s links is f))

-- Places

-- a place where something is
pub place-within : (place : ℕ) (links : List LinkState) (l : LinkState) → slice_get links place ≡ Some l →
    place < length links
place-within place [] l at = absurd (none-some l at)
place-within zero (k ∷ links) l at = omega arith
place-within (suc place) (k ∷ links) l at = let le = place-within place links l at in omega (arith, le)

-- nothing was taken there yet
pub moved-within : (place : ℕ) (links : List LinkState) → place < length links → IsMovedBy place 0 links links
moved-within place [] le = absurd (omega (arith, le))
moved-within zero (l ∷ links) le = moved-start zero (l ∷ links) l refl
moved-within (suc place) (l ∷ links) le =
    let m = moved-within place links (omega (arith, le)) in
    record { old = m.old; new = m.new; was = m.was; is = m.is; moved = m.moved; many = m.many }

most : (known few count n : ℕ) → count ≡ max known few → count ≤ n → known ≤ n
most known few count n e le = grind (arith, e, le)

-- no fewer frames were taken than were known
pub drained-last : (place known few count n : ℕ) (xs ys : List LinkState) → IsMovedBy place n xs ys →
    ((l : LinkState) → slice_get xs place ≡ Some l → known ≡ length l.early + length (known_items l.into)) →
    count ≡ max known few → count ≤ n → IsDrainedAt place xs ys
drained-last place known few count n xs ys moved knows e le =
    drained-many place n xs ys moved (λ l at. subst (λ k. k ≤ n) (knows l at) (most known few count n e le))

-- One ring after the other

-- a ring of which nothing was taken yet
pub ring-starts : (i : ℕ) (first : LinkState) (r : Result (Unit {0}) Halt) (old end : StationState) →
    slice_get old.links i ≡ Some first → StationLeads r (ring_phase first i) old end →
    StationLeads r (rings_phase i) old end
ring-starts i first r old end at =
    leads-as (ring_phase first i) (rings_phase i) old end r
    (λ t n ds halted p. record {
      pops = p.pops;
      are = ring-begins first halted i old.links end.links p.pops at p.are;
      ends = p.ends;
    }) (λ t n ds is s. s)

-- a ring that was emptied, and those after it
pub ring-passes : (i : ℕ) (first : LinkState) (r : Result (Unit {0}) Halt) (mid end : StationState) (now : LinkState) →
    slice_get mid.links i ≡ Some now → IsDrained first now → StationLeads r (rings_phase (suc i)) mid end →
    StationLeads r (ring_phase first i) mid end
ring-passes i first r mid end now at drained =
    leads-as (rings_phase (suc i)) (ring_phase first i) mid end r
    (λ t n ds halted p. record {
      pops = p.pops;
      are = ring-ends first halted i mid.links end.links p.pops now at drained p.are;
      ends = p.ends;
    }) (λ t n ds is s. s)

-- the ring is done, and those after it follow
pub ring-done : (i : ℕ) (old mid : StationState) → IsDrainedAt i old.links mid.links → GoesOnAt (Ok tt) i old mid →
    GoesPast (Ok tt) i old mid
ring-done i old mid d on r end leads =
    ring-starts i d.old r old end d.was (on d.old r end (ring-passes i d.old r mid end d.new d.is d.drained leads))

-- no ring is left
pub none-leads : (s : StationState) (i : ℕ) → length s.links ≤ i → StationLeads (Ok tt) (rings_phase i) s s
none-leads s i le t n ds is = rings-none t n ds i s le is

-- there are as many links as before
pub moved-many : (xs ys : List LinkState) → AllMoved xs ys → length ys ≡ length xs
moved-many [] [] a = refl
moved-many [] (y ∷ ys) a = absurd a
moved-many (x ∷ xs) [] a = absurd a
moved-many (x ∷ xs) (y ∷ ys) a = ap suc (moved-many xs ys a.1)
