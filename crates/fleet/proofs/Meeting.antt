-- Two stations of a list that is split between them look at the rings between them.
use Rattle.std.proofs.{Common.{◌≡◌, ◌<◌, ◌≤◌, ℕ, nat_eq, false, List, ◌++◌, get_or, take, drop, length, sym, ap, ◌∙◌, subst, arith}, lemmas.Option.slice_get_within}
use Rattle.std.specs.Prelude.{Some, slice_get, slice_set}
use Rattle.station_rings.specs.LinkStates.{AreEnds, AreFew, LinkState}
use Rattle.round_rules.specs.States.{StationState}
use Rattle.station.specs.Joined.{AreTwoLooked}
use Rattle.fleet.specs.{declared.seats.End.End, Looks.{AreStationsJoined, HaveMet}}
use Rattle.fleet.proofs.Splitting.{AreReadInParts, read-both, set-high, set-low}

-- both places are in the list
pub here-within : (old : List StationState) (place link : ℕ) (e : End) → AreStationsJoined old place link e →
    place < length old
here-within old place link e j = slice_get_within old place j.here j.is_here

there-within : (old : List StationState) (place link : ℕ) (e : End) → AreStationsJoined old place link e →
    e.station < length old
there-within old place link e j = slice_get_within old e.station j.there j.is_there

above : (a b : ℕ) → b ≤ a → nat_eq a b ≡ false → b < a
above a b h k = grind (arith, h, k)

-- what is read is the stations: there are such links, and they have the ends of the rings
pub record AreReady (link : ℕ) (e : End) (a b : StationState) : Type 0 where
  pub place : link < length a.links
  pub back : e.link < length b.links
  pub ends : (l m : LinkState) → slice_get a.links link ≡ Some l → slice_get b.links e.link ≡ Some m →
      AreEnds l m × AreFew l m

ready : (old : List StationState) (place link : ℕ) (e : End) (a b : StationState)
    (j : AreStationsJoined old place link e) →
    a ≡ j.here → b ≡ j.there → AreReady link e a b
ready old place link e a b j here there =
    subst (λ (s : StationState). AreReady link e s b) (sym here) (subst (AreReady link e j.here) (sym there) (record {
      place = slice_get_within j.here.links link j.near j.is_near;
      back = slice_get_within j.there.links e.link j.far j.is_far;
      ends = λ l m at at_back.
          (let near : j.near ≡ l = cc (at, j.is_near) in
          let far : j.far ≡ m = cc (at_back, j.is_far) in
          subst (λ (k : LinkState). AreEnds k m × AreFew k m) near
          (subst (λ (k : LinkState). AreEnds j.near k × AreFew j.near k) far (j.ends, j.few)));
    }))

-- after the look
met : (old now : List StationState) (place link : ℕ) (e : End) (a b x y : StationState)
    (j : AreStationsJoined old place link e) → a ≡ j.here → b ≡ j.there → AreTwoLooked link a x e.link b y →
    now ≡ slice_set (slice_set old place x) e.station y → HaveMet place link e old now
met old now place link e a b x y j here there looked is = record {
  here = j.here;
  there = j.there;
  is_here = j.is_here;
  is_there = j.is_there;
  here_now = x;
  there_now = y;
  looked =
      subst (λ (s : StationState). AreTwoLooked link s x e.link j.there y) here
      (subst (λ (s : StationState). AreTwoLooked link a x e.link s y) there looked);
  stations = is;
}

-- The one that looks is before the other.
module _ (old low high : List StationState) (place link : ℕ) (e : End) (a b : StationState)
    (j : AreStationsJoined old place link e) (below : place < e.station) (front : low ≡ take e.station old)
    (back : high ≡ drop e.station old) (first : a ≡ get_or low place a) (last : b ≡ get_or high 0 b) where
  abbrev reads_low : AreReadInParts low high place j.here j.there a b
  reads_low =
      read-both old low high place e.station j.here j.there a b below j.is_here j.is_there front back first last

  pub ready-low : AreReady link e a b
  ready-low = ready old place link e a b j reads_low.here reads_low.there

  pub met-low : (x y : StationState) → AreTwoLooked link a x e.link b y →
      HaveMet place link e old (slice_set low place x ++ slice_set high 0 y)
  met-low x y looked =
      met old _ place link e a b x y j reads_low.here reads_low.there looked
      (ap (λ xs. slice_set xs place x ++ slice_set high 0 y) front
      ∙ ap (λ xs. slice_set (take e.station old) place x ++ slice_set xs 0 y) back
      ∙ set-low old place e.station x y below (there-within old place link e j))

-- The one that looks is behind the other.
module _ (old low high : List StationState) (place link : ℕ) (e : End) (a b : StationState)
    (j : AreStationsJoined old place link e) (past : e.station ≤ place) (front : low ≡ take place old)
    (back : high ≡ drop place old) (first : b ≡ get_or low e.station b) (last : a ≡ get_or high 0 a) where
  below_it : e.station < place
  below_it = above place e.station past j.apart

  abbrev reads_high : AreReadInParts low high e.station j.there j.here b a
  reads_high =
      read-both old low high e.station place j.there j.here b a below_it j.is_there j.is_here front back first last

  pub ready-high : AreReady link e a b
  ready-high = ready old place link e a b j reads_high.there reads_high.here

  pub met-high : (x y : StationState) → AreTwoLooked link a x e.link b y →
      HaveMet place link e old (slice_set low e.station y ++ slice_set high 0 x)
  met-high x y looked =
      met old _ place link e a b x y j reads_high.there reads_high.here looked
      (ap (λ xs. slice_set xs e.station y ++ slice_set high 0 x) front
      ∙ ap (λ xs. slice_set (take place old) e.station y ++ slice_set xs 0 x) back
      ∙ set-high old e.station place x y below_it (here-within old place link e j))
