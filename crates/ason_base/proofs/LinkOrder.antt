-- The links of a topology: each has a number above those of all earlier ones.
use Rattle.std.proofs.Common.{◌≡◌, ◌<◌, ◌-◌, ℕ, zero, suc, Bool, true, false, cond, nat_eq, nat_lt, List, [], ◌∷◌, length, get_or, ap, ◌∙◌, sym, arith, AllPairs, ltb-true}
use Rattle.std.specs.Prelude.{slice_get}
use Rattle.ason_base.specs.{declared.network.LinkSpec.LinkSpec, Network.{IsTopology, Network, is_after, link_number}}
use Rattle.ason_base.proofs.Bools.{and-left}

-- each link's number is above n, and above those of all earlier ones
abbrev pub LinksRiseAbove : ℕ → List LinkSpec → Type 0
LinksRiseAbove n [] = Unit {0}
LinksRiseAbove n (l ∷ links) = (n < l.id.0) × LinksRiseAbove l.id.0 links

-- the link at this place has a number above that of the one before, the first above n
abbrev is_above : ℕ → List LinkSpec → ℕ → Bool
is_above n links k = nat_lt (cond (nat_eq k 0) n (link_number (slice_get links (k - 1))))
    (link_number (slice_get links k))

without_first : (n : ℕ) (l : LinkSpec) (links : List LinkSpec) (k : ℕ) → is_above n (l ∷ links) (suc k) ≡ true →
    is_above l.id.0 links k ≡ true
without_first n l links zero e = e
without_first n l links (suc k) e =
    let here : suc (suc k) - 1 ≡ suc k = omega arith in
    let before : suc k - 1 ≡ k = omega arith in
    let and-left : nat_eq (suc (suc k)) 0 ≡ false = grind arith in
    let later : nat_eq (suc k) 0 ≡ false = grind arith in
    let at : nat_lt (link_number (slice_get (l ∷ links) (suc k))) (link_number (slice_get links (suc k))) ≡ true =
    sym (ap (λ b. nat_lt (cond b n (link_number (slice_get (l ∷ links) (suc (suc k) - 1))))
    (link_number (slice_get links (suc k)))) and-left
    ∙ ap (λ j. nat_lt (link_number (slice_get (l ∷ links) j)) (link_number (slice_get links (suc k)))) here) ∙ e
    in
    ap (λ b. nat_lt (cond b l.id.0 (link_number (slice_get links (suc k - 1))))
    (link_number (slice_get links (suc k)))) later
    ∙ ap (λ j. nat_lt (link_number (slice_get links j)) (link_number (slice_get links (suc k)))) before ∙ at

rises : (n : ℕ) (links : List LinkSpec) → ((k : ℕ) → k < length links → is_above n links k ≡ true) →
    LinksRiseAbove n links
rises n [] each = tt
rises n (l ∷ links) each = (
  ltb-true n l.id.0 (each 0 (omega arith)),
  rises l.id.0 links (λ k below. without_first n l links k (each (suc k) (omega arith))),
)

pub links-rise : (t : Network) → IsTopology t → LinksRiseAbove 0 t.links
links-rise t valid = rises 0 t.links (λ k below. and-left (is_after t.links k) _ (valid.links k below))

-- The same, of any two links

above : (n : ℕ) (links : List LinkSpec) (k : ℕ) (d : LinkSpec) → LinksRiseAbove n links → k < length links →
    n < (get_or links k d).id.0
above n [] k d rise within = absurd (omega arith)
above n (l ∷ links) zero d rise within = rise.0
above n (l ∷ links) (suc k) d rise within =
    let lower : n < l.id.0 = rise.0 in
    let higher : l.id.0 < (get_or links k d).id.0 = above l.id.0 links k d rise.1 (omega arith) in
    omega arith

pairs : (n : ℕ) (links : List LinkSpec) → LinksRiseAbove n links → AllPairs (λ (l m : LinkSpec). l.id.0 < m.id.0) links
pairs n [] rise i j d before within = absurd (omega arith)
pairs n (l ∷ links) rise i zero d before within = absurd (omega arith)
pairs n (l ∷ links) rise zero (suc j) d before within = above l.id.0 links j d rise.1 (omega arith)
pairs n (l ∷ links) rise (suc i) (suc j) d before within =
    pairs l.id.0 links rise.1 i j d (omega arith) (omega arith)

pub link_numbers_rise : (t : Network) → IsTopology t → AllPairs (λ (l m : LinkSpec). l.id.0 < m.id.0) t.links
link_numbers_rise t valid = pairs 0 t.links (links-rise t valid)
