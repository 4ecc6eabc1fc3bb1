-- What was given beyond what was handed up is what waits.
use Rattle.std.proofs.{Common.{◌≡◌, ℕ, ◌+◌, ◌<◌, ◌≤◌, inl, inr, zero, suc, Bool, true, false, cond, Some, List, [], ◌∷◌, length, drop, map, refl, ap, sym, ◌∙◌, arith, AllPairs}, lemmas.List.Elements.recursion_from_All, lemmas.List.Kept.AllPairs-filter, lemmas.Option.slice_get_within}
use Rattle.std.specs.{Prelude.{filter, nat_lt}, List.{AllByRecursion, slice_get}}
use Rattle.ason_base.specs.declared.messages.Msg.{Msg}
use Rattle.ason_base.proofs.Places.{there-at}
use Rattle.hop_reliable.specs.{declared.unacked.Unacked.Unacked, Schedules.{HopEnd, pair_start, after_schedule, IsRising, IsWaiting, UnderWayIsWaiting}}
use Rattle.hop_reliable.proofs.{Flow.{Flow, Has, WaitsAsGiven}, Members.length-take_within, Order.unacked_rise, Schedule.{Flows, flows-run}}

Rises : List Unacked → Type 0
Rises [] = Unit {0}
Rises (w ∷ ws) = AllByRecursion (λ v. w.number < v.number) ws × Rises ws

rises : (ws : List Unacked) → AllPairs (λ v w. v.number < w.number) ws → Rises ws
unfolding Rises
rises [] pairs = tt
rises (w ∷ ws) pairs = (
  recursion_from_All (λ v. w.number < v.number) ws (λ k d within. pairs 0 (suc k) d (omega arith) (omega arith)),
  rises ws (λ i j d before within. pairs (suc i) (suc j) d (omega arith) (omega arith)),
)

-- a message that stands behind has a greater number
above : (n q : ℕ) (m : Msg) (ws : List Unacked) → AllByRecursion (λ v. n < v.number) ws → Has q m ws → n < q
above n q m [] all there = elim there [ ]
above n q m (v ∷ ws) all (inl here) = let less : n < v.number = all.0 in let is : v.number ≡ q = here.0 in omega arith
above n q m (v ∷ ws) all (inr later) = above n q m ws all.1 later

drop_past : (xs : List Msg) (n : ℕ) → length xs ≤ n → drop n xs ≡ []
drop_past [] zero h = refl
drop_past [] (suc n) h = refl
drop_past (x ∷ xs) zero h = absurd (omega arith)
drop_past (x ∷ xs) (suc n) h = drop_past xs n (omega arith)

drop_at : (xs : List Msg) (n : ℕ) (m : Msg) → slice_get xs n ≡ Some m → drop n xs ≡ m ∷ drop (suc n) xs
drop_at [] n m e = absurd (cc)
drop_at (x ∷ xs) zero m e = let same : x ≡ m = cc in ap (λ y. y ∷ xs) same
drop_at (x ∷ xs) (suc n) m e = drop_at xs n m e

-- rising messages that are just those from a number on
from_on : (given : List Msg) (ws : List Unacked) (n : ℕ) → Rises ws → AllByRecursion (WaitsAsGiven given) ws →
    AllByRecursion (λ w. n < w.number) ws →
    ((k : ℕ) (m : Msg) → slice_get given k ≡ Some m → n ≤ k → Has (k + 1) m ws) →
    drop n given ≡ map (λ w. w.msg) ws
unfolding Rises
from_on given [] n rising waits past kept =
    drop_past given n (not_less (λ less. let next = there-at given n less in kept n next.0 next.1 (omega arith)))
  where
    not_less : (n < length given → ⊥) → length given ≤ n
    not_less refuted = let none_less : n < length given → ⊥ = refuted in omega arith
from_on given (w ∷ ws) n rising waits past kept =
    let numbered = waits.0.numbered in
    let place : ℕ = numbered.place in
    let number : w.number ≡ place + 1 = numbered.number in
    let there : slice_get given place ≡ Some w.msg = numbered.message in
    let less : n < w.number = past.0 in
    let within : place < length given = slice_get_within given place w.msg there in
    let first : n < length given = omega arith in
    let next = there-at given n first in
    first_is next.0 next.1 (kept n next.0 next.1 (omega arith))
    (λ same. from_on given ws (suc n) rising.1 waits.1 (later_past same ws rising.0) (later_kept same))
  where
    later_past : w.number ≡ n + 1 → (vs : List Unacked) → AllByRecursion (λ v. w.number < v.number) vs →
        AllByRecursion (λ v. suc n < v.number) vs
    later_past same [] all = tt
    later_past same (v ∷ vs) all = ((let less : w.number < v.number = all.0 in omega arith), later_past same vs all.1)

    later_kept : w.number ≡ n + 1 → (k : ℕ) (m : Msg) → slice_get given k ≡ Some m → suc n ≤ k → Has (k + 1) m ws
    later_kept same k m there far = elim (kept k m there (omega arith)) [
      | inl here ↦ (let is : w.number ≡ k + 1 = here.0 in absurd (omega arith))
      | inr later ↦ later
    ]

    first_is : (m : Msg) → slice_get given n ≡ Some m → Has (n + 1) m (w ∷ ws) →
        (w.number ≡ n + 1 → drop (suc n) given ≡ map (λ v. v.msg) ws) → drop n given ≡ w.msg ∷ map (λ v. v.msg) ws
    first_is m there (inl here) rest =
        drop_at given n m there ∙ ap (λ y. y ∷ drop (suc n) given) (sym here.1) ∙ ap (λ ms. w.msg ∷ ms) (rest here.0)
    first_is m there (inr later) rest =
        let less : n < w.number = past.0 in
        let behind : w.number < n + 1 = above w.number (n + 1) m ws rising.0 later in
        absurd (omega arith)

-- what passes a test
each-filter : (P : Unacked → Type 0) (p : Unacked → Bool) (ws : List Unacked) → AllByRecursion P ws →
    AllByRecursion P (filter p ws)
each-filter P p [] all = tt
each-filter P p (w ∷ ws) all = go (p w) (each-filter P p ws all.1)
  where
    go : (b : Bool) → AllByRecursion P (filter p ws) → AllByRecursion P (cond b (w ∷ filter p ws) (filter p ws))
    go true left = (all.0, left)
    go false left = left

passes : (n : ℕ) (ws : List Unacked) → AllByRecursion (λ w. n < w.number) (filter (λ w. nat_lt n w.number) ws)
passes n [] = tt
passes n (w ∷ ws) = go (nat_lt n w.number) refl (passes n ws)
  where
    go : (b : Bool) → nat_lt n w.number ≡ b → AllByRecursion (λ v. n < v.number) (filter (λ v. nat_lt n v.number) ws) →
        AllByRecursion (λ v. n < v.number)
        (cond b (w ∷ filter (λ v. nat_lt n v.number) ws) (filter (λ v. nat_lt n v.number) ws))
    go true e left = ((let less : n < w.number = grind arith in less), left)
    go false e left = left

has-filter : (n q : ℕ) (m : Msg) (ws : List Unacked) → n < q → Has q m ws → Has q m (filter (λ w. nat_lt n w.number) ws)
has-filter n q m [] less there = there
has-filter n q m (w ∷ ws) less there = go (nat_lt n w.number) refl there (has-filter n q m ws less)
  where
    go : (b : Bool) → nat_lt n w.number ≡ b → Has q m (w ∷ ws) →
        (Has q m ws → Has q m (filter (λ v. nat_lt n v.number) ws)) →
        Has q m (cond b (w ∷ filter (λ v. nat_lt n v.number) ws) (filter (λ v. nat_lt n v.number) ws))
    go true e (inl here) later = inl here
    go true e (inr behind) later = inr (later behind)
    go false e (inl here) later = let is : w.number ≡ q = here.0 in absurd (grind arith)
    go false e (inr behind) later = later behind

flow-waiting : (x y : HopEnd) → IsRising x → Flow x y → IsWaiting x y
flow-waiting x y rising f =
    let n : ℕ = length y.up in
    let shown : length y.up ≡ y.hop.handed_up =
    ap length f.prefix ∙ length-take_within x.given y.hop.handed_up f.within in
    let test : Unacked → Bool = λ w. nat_lt (length y.up) w.number in
    from_on x.given (filter test x.hop.unacked) (length y.up)
    (rises (filter test x.hop.unacked) (AllPairs-filter (λ v w. v.number < w.number) test x.hop.unacked rising))
    (each-filter (WaitsAsGiven x.given) test x.hop.unacked f.waiting) (passes (length y.up) x.hop.unacked)
    (λ k m there far. has-filter (length y.up) (k + 1) m x.hop.unacked (omega arith) (f.kept k m there (omega arith)))

pub under_way_is_waiting : UnderWayIsWaiting
under_way_is_waiting es =
    let f : Flows (after_schedule pair_start es) = flows-run es in
    let r = unacked_rise es in (
      flow-waiting (after_schedule pair_start es).west (after_schedule pair_start es).east r.0 f.eastward,
      flow-waiting (after_schedule pair_start es).east (after_schedule pair_start es).west r.1 f.westward,
    )
