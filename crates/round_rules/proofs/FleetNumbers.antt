-- Lists of numbers of frames.
use Rattle.std.proofs.Common.{◌≡◌, ◌<◌, ◌≤◌, ◌+◌, ◌-◌, ℕ, zero, suc, Bool, true, false, cond, not, nat_eq, eqb-true, List, [], ◌∷◌, ◌++◌, drop, filter, length, refl, sym, ap, ◌∙◌, subst, arith}
use Rattle.std.specs.{Prelude.◌||◌, List.{AllByRecursion, range_with_len}}
use Rattle.hop_reliable.proofs.Members.{each-more}
use Rattle.round_rules.specs.{Rings.{is_number_in, without_numbers}, Rounds.NumbersRise}
use Rattle.round_rules.proofs.Numbers.{in-append, rises-above}

-- Ranges

-- a range is two
pub range-split : (s a b : ℕ) → range_with_len s (a + b) ≡ range_with_len s a ++ range_with_len (s + a) b
range-split s zero b =
    let none : 0 + b ≡ b = omega arith in
    let here : s + 0 ≡ s = omega arith in
    ap (range_with_len s) none ∙ ap (λ k. range_with_len k b) (sym here)
range-split s (suc a) b =
    let one : suc a + b ≡ suc (a + b) = omega arith in
    let here : (s + 1) + a ≡ s + suc a = omega arith in
    ap (range_with_len s) one ∙ ap (λ ks. s ∷ ks) (range-split (s + 1) a b)
    ∙ ap (λ k. s ∷ (range_with_len (s + 1) a ++ range_with_len k b)) here

-- the rest of a range is one
pub drop-range : (k s m : ℕ) → drop k (range_with_len s m) ≡ range_with_len (s + k) (m - k)
drop-range zero s m =
    let here : s + 0 ≡ s = omega arith in
    let all : m - 0 ≡ m = omega arith in
    ap (λ j. range_with_len j m) (sym here) ∙ ap (range_with_len (s + 0)) (sym all)
drop-range (suc k) s zero = let none : 0 - suc k ≡ 0 = omega arith in ap (range_with_len (s + suc k)) (sym none)
drop-range (suc k) s (suc m) =
    let here : (s + 1) + k ≡ s + suc k = omega arith in
    let left : m - k ≡ suc m - suc k = omega arith in
    drop-range k (s + 1) m ∙ ap (λ j. range_with_len j (m - k)) here ∙ ap (range_with_len (s + suc k)) left

-- what holds of each number within bounds holds of a range
pub all-range : (P : ℕ → Type 0) (s m : ℕ) → ((k : ℕ) → s ≤ k → k < s + m → P k) →
    AllByRecursion P (range_with_len s m)
all-range P s zero f = tt
all-range P s (suc m) f = (
  f s (omega arith) (omega arith),
  all-range P (s + 1) m (λ k low high. f k (omega (arith, low))
      (omega (arith, high))),
)

-- Rising

-- a range rises
pub rises-range : (a s m : ℕ) → a < s → NumbersRise a (range_with_len s m)
rises-range a s zero lt = tt
rises-range a s (suc m) lt = (lt, rises-range s (s + 1) m (omega arith))

-- so do those that pass a test
pub rises-filter : (p : ℕ → Bool) (a : ℕ) (xs : List ℕ) → NumbersRise a xs → NumbersRise a (filter p xs)
rises-filter p a [] up = tt
rises-filter p a (x ∷ xs) up = go (p x) (rises-filter p x xs up.1)
  where
    go : (b : Bool) → NumbersRise x (filter p xs) → NumbersRise a (cond b (x ∷ filter p xs) (filter p xs))
    go true rest = (up.0, rest)
    go false rest = rises-above a x (filter p xs) (let first = up.0 in omega (arith, first)) rest

-- and a first part
pub rises-first : (a : ℕ) (xs ys : List ℕ) → NumbersRise a (xs ++ ys) → NumbersRise a xs
rises-first a [] ys up = tt
rises-first a (x ∷ xs) ys up = (up.0, rises-first x xs ys up.1)

-- Being in a list

-- a number that is none of these isn't among them
not-among : (k : ℕ) (xs : List ℕ) → AllByRecursion (λ (x : ℕ). nat_eq x k ≡ false) xs → is_number_in xs k ≡ false
not-among k [] all = refl
not-among k (x ∷ xs) all = ap (λ b. b || is_number_in xs k) all.0 ∙ not-among k xs all.1

-- so is one below all of them
pub not-above : (k : ℕ) (xs : List ℕ) → AllByRecursion (λ (x : ℕ). k < x) xs → is_number_in xs k ≡ false
not-above k xs all =
    not-among k xs (each-more (λ (x : ℕ). k < x) (λ (x : ℕ). nat_eq x k ≡ false) (λ x less. grind (arith, less)) xs all)

-- and one above all
pub not-below : (k : ℕ) (xs : List ℕ) → AllByRecursion (λ (x : ℕ). x < k) xs → is_number_in xs k ≡ false
not-below k xs all =
    not-among k xs (each-more (λ (x : ℕ). x < k) (λ (x : ℕ). nat_eq x k ≡ false) (λ x less. grind (arith, less)) xs all)

-- a number that is among those that pass passes, and is there
pub in_filter : (p : ℕ → Bool) (xs : List ℕ) (k : ℕ) → is_number_in (filter p xs) k ≡ true →
    (p k ≡ true) × (is_number_in xs k ≡ true)
in_filter p [] k h = absurd (cc (h))
in_filter p (x ∷ xs) k h = go (p x) refl (nat_eq x k) refl (in_filter p xs k) h
  where
    go : (b : Bool) → p x ≡ b → (c : Bool) → nat_eq x k ≡ c →
        (is_number_in (filter p xs) k ≡ true → (p k ≡ true) × (is_number_in xs k ≡ true)) →
        is_number_in (cond b (x ∷ filter p xs) (filter p xs)) k ≡ true →
        (p k ≡ true) × ((nat_eq x k || is_number_in xs k) ≡ true)
    go true e true f rest g =
        let same : x ≡ k = eqb-true x k f in (ap p (sym same) ∙ e, ap (λ b. b || is_number_in xs k) f)
    go true e false f rest g =
        let later = rest (ap (λ b. b || is_number_in (filter p xs) k) (sym f) ∙ g) in
        (later.0, ap (λ b. b || is_number_in xs k) f ∙ later.1)
    go false e c f rest g = let later = rest g in (later.0, or_right (nat_eq x k) (is_number_in xs k) later.1)
      where
        or_right : (a b : Bool) → b ≡ true → (a || b) ≡ true
        or_right true b h = refl
        or_right false b h = h

-- Fewer are left where more are taken

-- the more are taken away, the fewer are left
pub without-fewer : (ks more xs : List ℕ) → length (without_numbers (ks ++ more) xs) ≤ length (without_numbers ks xs)
without-fewer ks more [] = omega arith
without-fewer ks more (x ∷ xs) =
    go (is_number_in ks x) (is_number_in more x) (in-append ks more x) (without-fewer ks more xs)
  where
    go : (a b : Bool) → is_number_in (ks ++ more) x ≡ (is_number_in ks x || is_number_in more x) →
        length (without_numbers (ks ++ more) xs) ≤ length (without_numbers ks xs) →
        length (cond (not (is_number_in (ks ++ more) x)) (x ∷ without_numbers (ks ++ more) xs)
        (without_numbers (ks ++ more) xs)) ≤
        length (cond (not (is_number_in ks x)) (x ∷ without_numbers ks xs) (without_numbers ks xs))
    go a b e rest =
        subst (λ c. length (cond (not c) (x ∷ without_numbers (ks ++ more) xs) (without_numbers (ks ++ more) xs)) ≤
        length (cond (not (is_number_in ks x)) (x ∷ without_numbers ks xs) (without_numbers ks xs))) (sym e)
        (all (is_number_in ks x) (is_number_in more x) rest)
      where
        all : (c d : Bool) → length (without_numbers (ks ++ more) xs) ≤ length (without_numbers ks xs) →
            length (cond (not (c || d)) (x ∷ without_numbers (ks ++ more) xs) (without_numbers (ks ++ more) xs)) ≤
            length (cond (not c) (x ∷ without_numbers ks xs) (without_numbers ks xs))
        all true d less = less
        all false true less = omega (arith, less)
        all false false less = omega (arith, less)

-- what stands in a list stays where it is not among these
pub in-without : (ks xs : List ℕ) (k : ℕ) → is_number_in ks k ≡ false → is_number_in xs k ≡ true →
    is_number_in (without_numbers ks xs) k ≡ true
in-without ks [] k out h = absurd (cc (h))
in-without ks (x ∷ xs) k out h = go (is_number_in ks x) refl (nat_eq x k) refl (in-without ks xs k out)
  where
    go : (b : Bool) → is_number_in ks x ≡ b → (c : Bool) → nat_eq x k ≡ c →
        (is_number_in xs k ≡ true → is_number_in (without_numbers ks xs) k ≡ true) →
        is_number_in (cond (not b) (x ∷ without_numbers ks xs) (without_numbers ks xs)) k ≡ true
    go true e true f rest = absurd (cc (e, out, ap (is_number_in ks) (eqb-true x k f)))
    go true e false f rest = rest (ap (λ b. b || is_number_in xs k) (sym f) ∙ h)
    go false e true f rest = ap (λ b. b || is_number_in (without_numbers ks xs) k) f
    go false e false f rest =
        ap (λ b. b || is_number_in (without_numbers ks xs) k) f ∙ rest (ap (λ b. b || is_number_in xs k) (sym f) ∙ h)

-- numbers that rise are all above the first bound
pub rises-all : (a : ℕ) (xs : List ℕ) → NumbersRise a xs → AllByRecursion (λ (x : ℕ). a < x) xs
rises-all a [] up = tt
rises-all a (x ∷ xs) up =
    let first = up.0 in
    (up.0, each-more (λ (y : ℕ). x < y) (λ (y : ℕ). a < y) (λ y lt. omega (arith, lt, first)) xs (rises-all x xs up.1))
