-- What stands in a ring is what is left of what was handed to it.
use Rattle.std.proofs.{Common.{◌≡◌, ◌<◌, ◌+◌, ℕ, zero, suc, Bool, true, false, cond, not, nat_eq, List, [], ◌∷◌, ◌++◌, filter, refl, ap, ◌∙◌, subst, arith}, lemmas.List.Elements.filter-append}
use Rattle.std.specs.{Prelude.◌||◌, List.{AllByRecursion, range_with_len}}
use Rattle.ason_base.proofs.{Members.all-filter, Numbers.self-number}
use Rattle.hop_reliable.proofs.Members.{each-more}
use Rattle.round_rules.specs.Rings.{StandingIsLeft, count_of, got_from, handed, is_number_in, without_numbers}

-- Rising numbers

abbrev Above : ℕ → List ℕ → Type 0
Above n xs = AllByRecursion (λ (k : ℕ). n < k) xs

abbrev Rising : List ℕ → Type 0
Rising [] = Unit {0}
Rising (x ∷ xs) = Above x xs × Rising xs

above_range : (n a k : ℕ) → n < a → Above n (range_with_len a k)
above_range n a zero h = tt
above_range n a (suc k) h = (h, above_range n (a + 1) k (omega (arith, h)))

rising_range : (a k : ℕ) → Rising (range_with_len a k)
rising_range a zero = tt
rising_range a (suc k) = (above_range a (a + 1) k (omega arith), rising_range (a + 1) k)

rising_filter : (p : ℕ → Bool) (xs : List ℕ) → Rising xs → Rising (filter p xs)
rising_filter p [] up = tt
rising_filter p (x ∷ xs) up = go (p x) (rising_filter p xs up.1) (all-filter (λ (k : ℕ). x < k) p xs up.0)
  where
    go : (b : Bool) → Rising (filter p xs) → Above x (filter p xs) → Rising (cond b (x ∷ filter p xs) (filter p xs))
    go true rest above = (above, rest)
    go false rest above = rest

-- A first part of a rising list has none of the rest

-- all that are among these go
all_go : (ks xs : List ℕ) → AllByRecursion (λ (x : ℕ). is_number_in ks x ≡ true) xs → without_numbers ks xs ≡ []
all_go ks [] all = refl
all_go ks (x ∷ xs) all = ap (λ b. cond (not b) (x ∷ without_numbers ks xs) (without_numbers ks xs)) all.0
    ∙ all_go ks xs all.1

-- all that aren't stay
all_stay : (ks xs : List ℕ) → AllByRecursion (λ (x : ℕ). is_number_in ks x ≡ false) xs → without_numbers ks xs ≡ xs
all_stay ks [] all = refl
all_stay ks (x ∷ xs) all =
    ap (λ b. cond (not b) (x ∷ without_numbers ks xs) (without_numbers ks xs)) all.0
    ∙ ap (λ ys. x ∷ ys) (all_stay ks xs all.1)

pub each_in : (xs : List ℕ) → AllByRecursion (λ (x : ℕ). is_number_in xs x ≡ true) xs
each_in [] = tt
each_in (x ∷ xs) = (
  ap (λ b. b || is_number_in xs x) (self-number x),
  each-more (λ (y : ℕ). is_number_in xs y ≡ true) (λ (y : ℕ). is_number_in (x ∷ xs) y ≡ true) (later x xs) xs
      (each_in xs),
)
  where
    later : (x : ℕ) (xs : List ℕ) (y : ℕ) → is_number_in xs y ≡ true → is_number_in (x ∷ xs) y ≡ true
    later x xs y h = grind (arith, h)

above_right : (n : ℕ) (xs ys : List ℕ) → Above n (xs ++ ys) → Above n ys
above_right n [] ys all = all
above_right n (x ∷ xs) ys all = above_right n xs ys all.1

none_in : (ys : List ℕ) → AllByRecursion (λ (y : ℕ). is_number_in [] y ≡ false) ys
none_in [] = tt
none_in (y ∷ ys) = (refl, none_in ys)

rest_out : (xs ys : List ℕ) → Rising (xs ++ ys) → AllByRecursion (λ (y : ℕ). is_number_in xs y ≡ false) ys
rest_out [] ys up = none_in ys
rest_out (x ∷ xs) ys up = go ys (above_right x xs ys up.0) (rest_out xs ys up.1)
  where
    other : (y : ℕ) → x < y → nat_eq x y ≡ false
    other y h = grind (arith, h)

    go : (zs : List ℕ) → Above x zs → AllByRecursion (λ (z : ℕ). is_number_in xs z ≡ false) zs →
        AllByRecursion (λ (z : ℕ). is_number_in (x ∷ xs) z ≡ false) zs
    go [] above all = tt
    go (z ∷ zs) above all = (ap (λ b. b || is_number_in xs z) (other z above.0) ∙ all.0, go zs above.1 all.1)

without_first : (xs ys : List ℕ) → Rising (xs ++ ys) → without_numbers xs (xs ++ ys) ≡ ys
without_first xs ys up =
    filter-append (λ n. not (is_number_in xs n)) xs ys
    ∙ ap (λ zs. zs ++ without_numbers xs ys) (all_go xs xs (each_in xs))
    ∙ all_stay xs ys (rest_out xs ys up)

pub standing-is-left : StandingIsLeft
standing-is-left t r u d left is =
    ap (without_numbers taken) is ∙ without_first taken left (subst Rising is rising)
  where
    taken : List ℕ
    taken = got_from u (r.doings d.0)

    rising : Rising (handed t r u d)
    rising =
        rising_filter (λ n. not (is_number_in (r.dropped u.0 d.0) n)) (range_with_len 1 (count_of t r u d))
        (rising_range 1 (count_of t r u d))
