-- Stamps without a gap are few.
use Rattle.std.proofs.Common.{◌≡◌, ◌≤◌, ◌<◌, ℕ, zero, suc, Bool, true, false, cond, not, nat_eq, List, [], ◌∷◌, length, refl, sym, ap, ◌∙◌, subst, arith}
use Rattle.std.specs.Prelude.{◌||◌}
use Rattle.ason_base.proofs.Numbers.{apart-turned}
use Rattle.round_rules.specs.Rings.{is_number_in, without_numbers}
use Rattle.round_rules.proofs.FleetNumbers.{in-without, in_filter}

apart : (a b : ℕ) → b < a → (nat_eq a b || false) ≡ false
apart a b lt = grind (arith, lt)

-- one fewer is left without one that is there
fewer : (k : ℕ) (xs : List ℕ) → is_number_in xs k ≡ true → length (without_numbers (k ∷ []) xs) < length xs
fewer k [] h = absurd (cc (h))
fewer k (x ∷ xs) h = go (nat_eq k x) refl (most xs) (fewer k xs)
  where
    most : (ys : List ℕ) → length (without_numbers (k ∷ []) ys) ≤ length ys
    most [] = omega arith
    most (y ∷ ys) = either (is_number_in (k ∷ []) y) (most ys)
      where
        either : (b : Bool) → length (without_numbers (k ∷ []) ys) ≤ length ys →
            length (cond (not b) (y ∷ without_numbers (k ∷ []) ys) (without_numbers (k ∷ []) ys)) ≤ suc (length ys)
        either true le = omega (arith, le)
        either false le = omega (arith, le)

    turned : nat_eq k x ≡ false → nat_eq x k ≡ false
    turned e = apart-turned k x e

    go : (b : Bool) → nat_eq k x ≡ b → length (without_numbers (k ∷ []) xs) ≤ length xs →
        (is_number_in xs k ≡ true → length (without_numbers (k ∷ []) xs) < length xs) →
        length (cond (not (nat_eq k x || false)) (x ∷ without_numbers (k ∷ []) xs) (without_numbers (k ∷ []) xs)) < suc
        (length xs)
    go true e le rest =
        subst (λ b. length (cond (not (b || false)) (x ∷ without_numbers (k ∷ []) xs) (without_numbers (k ∷ []) xs)) <
        suc (length xs))
        (sym e) (omega (arith, le))
    go false e le rest =
        let less : length (without_numbers (k ∷ []) xs) < length xs =
        rest (sym (ap (λ b. b || is_number_in xs k) (turned e)) ∙ h) in
        subst (λ b. length (cond (not (b || false)) (x ∷ without_numbers (k ∷ []) xs) (without_numbers (k ∷ []) xs)) <
        suc (length xs))
        (sym e) (omega (arith, less))

-- numbers among which with each above 1 the one below stands
pub few-numbers : (s : ℕ) (xs : List ℕ) → is_number_in xs s ≡ true →
    ((k : ℕ) → is_number_in xs (suc (suc k)) ≡ true → suc (suc k) ≤ s → is_number_in xs (suc k) ≡ true) → s ≤ length xs
few-numbers zero xs there below = omega arith
few-numbers (suc zero) xs there below = let less = fewer 1 xs there in omega (arith, less)
few-numbers (suc (suc s)) xs there below =
    let less = fewer (suc (suc s)) xs there in
    let rest = few-numbers (suc s) (without_numbers (suc (suc s) ∷ []) xs) (stays (suc s) (omega arith)
    (below s there (omega arith)))
    (λ k h le. stays (suc k) (omega (arith, le)) (below k (was (suc (suc k)) h) (omega (arith, le)))) in
    omega (arith, less, rest)
  where
    not_one : (k : ℕ) → k < suc (suc s) → is_number_in (suc (suc s) ∷ []) k ≡ false
    not_one k lt = apart (suc (suc s)) k lt

    stays : (k : ℕ) → k < suc (suc s) → is_number_in xs k ≡ true →
        is_number_in (without_numbers (suc (suc s) ∷ []) xs) k ≡ true
    stays k lt h = in-without (suc (suc s) ∷ []) xs k (not_one k lt) h

    was : (k : ℕ) → is_number_in (without_numbers (suc (suc s) ∷ []) xs) k ≡ true → is_number_in xs k ≡ true
    was k h = (in_filter (λ n. not (is_number_in (suc (suc s) ∷ []) n)) xs k h).1
