-- Facts on lists of numbers and of doings.
use Rattle.std.specs.{Prelude.◌||◌, List.range_with_len}
use Rattle.std.proofs.Common.{ℕ, [], ◌≤◌, ◌∷◌, arith, List, ◌∙◌, ap, refl, ◌++◌, nat_eq, ◌≡◌, suc, ◌<◌, false, true, ◌+◌, Bool, zero, cond}
use Rattle.ason_base.specs.declared.ids.NodeId.{NodeId}
use Rattle.round_rules.specs.{Rounds.NumbersRise, Rings.{is_number_in, got_from}, Doings.{Got, Doing, Lost, Left, Freed, Did}}

-- Numbers that rise from one rise from a lower.
pub rises-above : (a b : ℕ) (xs : List ℕ) → a ≤ b → NumbersRise b xs → NumbersRise a xs
rises-above a b [] le up = tt
rises-above a b (x ∷ xs) le up = (let first = up.0 in omega (arith, le, first), up.1)

-- What two lists joined have is in one of them.
pub in-append : (xs ys : List ℕ) (k : ℕ) → is_number_in (xs ++ ys) k ≡ (is_number_in xs k || is_number_in ys k)
in-append [] ys k = refl
in-append (x ∷ xs) ys k = ap (λ b. nat_eq x k || b) (in-append xs ys k) ∙ grind arith

-- A range has the numbers from its first up to its length.
pub in_range : (a c k : ℕ) → a ≤ k → k < a + c → is_number_in (range_with_len a c) k ≡ true
in_range a zero k low high = absurd (omega (arith, low, high))
in_range a (suc c) k low high = go (nat_eq a k) refl (λ l h. in_range (a + 1) c k l h)
  where
    go : (b : Bool) → nat_eq a k ≡ b → (a + 1 ≤ k → k < (a + 1) + c → is_number_in (range_with_len (a + 1) c) k ≡ true) →
        (b || is_number_in (range_with_len (a + 1) c) k) ≡ true
    go true e rest = refl
    go false e rest =
        let past : a < k = grind (arith, e, low) in
        rest (omega (arith, past)) (omega (arith, high))

-- What two lists of doings got from a node, joined.
pub got-append : (u : NodeId) (ds es : List Doing) → got_from u (ds ++ es) ≡ got_from u ds ++ got_from u es
got-append u [] es = refl
got-append u (Did d ∷ ds) es = got-append u ds es
got-append u (Freed ∷ ds) es = got-append u ds es
got-append u (Lost v k ∷ ds) es = got-append u ds es
got-append u (Left i ∷ ds) es = got-append u ds es
got-append u (Got v k o ∷ ds) es = go (nat_eq v.0 u.0) (got-append u ds es)
  where
    go : (b : Bool) → got_from u (ds ++ es) ≡ got_from u ds ++ got_from u es →
        cond b (k ∷ got_from u (ds ++ es)) (got_from u (ds ++ es)) ≡
        cond b (k ∷ got_from u ds) (got_from u ds) ++ got_from u es
    go true rest = ap (λ ks. k ∷ ks) rest
    go false rest = rest

-- A number of a list is one of each list that begins so.
pub in-first : (xs ys : List ℕ) (k : ℕ) → is_number_in xs k ≡ true → is_number_in (xs ++ ys) k ≡ true
in-first xs ys k h = in-append xs ys k ∙ ap (λ b. b || is_number_in ys k) h
