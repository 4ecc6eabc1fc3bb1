-- Lists whose numbers rise, and one item more.
use Rattle.std.proofs.Common.{◌≡◌, ℕ, zero, suc, ◌<◌, ◌-◌, ◌==◌, Bool, true, false, cond, nat_lt, arith, length, length-append, List, [], ◌∷◌, ◌++◌, refl, subst}
use Rattle.std.specs.Prelude.{Option, Some, None, slice_get}
use Rattle.ason_base.proofs.{Numbers.equal-above_zero, Places.get-last}

-- each number is above that of the item before, the first above 0
abbrev pub RiseByNumber : {X : Type 0} → (Option X → ℕ) → List X → Type 0
RiseByNumber num xs =
    (k : ℕ) → k < length xs
    → nat_lt (cond (k == 0) 0 (num (slice_get xs (k - 1)))) (num (slice_get xs k)) ≡ true

pub get_before :
    {X : Type 0} (xs : List X) (x : X) (k : ℕ) → k < length xs → slice_get (xs ++ x ∷ []) k ≡ slice_get xs k
get_before [] x k below = absurd (omega arith)
get_before (y ∷ xs) x zero below = refl
get_before (y ∷ xs) x (suc k) below = get_before xs x k (omega arith)

last_rises :
    {X : Type 0} (num : Option X → ℕ) (xs : List X) (x : X) → num None ≡ 0
    → nat_lt (num (slice_get xs (length xs - 1))) (num (Some x)) ≡ true
    → nat_lt (cond (length xs == 0) 0 (num (slice_get (xs ++ x ∷ []) (length xs - 1))))
    (num (slice_get (xs ++ x ∷ []) (length xs))) ≡ true
last_rises num [] x none above = rw none at above
last_rises num (y ∷ ys) x none above =
    rw (equal-above_zero (length ys), get-last (y ∷ ys) x, get_before (y ∷ ys) x (suc (length ys) - 1) (omega arith)) above

-- what holds at each place, and at the place of one item more
pub at_each :
    {X : Type 0} (Holds : ℕ → Type 0) (xs : List X) (x : X) → ((k : ℕ) → k < length xs → Holds k) → Holds (length xs)
    → (k : ℕ) → k < length (xs ++ x ∷ []) → Holds k
at_each {X} Holds xs x each last k below = go (nat_lt k (length xs)) refl
  where
    go : (b : Bool) → nat_lt k (length xs) ≡ b → Holds k
    go true e = each k (grind (arith, e))
    go false e =
        let more = length-append xs (x ∷ []) in
        let same : length xs ≡ k = grind (arith, e, below, more) in
        subst Holds same last

pub rise_more :
    {X : Type 0} (num : Option X → ℕ) (xs : List X) (x : X) → num None ≡ 0 → RiseByNumber num xs
    → nat_lt (num (slice_get xs (length xs - 1))) (num (Some x)) ≡ true → RiseByNumber num (xs ++ x ∷ [])
rise_more {X} num xs x none rise above =
    at_each (λ k. Rises k) xs x
    (λ k below.
    rw (get_before xs x k below, get_before xs x (k - 1) (omega arith)) (rise k below))
    (last_rises num xs x none above)
  where
    Rises : ℕ → Type 0
    Rises k =
        nat_lt (cond (k == 0) 0 (num (slice_get (xs ++ x ∷ []) (k - 1)))) (num (slice_get (xs ++ x ∷ []) k)) ≡ true
