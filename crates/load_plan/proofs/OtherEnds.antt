-- The two ends of a drawn call are two nodes.
use Rattle.std.proofs.{Common.{◌≡◌, ◌<◌, ◌≤◌, ◌+◌, ◌-◌, ◌%◌, ◌==◌, ℕ, Bool, true, false, nat_lt, refl, arith}, Math.Nat.{mod-eq-sub-mod, mod-eq_of_lt}, lemmas.Nat.mod_below}
use Rattle.load_plan.specs.{Draws.{drawn, next}, Setups.{from_of, to_of}}

-- a node that is e + 1 places on in a ring of n is another one
other_place : (n f e : ℕ) → f < n → e < n - 1 → ((f + 1 + e) % n == f) ≡ false
other_place n f e here less = go (nat_lt (f + 1 + e) n) refl
  where
    apart : (a : ℕ) → f < a → (a == f) ≡ false
    apart a h = grind arith

    before : (a : ℕ) → a < f → (a == f) ≡ false
    before a h = grind arith

    go : (b : Bool) → nat_lt (f + 1 + e) n ≡ b → ((f + 1 + e) % n == f) ≡ false
    go true k =
        let within : f + 1 + e < n = grind (arith, k) in
        rw (mod-eq_of_lt within) (apart (f + 1 + e) (omega arith))
    go false k =
        let past : n ≤ f + 1 + e = grind (arith, k) in
        let back : f + 1 + e - n < n = omega arith in
        rw (mod-eq-sub-mod past, mod-eq_of_lt back) (before (f + 1 + e - n) (omega arith))

-- the first end is a place of a node
pub from_below : (n x : ℕ) → 4 ≤ n → from_of n x < n
from_below n x four = mod_below (drawn x) n (omega arith)

-- and so is the other
pub to_below : (n x : ℕ) → 4 ≤ n → to_of n x < n
to_below n x four = mod_below (from_of n x + 1 + drawn (next x) % (n - 1)) n (omega arith)

-- the two ends have different numbers
pub ends_differ : (n x : ℕ) → 4 ≤ n → (from_of n x + 1 == to_of n x + 1) ≡ false
ends_differ n x four =
    let apart =
    other_place n (from_of n x) (drawn (next x) % (n - 1)) (from_below n x four)
    (mod_below (drawn (next x)) (n - 1) (omega arith))
    in
    turned (from_of n x) (to_of n x) apart
  where
    turned : (a b : ℕ) → (b == a) ≡ false → (a + 1 == b + 1) ≡ false
    turned a b h = grind (arith, h)
