-- Facts on numbers and their tests that std does not have.
use Rattle.std.proofs.{Common.{ℕ, ◌≡◌, true, arith, nat_eq, ◌<◌, ◌≤◌, inr, inl, ◌==◌, false, ◌≢◌, ◌⊎◌, ◌+◌, suc, ◌-◌, cond, nat_le, Bool, nat_lt}, lemmas.Bool.cases_lt}
use Rattle.std.specs.Prelude.{◌&&◌}

-- A number is the same as itself by the test.
pub self-number : (n : ℕ) → nat_eq n n ≡ true
self-number n = grind arith

-- What is at most a number is below it or the same.
pub less-or-same : (i j : ℕ) → i ≤ j → (i < j) ⊎ (i ≡ j)
less-or-same i j le = elim (cases_lt i j) [ inl below ↦ inl below | inr above ↦ inr (omega arith) ]

-- The test `==` tells different numbers apart.
pub equal-not : (a b : ℕ) → a ≢ b → (a == b) ≡ false
equal-not a b h = grind arith

-- Two numbers of which the test finds neither below the other are the same.
pub neither-less : (x y : ℕ) → nat_lt x y ≡ false → nat_lt y x ≡ false → x ≡ y
neither-less x y e f = grind arith

-- What is below the next number is below this one or the same.
pub before-or-same : (k i : ℕ) → k < i + 1 → (k < i) ⊎ (k ≡ i)
before-or-same k i h = grind arith

-- One less than what comes after a number is that number.
pub one-less : (i : ℕ) → suc i - 1 ≡ i
one-less i = omega arith

-- What comes after a number is not zero.
pub above-zero : (i : ℕ) → nat_eq (suc i) 0 ≡ false
above-zero i = grind arith

-- Numbers that the test tells apart are so from either side.
pub apart-turned : (a b : ℕ) → nat_eq a b ≡ false → nat_eq b a ≡ false
apart-turned a b e = grind (arith, e)

-- What the test on two numbers tells of them.
pub le-tested : (k n : ℕ) (b : Bool) → nat_le k n ≡ b → cond b (k ≤ n) (n < k)
le-tested k n true e = grind (arith, e)
le-tested k n false e = grind (arith, e)

-- Numbers that the test `==` finds the same are.
pub equal-is : (a b : ℕ) → (a == b) ≡ true → a ≡ b
equal-is a b h = grind arith

-- The test `==` finds the same number the same.
pub equal-from : (a b : ℕ) → a ≡ b → (a == b) ≡ true
equal-from a b h = grind arith

-- The test `==` finds a number the same as itself.
pub equal-self : (n : ℕ) → (n == n) ≡ true
equal-self n = grind arith

-- The test of two numbers is the same from either side.
pub number-turned : (a b : ℕ) → nat_eq a b ≡ nat_eq b a
number-turned a b = grind arith

-- Numbers that the test tells apart are not the same.
pub not-same : (a n : ℕ) (P : Type 0) → nat_eq a n ≡ false → a ≡ n → P
not-same a n P e f = let same : nat_eq a n ≡ true = grind arith in absurd (cc (e, same))

-- What one more is at most is above it by the test.
pub less-by_test : (n most : ℕ) → suc n ≤ most → nat_lt n most ≡ true
less-by_test n most few = grind arith

-- Two numbers that are the same by the test, from the other side.
pub number-back : (a b : ℕ) → nat_eq a b ≡ true → b ≡ a
number-back a b e = grind arith

-- Nothing that is added to what is at most a lesser number keeps it below.
pub less-plus_none : (x m y : ℕ) → x ≤ m → m < y → x + 0 < y
less-plus_none x m y most less = omega arith

-- What the test of two numbers gives it gives from the other side.
pub number-flip : (a b : ℕ) (c : Bool) → nat_eq a b ≡ c → nat_eq b a ≡ c
number-flip a b true e = grind arith
number-flip a b false e = grind arith

-- The test `==` tells zero from what comes after a number.
pub equal-above_zero : (k : ℕ) → (suc k == 0) ≡ false
equal-above_zero k = grind arith

-- Two pairs of numbers that are the same by the test.
pub two-numbers : (a b u d : ℕ) → (nat_eq a d && nat_eq b u) ≡ true → (a ≡ d) × (b ≡ u)
two-numbers a b u d h = (grind arith, grind arith)
