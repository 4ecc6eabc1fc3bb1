-- How many nodes each station is joined to, where one pair more is joined.
use Rattle.std.proofs.Common.{◌≡◌, ◌<◌, ◌≤◌, ◌+◌, ℕ, Bool, true, false, nat_eq, nat_lt, cond, refl, sym, ap, ◌∙◌, subst, lt-ltb, le-ltb, arith}
use Rattle.std.specs.Prelude.{◌&&◌}
use Rattle.ason_base.proofs.Numbers.{self-number}
use Rattle.fleet.specs.Joining.{joined_up_to}

pub joined-low : (high low : ℕ) → low < high → joined_up_to high low low ≡ high
joined-low high low below =
    ap (λ a. cond a (high + 1) (cond (nat_lt low high) high (cond (nat_eq low high) low 0)))
    (le-ltb low low (omega arith))
    ∙ ap (λ b. cond b high (cond (nat_eq low high) low 0)) (lt-ltb low high below)

pub joined-high : (high low : ℕ) → low ≤ high → joined_up_to high low high ≡ low
joined-high high low below =
    ap (λ a. cond a (high + 1) (cond (nat_lt high high) high (cond (nat_eq high high) low 0)))
    (le-ltb high low below)
    ∙ ap (λ b. cond b high (cond (nat_eq high high) low 0)) (le-ltb high high (omega arith))
    ∙ ap (λ c. cond c low 0) (self-number high)

-- where the pair is joined
pub joined-low-next : (high low : ℕ) → joined_up_to high (low + 1) low ≡ high + 1
joined-low-next high low =
    ap (λ a. cond a (high + 1) (cond (nat_lt low high) high (cond (nat_eq low high) (low + 1) 0)))
    (lt-ltb low (low + 1) (omega arith))

pub joined-high-next : (high low : ℕ) → low < high → joined_up_to high (low + 1) high ≡ low + 1
joined-high-next high low below = joined-high high (low + 1) (omega (arith, below))

pub joined-else-next : (high low place : ℕ) → nat_eq place low ≡ false → nat_eq place high ≡ false →
    joined_up_to high (low + 1) place ≡ joined_up_to high low place
joined-else-next high low place p q =
    ap (λ a. cond a (high + 1) (cond (nat_lt place high) high (cond (nat_eq place high) (low + 1) 0))) (same p)
    ∙ ap (λ c. cond (nat_lt place low) (high + 1) (cond (nat_lt place high) high (cond c (low + 1) 0))) q
    ∙ sym (ap (λ c. cond (nat_lt place low) (high + 1) (cond (nat_lt place high) high (cond c low 0))) q)
  where
    same : nat_eq place low ≡ false → nat_lt place (low + 1) ≡ nat_lt place low
    same h = grind (arith, h)

-- no other pair is joined then
pub old-pair : (high low p q : ℕ) → low < high → (nat_eq p low && nat_eq q high) ≡ false →
    (nat_eq p high && nat_eq q low) ≡ false → q < joined_up_to high (low + 1) p → q < joined_up_to high low p
old-pair high low p q below there back less = go (nat_eq p low) refl (nat_eq p high) refl
  where
    before : (a b : ℕ) → a < b + 1 → nat_eq a b ≡ false → a < b
    before a b h k = grind (arith, h, k)

    go : (a : Bool) → nat_eq p low ≡ a → (b : Bool) → nat_eq p high ≡ b → q < joined_up_to high low p
    go true e b f =
        let same : p ≡ low = grind (arith, e) in
        let other : nat_eq q high ≡ false = sym (ap (λ x. x && nat_eq q high) e) ∙ there in
        let now : q < high + 1 =
        subst (λ k. q < k) (joined-low-next high low) (subst (λ k. q < joined_up_to high (low + 1) k) same less) in
        subst (λ k. q < joined_up_to high low k) (sym same)
        (subst (λ k. q < k) (sym (joined-low high low below)) (before q high now other))
    go false e true f =
        let same : p ≡ high = grind (arith, f) in
        let other : nat_eq q low ≡ false = sym (ap (λ x. x && nat_eq q low) f) ∙ back in
        let now : q < low + 1 =
        subst (λ k. q < k) (joined-high-next high low below)
        (subst (λ k. q < joined_up_to high (low + 1) k) same less) in
        subst (λ k. q < joined_up_to high low k) (sym same)
        (subst (λ k. q < k) (sym (joined-high high low (omega (arith, below)))) (before q low now other))
    go false e false f = subst (λ k. q < k) (joined-else-next high low p e f) less

-- The next station

-- all before it were joined
pub joined-up : (high place : ℕ) → nat_eq place high ≡ false →
    joined_up_to (high + 1) 0 place ≡ joined_up_to high high place
joined-up high place other = go (nat_lt place high) refl
  where
    none : (b : Bool) → ◌≡◌ {A = ℕ} (cond b 0 0) 0
    none true = refl
    none false = refl

    up : joined_up_to (high + 1) 0 place
        ≡ cond (nat_lt place (high + 1)) (high + 1) (cond (nat_eq place (high + 1)) 0 0)
    up =
        ap (λ a. cond a (high + 1 + 1)
        (cond (nat_lt place (high + 1)) (high + 1) (cond (nat_eq place (high + 1)) 0 0)))
        (le-ltb place 0 (omega arith))

    go : (b : Bool) → nat_lt place high ≡ b → joined_up_to (high + 1) 0 place ≡ joined_up_to high high place
    go true e =
        let later : nat_lt place (high + 1) ≡ true = grind (arith, e) in
        up ∙ ap (λ a. cond a (high + 1) (cond (nat_eq place (high + 1)) 0 0)) later
        ∙ sym (ap (λ a. cond a (high + 1) (cond (nat_lt place high) high (cond (nat_eq place high) high 0))) e)
    go false e =
        let later : nat_lt place (high + 1) ≡ false = grind (arith, e, other) in
        up ∙ ap (λ a. cond a (high + 1) (cond (nat_eq place (high + 1)) 0 0)) later
        ∙ none (nat_eq place (high + 1))
        ∙ sym (ap (λ a. cond a (high + 1) (cond a high (cond (nat_eq place high) high 0))) e
        ∙ ap (λ a. cond a high 0) other)

-- none is joined yet
pub joined-none : (place : ℕ) → joined_up_to 0 0 place ≡ 0
joined-none place =
    ap (λ a. cond a 1 (cond a 0 (cond (nat_eq place 0) 0 0))) (le-ltb place 0 (omega arith)) ∙ none (nat_eq place 0)
  where
    none : (b : Bool) → ◌≡◌ {A = ℕ} (cond b 0 0) 0
    none true = refl
    none false = refl

-- all are joined
pub joined-whole : (count place : ℕ) → place < count → joined_up_to count 0 place ≡ count
joined-whole count place below =
    ap (λ a. cond a (count + 1) (cond (nat_lt place count) count (cond (nat_eq place count) 0 0)))
    (le-ltb place 0 (omega arith))
    ∙ ap (λ a. cond a count (cond (nat_eq place count) 0 0)) (lt-ltb place count below)
