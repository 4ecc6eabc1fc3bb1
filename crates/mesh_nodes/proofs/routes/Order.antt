-- Walks are in order of cost, and then of their lists of links.
use Rattle.std.proofs.Common.{◌≡◌, ◌<◌, ◌≤◌, ◌⊎◌, inl, inr, ℕ, Bool, true, false, nat_eq, nat_lt, List, [], ◌∷◌, refl, ap, arith}
use Rattle.std.specs.Prelude.{◌&&◌, ◌||◌}
use Rattle.ason_base.specs.{Walks.{IsAtMost, links_of}, declared.ids.LinkId.LinkId, declared.steps.Step.Step}
use Rattle.mesh_rules.specs.LeastRoutes.{Trip, is_at_most, precedes}

-- One place: the numbers decide, or else what follows

abbrev comes_first : ℕ → ℕ → Bool → Bool
comes_first a b rest = nat_lt a b || (nat_eq a b && rest)

total : (a b : ℕ) (p q : Bool) → (p ≡ false → q ≡ true) → comes_first a b p ≡ false → comes_first b a q ≡ true
total a b true q f h = grind arith
total a b false q f h = let e : q ≡ true = f refl in grind arith

transitive : (a b c : ℕ) (p q r : Bool) → (p ≡ true → q ≡ true → r ≡ true) → comes_first a b p ≡ true →
    comes_first b c q ≡ true → comes_first a c r ≡ true
transitive a b c true true r f h k = let e : r ≡ true = f refl refl in grind arith
transitive a b c true false r f h k = grind arith
transitive a b c false true r f h k = grind arith
transitive a b c false false r f h k = grind arith

reflexive : (a : ℕ) (p : Bool) → p ≡ true → comes_first a a p ≡ true
reflexive a p h = grind arith

-- each before the other: the numbers are the same, and what follows is each before the other
both_ways : (a b : ℕ) (p q : Bool) → comes_first a b p ≡ true → comes_first b a q ≡ true → (a ≡ b) × (p ≡ true) ×
    (q ≡ true)
both_ways a b p q h k = (grind arith, grind arith, grind arith)

by_number : (a b : ℕ) (p : Bool) → a < b → comes_first a b p ≡ true
by_number a b p h = grind arith

by_rest : (a b : ℕ) (p : Bool) → a ≡ b → p ≡ true → comes_first a b p ≡ true
by_rest a b p h k = grind arith

-- Lists of links

at_most-total : (xs ys : List Step) → is_at_most xs ys ≡ false → is_at_most ys xs ≡ true
at_most-total [] ys h = absurd (cc h)
at_most-total (x ∷ xs) [] h = refl
at_most-total (x ∷ xs) (y ∷ ys) h = total x.link.0 y.link.0 (is_at_most xs ys) (is_at_most ys xs)
    (at_most-total xs ys) h

at_most-trans : (xs ys zs : List Step) → is_at_most xs ys ≡ true → is_at_most ys zs ≡ true → is_at_most xs zs ≡ true
at_most-trans [] ys zs h k = refl
at_most-trans (x ∷ xs) [] zs h k = absurd (cc h)
at_most-trans (x ∷ xs) (y ∷ ys) [] h k = absurd (cc k)
at_most-trans (x ∷ xs) (y ∷ ys) (z ∷ zs) h k =
    transitive x.link.0 y.link.0 z.link.0 (is_at_most xs ys) (is_at_most ys zs) (is_at_most xs zs)
    (at_most-trans xs ys zs) h k

at_most-self : (xs : List Step) → is_at_most xs xs ≡ true
at_most-self [] = refl
at_most-self (x ∷ xs) = reflexive x.link.0 (is_at_most xs xs) (at_most-self xs)

pub at_most-test : (xs ys : List Step) → IsAtMost (links_of xs) (links_of ys) → is_at_most xs ys ≡ true
at_most-test [] ys h = refl
at_most-test (x ∷ xs) [] h = elim h [ ]
at_most-test (x ∷ xs) (y ∷ ys) h = elim h [
  | inl less ↦ by_number x.link.0 y.link.0 (is_at_most xs ys) less
  | inr same ↦ by_rest x.link.0 y.link.0 (is_at_most xs ys) (ap (λ (l : LinkId). l.0) same.0)
      (at_most-test xs ys same.1)
]

pub test-at_most : (xs ys : List Step) → is_at_most xs ys ≡ true → IsAtMost (links_of xs) (links_of ys)
test-at_most [] ys h = tt
test-at_most (x ∷ xs) [] h = absurd (cc h)
test-at_most (x ∷ xs) (y ∷ ys) h = go (nat_lt x.link.0 y.link.0) refl h (test-at_most xs ys)
  where
    Rest : Type 0
    Rest = is_at_most xs ys ≡ true → IsAtMost (links_of xs) (links_of ys)

    same : nat_eq x.link.0 y.link.0 ≡ true → x.link ≡ y.link
    same e = let n : x.link.0 ≡ y.link.0 = grind arith in λ i. record { 0 = n i }

    on : (c : Bool) → nat_eq x.link.0 y.link.0 ≡ c → (c && is_at_most xs ys) ≡ true → Rest →
        (x.link.0 < y.link.0) ⊎ ((x.link ≡ y.link) × IsAtMost (links_of xs) (links_of ys))
    on true e k rest = inr (same e, rest k)
    on false e k rest = absurd (cc k)

    go : (b : Bool) → nat_lt x.link.0 y.link.0 ≡ b → (b || (nat_eq x.link.0 y.link.0 && is_at_most xs ys)) ≡ true →
        Rest →
        (x.link.0 < y.link.0) ⊎ ((x.link ≡ y.link) × IsAtMost (links_of xs) (links_of ys))
    go true e k rest = inl (grind arith)
    go false e k rest = on (nat_eq x.link.0 y.link.0) refl k rest

same_links : (xs ys : List Step) → is_at_most xs ys ≡ true → is_at_most ys xs ≡ true → links_of xs ≡ links_of ys
same_links [] [] h k = refl
same_links [] (y ∷ ys) h k = absurd (cc k)
same_links (x ∷ xs) [] h k = absurd (cc h)
same_links (x ∷ xs) (y ∷ ys) h k =
    let same = both_ways x.link.0 y.link.0 (is_at_most xs ys) (is_at_most ys xs) h k in
    let links = same_links xs ys same.1 same.2 in
    λ i. record { 0 = same.0 i } ∷ links i

-- Walks

pub precedes-total : (x y : Trip) → precedes x y ≡ false → precedes y x ≡ true
precedes-total x y h = total x.cost y.cost (is_at_most x.steps y.steps) (is_at_most y.steps x.steps)
    (at_most-total x.steps y.steps) h

pub precedes-trans : (x y z : Trip) → precedes x y ≡ true → precedes y z ≡ true → precedes x z ≡ true
precedes-trans x y z h k =
    transitive x.cost y.cost z.cost (is_at_most x.steps y.steps) (is_at_most y.steps z.steps)
    (is_at_most x.steps z.steps)
    (at_most-trans x.steps y.steps z.steps) h k

pub precedes-self : (x : Trip) → precedes x x ≡ true
precedes-self x = reflexive x.cost (is_at_most x.steps x.steps) (at_most-self x.steps)

pub record AreAlike (x y : Trip) : Type 0 where
  pub cost : x.cost ≡ y.cost
  pub links : links_of x.steps ≡ links_of y.steps

pub both_precede : (x y : Trip) → precedes x y ≡ true → precedes y x ≡ true → AreAlike x y
both_precede x y h k =
    let same = both_ways x.cost y.cost (is_at_most x.steps y.steps) (is_at_most y.steps x.steps) h k in
    record { cost = same.0; links = same_links x.steps y.steps same.1 same.2 }

-- what precedes costs no more, and at the same cost it has no greater links

no_more : (a b : ℕ) (p : Bool) → comes_first a b p ≡ true → a ≤ b
no_more a b p h = grind arith

the_rest : (a b : ℕ) (p : Bool) → comes_first a b p ≡ true → a ≡ b → p ≡ true
the_rest a b p h same = grind arith

pub precedes-cost : (x y : Trip) → precedes x y ≡ true → x.cost ≤ y.cost
precedes-cost x y h = no_more x.cost y.cost (is_at_most x.steps y.steps) h

pub precedes-links : (x y : Trip) → precedes x y ≡ true → x.cost ≡ y.cost → is_at_most x.steps y.steps ≡ true
precedes-links x y h same = the_rest x.cost y.cost (is_at_most x.steps y.steps) h same

cheaper : (a b : ℕ) (p : Bool) → a ≤ b → (a ≡ b → p ≡ true) → comes_first a b p ≡ true
cheaper a b true h f = grind arith
cheaper a b false h f = by_test (nat_eq a b) refl
  where
    by_test : (c : Bool) → nat_eq a b ≡ c → comes_first a b false ≡ true
    by_test true e = let same : a ≡ b = grind arith in absurd (cc (f same))
    by_test false e = grind arith

pub precedes-by : (x y : Trip) → x.cost ≤ y.cost → (x.cost ≡ y.cost → is_at_most x.steps y.steps ≡ true) →
    precedes x y ≡ true
precedes-by x y h f = cheaper x.cost y.cost (is_at_most x.steps y.steps) h f
