-- The order of risks: `is_below` is what the comparison of risks says.
use Rattle.std.proofs.{Common.{inl, inr, ◌↔◌, ◌≡◌, ◌≢◌, ℕ, ◌+◌, ◌<◌, ◌≤◌, Bool, true, false, not, IsTrue, List, [], ◌∷◌, length, get_or, refl, sym, ap, subst, arith, Less, Equal, Greater}, lemmas.List.get_or_default, lemmas.List.Elements.{All-from_recursion, All-weaker, Contains-get_or}, lemmas.List.Kept.{AllPairs-cons, Contains-dedup, Contains-from_dedup, IsStrictlySortedBy-dedup}, lemmas.List.Sorted.{Contains-permutation, IsPermutation-sym}, lemmas.Bool.cases_lt}
use Rattle.std.specs.{List.{Contains, dedup}, List.Sorted.{IsPermutation, IsSorted, IsStrictlySortedBy}, Ordering.eq_by_cmp}
use Rattle.ason_base.specs.{Risks.{is_below, same_risk, has_risk, have_common, AreDisjoint, AreRising}, InOrder.IsKeyOrder, declared.risks.Risk.Risk, declared.risks.Risk.TheVariants.{Srlg, Link}, contracts.risks.RiskOrd.TheImpl.ghosts, contracts.risks.RiskOrd.TheImpl.Laws.total-law, contracts.risks.RiskPartialEq.TheImpl.ghosts as equality, contracts.risks.RiskEq.TheImpl.Laws.laws-law}
use Rattle.ason_base.proofs.{KeyOrder.is_order, Ordered.{IsOrder, any-there, there-any}, Numbers.{before-or-same, less-or-same}}

pub below-less : (a b : Risk) → ghosts.cmp a b ≡ Less → is_below a b ≡ true
below-less (Srlg a) (Srlg b) h = grind arith
below-less (Srlg a) (Link b) h = refl
below-less (Link a) (Srlg b) h = cc
below-less (Link a) (Link b) h = grind arith

pub below-greater : (a b : Risk) → ghosts.cmp a b ≡ Greater → is_below b a ≡ true
below-greater (Srlg a) (Srlg b) h = grind arith
below-greater (Srlg a) (Link b) h = cc
below-greater (Link a) (Srlg b) h = refl
below-greater (Link a) (Link b) h = grind arith

pub same-equal : (a b : Risk) → ghosts.cmp a b ≡ Equal → a ≡ b
same-equal (Srlg a) (Srlg b) h = let e : a ≡ b = grind arith in ap Srlg e
same-equal (Srlg a) (Link b) h = cc
same-equal (Link a) (Srlg b) h = cc
same-equal (Link a) (Link b) h = let e : a.0 ≡ b.0 = grind arith in λ i. Link (record { 0 = e i })

pub below-trans : (a b c : Risk) → is_below a b ≡ true → is_below b c ≡ true → is_below a c ≡ true
below-trans (Srlg a) (Srlg b) (Srlg c) h k = grind arith
below-trans (Srlg a) (Srlg b) (Link c) h k = refl
below-trans (Srlg a) (Link b) (Srlg c) h k = cc
below-trans (Srlg a) (Link b) (Link c) h k = refl
below-trans (Link a) (Srlg b) (Srlg c) h k = cc
below-trans (Link a) (Srlg b) (Link c) h k = cc
below-trans (Link a) (Link b) (Srlg c) h k = cc
below-trans (Link a) (Link b) (Link c) h k = grind arith

pub not-below-itself : (a : Risk) → is_below a a ≡ true → ⊥
not-below-itself (Srlg a) h = absurd (grind arith)
not-below-itself (Link a) h = absurd (grind arith)

pub below-differs : (a b : Risk) → is_below a b ≡ true → a ≢ b
below-differs a b h e = not-below-itself b (subst (λ x. is_below x b ≡ true) e h)

pub rising-strictly : (risks : List Risk) → IsStrictlySortedBy ghosts.cmp risks → AreRising risks
unfolding IsStrictlySortedBy
rising-strictly [] sorted = λ i j d h k. absurd (omega arith)
rising-strictly (x ∷ xs) sorted =
    AllPairs-cons (λ a b. IsTrue (is_below a b)) x xs
    (All-weaker (λ y. ghosts.cmp x y ≡ Less) (λ y. is_below x y ≡ true) (below-less x) xs
    (All-from_recursion _ xs sorted.0))
    (rising-strictly xs sorted.1)

-- what stands at or after a place is not below what stands there
pub at-or-after : (risks : List Risk) (a : Risk) (i k : ℕ) (d : Risk) → AreRising risks → i ≤ k → k < length risks →
    is_below a (get_or risks i d) ≡ true → a ≢ get_or risks k d
at-or-after risks a i k d rising le within below =
    elim (less-or-same i k le) [
      | inl lt ↦ below-differs a (get_or risks k d)
          (below-trans a (get_or risks i d) (get_or risks k d) below (rising i k d lt within))
      | inr same ↦ subst (λ n. a ≢ get_or risks n d) same (below-differs a (get_or risks i d) below)
    ]

-- no element of the one list from its start up to i is in the other list
abbrev pub Apart : List Risk → List Risk → ℕ → Type 0
Apart a b i = (k m : ℕ) (d : Risk) → k < i → m < length b → get_or a k d ≢ get_or b m d

-- the element at i, which is below the one at j of the other list, isn't there: neither before j, as is known, nor from
-- j on
pub apart_more : (a b : List Risk) (i j : ℕ) (e : Risk) → AreRising b → i < length a → j < length b → Apart a b i →
    Apart b a j → is_below (get_or a i e) (get_or b j e) ≡ true → Apart a b (i + 1)
apart_more a b i j e rising within inside left right here k m d h n =
    let below : is_below (get_or a i d) (get_or b j d) ≡ true =
    subst (λ x. is_below x (get_or b j d) ≡ true) (get_or_default a i e d within)
    (subst (λ y. is_below (get_or a i e) y ≡ true) (get_or_default b j e d inside) here) in
    elim (before-or-same k i h) [
      | inl lt ↦ left k m d lt n
      | inr same ↦ elim (cases_lt m j) [
        | inl lt ↦ subst (λ p. get_or a p d ≢ get_or b m d) (sym same) (λ q. right m i d lt within (sym q))
        | inr le ↦ subst (λ p. get_or a p d ≢ get_or b m d) (sym same)
            (at-or-after b (get_or a i d) j m d rising le n below)
      ]
    ]

pub disjoint-flip : (a b : List Risk) → AreDisjoint a b → AreDisjoint b a
disjoint-flip a b h r in_b in_a = h r in_a in_b

-- an element that both lists have
pub met : (a b : List Risk) (i j : ℕ) (e : Risk) → i < length a → j < length b → get_or a i e ≡ get_or b j e →
    AreDisjoint a b → ⊥
met a b i j e within inside same h =
    h (get_or a i e) (Contains-get_or a i e within)
    (subst (λ x. Contains b x) (sym same) (Contains-get_or b j e inside))

pub same-eq : (a b : Risk) → equality.eq a b ≡ true → a ≡ b
same-eq (Srlg a) (Srlg b) h = let e : a ≡ b = grind arith in ap Srlg e
same-eq (Srlg a) (Link b) h = cc
same-eq (Link a) (Srlg b) h = cc
same-eq (Link a) (Link b) h = let e : a.0 ≡ b.0 = grind arith in λ i. Link (record { 0 = e i })

pub ties : (a b : Risk) → equality.eq a b ≡ eq_by_cmp ghosts.cmp a b
ties (Srlg a) (Srlg b) = grind arith
ties (Srlg a) (Link b) = refl
ties (Link a) (Srlg b) = refl
ties (Link a) (Link b) = grind arith

-- what is left of a list after a sort and a `dedup`
pub ordered_rising : (xs : List Risk) → IsSorted ghosts.cmp xs → AreRising (dedup equality.eq xs)
ordered_rising xs sorted = rising-strictly (dedup equality.eq xs) (IsStrictlySortedBy-dedup total-law ties xs sorted)

pub ordered_same : (xs ys : List Risk) (r : Risk) → IsPermutation xs ys →
    Contains (dedup equality.eq ys) r ↔ Contains xs r
ordered_same xs ys r moved = (
  (λ h. Contains-permutation ys xs r (IsPermutation-sym xs ys moved) (Contains-from_dedup equality.eq ys r h)),
  (λ h. Contains-dedup laws-law same-eq ys r (Contains-permutation xs ys r moved h)),
)

-- One risk, and common ones

pub same_risk-eq : (a b : Risk) → same_risk a b ≡ true → a ≡ b
same_risk-eq (Srlg a) (Srlg b) h = let e : a ≡ b = grind arith in ap Srlg e
same_risk-eq (Srlg a) (Link b) h = cc
same_risk-eq (Link a) (Srlg b) h = cc
same_risk-eq (Link a) (Link b) h = let e : a.0 ≡ b.0 = grind arith in λ i. Link (record { 0 = e i })

pub same_risk-refl : (a : Risk) → same_risk a a ≡ true
same_risk-refl (Srlg a) = grind arith
same_risk-refl (Link a) = grind arith

never-below : (a : Risk) → is_below a a ≡ false
never-below (Srlg a) = grind arith
never-below (Link a) = grind arith

below-total : (a b : Risk) → same_risk b a ≡ false → is_below a b ≡ false → is_below b a ≡ true
below-total (Srlg a) (Srlg b) e f = grind arith
below-total (Srlg a) (Link b) e f = absurd (cc f)
below-total (Link a) (Srlg b) e f = refl
below-total (Link a) (Link b) e f = grind arith

-- SRLGs before links, each by number
pub risk_key_order : IsKeyOrder same_risk is_below
risk_key_order = record {
  itself = same_risk-refl;
  one = same_risk-eq;
  never = never-below;
  through = below-trans;
  total = below-total;
}

pub risk_order : IsOrder is_below
risk_order = is_order risk_key_order

pub has_risk-contains : (risks : List Risk) (r : Risk) → has_risk risks r ≡ true → Contains risks r
has_risk-contains risks r h =
    let there = any-there (same_risk r) risks h in
    subst (λ x. Contains risks x) (sym (same_risk-eq r there.0 there.2)) there.1

pub contains-has_risk : (risks : List Risk) (r : Risk) → Contains risks r → has_risk risks r ≡ true
contains-has_risk risks r there = there-any (same_risk r) risks r there (same_risk-refl r)

pub common-there : (xs ys : List Risk) → have_common xs ys ≡ true → (r : Risk) × Contains xs r × Contains ys r
common-there xs ys h = let there = any-there (has_risk ys) xs h in
    (there.0, there.1, has_risk-contains ys there.0 there.2)

pub there-common : (xs ys : List Risk) (r : Risk) → Contains xs r → Contains ys r → have_common xs ys ≡ true
there-common xs ys r in_xs in_ys = there-any (has_risk ys) xs r in_xs (contains-has_risk ys r in_ys)

pub apart-exact : (b : Bool) (xs ys : List Risk) → (IsTrue b ↔ AreDisjoint xs ys) → b ≡ not (have_common xs ys)
apart-exact b xs ys says = go b (have_common xs ys) says refl
  where
    go : (b common : Bool) → (IsTrue b ↔ AreDisjoint xs ys) → have_common xs ys ≡ common → b ≡ not common
    go true true says e = let there = common-there xs ys e in absurd (says.0 refl there.0 there.1 there.2)
    go true false says e = refl
    go false true says e = refl
    go false false says e = says.1 (λ r in_xs in_ys. absurd (cc (e, there-common xs ys r in_xs in_ys)))
