-- A list has one order by a test, where those that neither test before the other are one.
use Rattle.std.proofs.{Common.{◌≡◌, ◌+◌, ℕ, suc, Bool, true, false, cond, List, [], ◌∷◌, get_or, refl, sym, ap, subst, ◌∙◌, arith, All}, lemmas.Bool.both_ways, lemmas.List.Elements.{All-from_get_or, All-head, All-tail}, lemmas.List.Sorted.{All-permutation, sorted_far, sum_by-IsPermutation}, lemmas.List.Sums.sum_by-cons}
use Rattle.std.specs.{Cmp.IsStrictWeakOrder, List.sum_by, List.Sorted.{IsPermutation, IsSortedBy}}

-- Sums

no_sum : {X : Type 0} (f : X → ℕ) (xs : List X) → All (λ x. f x ≡ 0) xs → sum_by f xs ≡ 0
no_sum f [] none = refl
no_sum f (x ∷ xs) none =
    let head : f x ≡ 0 = All-head (λ y. f y ≡ 0) x xs none in
    let tail : sum_by f xs ≡ 0 = no_sum f xs (All-tail (λ y. f y ≡ 0) x xs none) in
    let all : sum_by f (x ∷ xs) ≡ f x + sum_by f xs = sum_by-cons f x xs in
    omega arith

-- both lists have the same sums, so the same elements
abbrev pub HaveSameSums : {X : Type 0} → List X → List X → Type 0
HaveSameSums {X} xs ys = (f : X → ℕ) → sum_by f xs ≡ sum_by f ys

same_tails : {X : Type 0} (x y : X) (xs ys : List X) → x ≡ y → HaveSameSums (x ∷ xs) (y ∷ ys) → HaveSameSums xs ys
same_tails x y xs ys e same f =
    let here : f x ≡ f y = ap f e in
    let all : sum_by f (x ∷ xs) ≡ sum_by f (y ∷ ys) = same f in
    let left : sum_by f (x ∷ xs) ≡ f x + sum_by f xs = sum_by-cons f x xs in
    let right : sum_by f (y ∷ ys) ≡ f y + sum_by f ys = sum_by-cons f y ys in
    omega arith

-- Order

sorted_tail : {X : Type 0} (lt : X → X → Bool) (x : X) (xs : List X) → IsSortedBy lt (x ∷ xs) → IsSortedBy lt xs
sorted_tail lt x xs sorted k d low high =
    let next : suc k + 1 ≡ suc (k + 1) = omega arith in
    subst (λ n. lt (get_or (x ∷ xs) n d) (get_or xs k d) ≡ false) next (sorted (suc k) d (omega arith) (omega arith))

not_itself : {X : Type 0} (lt : X → X → Bool) → IsStrictWeakOrder lt → (x : X) → lt x x ≡ false
not_itself lt o x = go (lt x x) refl
  where
    go : (b : Bool) → lt x x ≡ b → lt x x ≡ false
    go true e = o.one_way x x e
    go false e = e

-- 1 for those that y isn't before
abbrev not_after : {X : Type 0} → (X → X → Bool) → X → X → ℕ
not_after lt y x = cond (lt y x) 0 1

-- the first of a list in order is after none of another list with the same elements
first_is_least : {X : Type 0} (lt : X → X → Bool) → IsStrictWeakOrder lt → (x y : X) (xs ys : List X) →
    IsSortedBy lt (x ∷ xs) →
    HaveSameSums (x ∷ xs) (y ∷ ys) → lt y x ≡ false
first_is_least {X} lt o x y xs ys sorted same = go (lt y x) refl
  where
    after : lt y x ≡ true → (w : X) → lt w x ≡ false → (b : Bool) → lt y w ≡ b → not_after lt y w ≡ 0
    after before w later true e = ap (λ c. cond c 0 1) e
    after before w later false e = absurd (both_ways (lt y x) (o.chain y w x e later) before)

    none : lt y x ≡ true → All (λ w. not_after lt y w ≡ 0) (x ∷ xs)
    none before =
        All-from_get_or (λ w. not_after lt y w ≡ 0) (x ∷ xs) x
        (λ i within.
        let later = sorted_far lt o (x ∷ xs) sorted 0 i x (omega arith) within in
        after before (get_or (x ∷ xs) i x) later (lt y (get_or (x ∷ xs) i x)) refl)

    go : (b : Bool) → lt y x ≡ b → lt y x ≡ false
    go false e = e
    go true e =
        let here : not_after lt y y ≡ 1 = ap (λ c. cond c 0 1) (not_itself lt o y) in
        let nothing : sum_by (not_after lt y) (x ∷ xs) ≡ 0 = no_sum (not_after lt y) (x ∷ xs) (none e) in
        let all : sum_by (not_after lt y) (x ∷ xs) ≡ sum_by (not_after lt y) (y ∷ ys) = same (not_after lt y) in
        let parts : sum_by (not_after lt y) (y ∷ ys) ≡ not_after lt y y + sum_by (not_after lt y) ys =
        sum_by-cons (not_after lt y) y ys in
        absurd (omega arith)

-- those with P that tie are one
abbrev pub TiesAreOne : {X : Type 0} → (X → X → Bool) → (X → Type 0) → Type 0
TiesAreOne {X} lt P = (x y : X) → P x → P y → lt x y ≡ false → lt y x ≡ false → x ≡ y

same_lists : {X : Type 0} (lt : X → X → Bool) (P : X → Type 0) → IsStrictWeakOrder lt → TiesAreOne lt P →
    (xs ys : List X) → All P xs → All P ys →
    IsSortedBy lt xs → IsSortedBy lt ys → HaveSameSums xs ys → xs ≡ ys
same_lists lt P o one [] [] here there rises climbs same = refl
same_lists lt P o one [] (y ∷ ys) here there rises climbs same =
    let all : 0 ≡ sum_by (λ z. 1) (y ∷ ys) = same (λ z. 1) in
    let parts : sum_by (λ z. 1) (y ∷ ys) ≡ 1 + sum_by (λ z. 1) ys = sum_by-cons (λ z. 1) y ys in
    absurd (omega arith)
same_lists lt P o one (x ∷ xs) [] here there rises climbs same =
    let all : sum_by (λ z. 1) (x ∷ xs) ≡ 0 = same (λ z. 1) in
    let parts : sum_by (λ z. 1) (x ∷ xs) ≡ 1 + sum_by (λ z. 1) xs = sum_by-cons (λ z. 1) x xs in
    absurd (omega arith)
same_lists lt P o one (x ∷ xs) (y ∷ ys) here there rises climbs same =
    let head : x ≡ y =
    one x y (All-head P x xs here) (All-head P y ys there)
    (first_is_least lt o y x ys xs climbs (λ f. sym (same f))) (first_is_least lt o x y xs ys rises same) in
    let tail : xs ≡ ys =
    same_lists lt P o one xs ys (All-tail P x xs here) (All-tail P y ys there)
    (sorted_tail lt x xs rises) (sorted_tail lt y ys climbs)
    (same_tails x y xs ys head same) in
    λ i. head i ∷ tail i

pub one_order : {X : Type 0} (lt : X → X → Bool) (P : X → Type 0) → IsStrictWeakOrder lt → TiesAreOne lt P →
    (all xs ys : List X) → All P all →
    IsPermutation all xs → IsPermutation all ys → IsSortedBy lt xs → IsSortedBy lt ys → xs ≡ ys
one_order lt P o one all xs ys each here there rises climbs =
    same_lists lt P o one xs ys (All-permutation P all xs here each) (All-permutation P all ys there each) rises climbs
    (λ f. sum_by-IsPermutation f all xs here ∙ sym (sum_by-IsPermutation f all ys there))
