-- The labels that some claims leave, claim by claim.
use Rattle.std.proofs.{Common.{◌≡◌, ℕ, Bool, true, false, not, nat_eq, List, [], ◌∷◌, ◌++◌, refl, sym, ap, ◌∙◌}, Math.Bool.or-false}
use Rattle.std.specs.{Prelude.{◌&&◌, ◌||◌, filter}, List.list_any}
use Rattle.ason_base.specs.Labels.{without}
use Rattle.ason_base.proofs.{MaskMembers.filter-filter, Numbers.number-turned}
use Rattle.link_owner.specs.declared.claims.Claim.{Claim}
use Rattle.link_owner.proofs.LeastClaims.{any-more}

filter-same : (p q : ℕ → Bool) (xs : List ℕ) → ((x : ℕ) → p x ≡ q x) → filter p xs ≡ filter q xs
filter-same p q [] same = refl
filter-same p q (x ∷ xs) same = rw (same x, filter-same p q xs same) refl

pub left-none : (xs : List ℕ) → filter (λ x. true) xs ≡ xs
left-none [] = refl
left-none (x ∷ xs) = ap (λ ys. x ∷ ys) (left-none xs)

neither : (a b : Bool) → not (a || b) ≡ (not a && not b)
neither true b = refl
neither false b = refl

-- one claim more, of the label x
pub left-taken : (t : ℕ → Claim → Bool) (claims : List Claim) (c : Claim) (x : ℕ) (xs : List ℕ) →
    ((y : ℕ) → t y c ≡ nat_eq x y) → filter (λ y. not (list_any (t y) (claims ++ c ∷ []))) xs ≡ without
    (filter (λ y. not (list_any (t y) claims)) xs) x
left-taken t claims c x xs takes =
    filter-same (λ y. not (list_any (t y) (claims ++ c ∷ [])))
    (λ y. not (list_any (t y) claims) && not (nat_eq y x)) xs here
    ∙ sym (filter-filter (λ y. not (list_any (t y) claims)) (λ y. not (nat_eq y x)) xs)
  where
    here : (y : ℕ) → not (list_any (t y) (claims ++ c ∷ [])) ≡ (not (list_any (t y) claims) && not (nat_eq y x))
    here y =
        ap not (any-more (t y) claims c)
        ∙ neither (list_any (t y) claims) (t y c)
        ∙ ap (λ b. not (list_any (t y) claims) && not b) (takes y ∙ number-turned x y)

-- one claim more, of no label that is asked for
pub left-kept : (t : ℕ → Claim → Bool) (claims : List Claim) (c : Claim) (xs : List ℕ) → ((y : ℕ) → t y c ≡ false) →
    filter (λ y. not (list_any (t y) (claims ++ c ∷ []))) xs ≡ filter (λ y. not (list_any (t y) claims)) xs
left-kept t claims c xs keeps =
    filter-same (λ y. not (list_any (t y) (claims ++ c ∷ []))) (λ y. not (list_any (t y) claims)) xs
    (λ y. ap not (any-more (t y) claims c ∙ ap (λ b. list_any (t y) claims || b) (keeps y) ∙
    or-false (list_any (t y) claims)))
