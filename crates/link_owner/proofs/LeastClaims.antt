-- The least LSP of some claims, claim by claim.
use Rattle.std.proofs.{Common.{◌≡◌, Bool, true, false, List, [], ◌∷◌, ◌++◌, refl, sym, ◌∙◌, ap}, lemmas.List.Folds.list_any-append, Math.Bool.{and-false, or-false}, lemmas.Bool.{and_from, and_parts, not-true}}
use Rattle.std.specs.{Prelude.{◌&&◌, ◌||◌, Option, Some, None}, List.list_any}
use Rattle.ason_base.specs.{declared.ids.Lsp.Lsp, Lsps.{lsp_before, same_lsp}}
use Rattle.link_owner.specs.{declared.claims.Claim.Claim, Claims.{IsLeastClaim, NoClaim, is_lesser}}
use Rattle.ason_base.proofs.LspOrder.{before-before, before-self, same_lsp-refl}

-- what was found among some claims
abbrev pub LeastOf : (Claim → Bool) → List Claim → Option Lsp → Type 0
LeastOf p claims None = NoClaim p claims
LeastOf p claims (Some l) = IsLeastClaim p claims l

pub any-more : {X : Type 0} (q : X → Bool) (xs : List X) (x : X) → list_any q (xs ++ x ∷ []) ≡ (list_any q xs || q x)
any-more q xs x = list_any-append q xs (x ∷ []) ∙ ap (λ b. list_any q xs || b) (or-false (q x))

-- one claim more that passes, or that doesn't
any-here : (q : Claim → Bool) (xs : List Claim) (c : Claim) → q c ≡ true → list_any q (xs ++ c ∷ []) ≡ true
any-here q xs c e = any-more q xs c ∙ rw e (or_last (list_any q xs))
  where
    or_last : (b : Bool) → (b || true) ≡ true
    or_last true = refl
    or_last false = refl

any-before : (q : Claim → Bool) (xs : List Claim) (c : Claim) → list_any q xs ≡ true → list_any q (xs ++ c ∷ []) ≡ true
any-before q xs c e = any-more q xs c ∙ rw e refl

any-nowhere : (q : Claim → Bool) (xs : List Claim) (c : Claim) → list_any q xs ≡ false → q c ≡ false →
    list_any q (xs ++ c ∷ []) ≡ false
any-nowhere q xs c e f = any-more q xs c ∙ rw (e, f) refl

-- where each that passes q passes r, and none passes r, none passes q
pub any-none : (q r : Claim → Bool) (xs : List Claim) → ((c : Claim) → q c ≡ true → r c ≡ true) → list_any r xs ≡ false →
    list_any q xs ≡ false
any-none q r [] f h = refl
any-none q r (c ∷ xs) f h = go (q c) refl (r c) refl h (any-none q r xs f)
  where
    go : (a : Bool) → q c ≡ a → (b : Bool) → r c ≡ b → (b || list_any r xs) ≡ false →
        (list_any r xs ≡ false → list_any q xs ≡ false) → (a || list_any q xs) ≡ false
    go a e true k h later = absurd (cc h)
    go true e false k h later = absurd (cc (f c e, k))
    go false e false k h later = later h

-- the claim passes, and its LSP is before the least so far
pub least-more : (p : Claim → Bool) (xs : List Claim) (c : Claim) (least : Option Lsp) → LeastOf p xs least →
    (p c && is_lesser c.lsp least) ≡ true → IsLeastClaim p (xs ++ c ∷ []) c.lsp
least-more p xs c least before h = record {
  passes = any-here (λ d. p d && same_lsp d.lsp c.lsp) xs c (and_from (p c) _ (and_parts (p c) _ h).0 (same_lsp-refl c.lsp));
  least = rw (any-nowhere (λ d. p d && lsp_before d.lsp c.lsp) xs c
      (others least before (and_parts (p c) (is_lesser c.lsp least) h).1)
      (ap (λ b. p c && b) (before-self c.lsp) ∙ and-false (p c))) refl;
}
  where
    others : (least : Option Lsp) → LeastOf p xs least → is_lesser c.lsp least ≡ true →
        list_any (λ d. p d && lsp_before d.lsp c.lsp) xs ≡ false
    others None none e = any-none (λ d. p d && lsp_before d.lsp c.lsp) p xs (λ d t. (and_parts (p d) _ t).0)
        (not-true (list_any p xs) none)
    others (Some k) found e =
        any-none (λ d. p d && lsp_before d.lsp c.lsp) (λ d. p d && lsp_before d.lsp k) xs
        (λ d t. and_from (p d) _ (and_parts (p d) _ t).0 (before-before d.lsp c.lsp k (and_parts (p d) _ t).1 e))
        (not-true (list_any (λ d. p d && lsp_before d.lsp k) xs) found.least)

-- the claim doesn't pass, or its LSP isn't before the least so far
pub least-kept : (p : Claim → Bool) (xs : List Claim) (c : Claim) (least : Option Lsp) → LeastOf p xs least →
    (p c && is_lesser c.lsp least) ≡ false → LeastOf p (xs ++ c ∷ []) least
least-kept p xs c None none h = rw (any-nowhere p xs c (not-true (list_any p xs) none) (sym (and_last (p c)) ∙ h)) refl
  where
    and_last : (b : Bool) → (b && true) ≡ b
    and_last true = refl
    and_last false = refl
least-kept p xs c (Some k) found h = record {
  passes = any-before (λ d. p d && same_lsp d.lsp k) xs c found.passes;
  least = rw (any-nowhere (λ d. p d && lsp_before d.lsp k) xs c
      (not-true (list_any (λ d. p d && lsp_before d.lsp k) xs) found.least) h) refl;
}
