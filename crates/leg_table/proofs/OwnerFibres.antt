-- The claims of one fibre changed, all others as they were.
use Rattle.std.proofs.Common.{◌≡◌, ℕ, Bool, true, false, cond, List, [], ◌∷◌, refl, sym, ap, subst}
use Rattle.std.specs.{Prelude.◌||◌, List.list_any}
use Rattle.ason_base.specs.{declared.ids.Fibre.Fibre, declared.ids.Lsp.Lsp, Lsps.same_fibre}
pub use Rattle.ason_base.proofs.LspOrder.{same_fibre-eq, same_fibre-refl}
use Rattle.link_owner.specs.{Claims.{FibreClaims, is_of_lsp}, Owners.{claims_of, comes_in, has_label, labels_of_fibre, with_claims}, declared.claims.Claim.Claim}

pub claims-there : (f : Fibre) (claims : List Claim) (o : List FibreClaims) → comes_in o f ≡ true →
    claims_of f (with_claims f claims o) ≡ claims
claims-there f claims [] h = absurd (cc h)
claims-there f claims (r ∷ o) h = go (same_fibre r.fibre f) refl h (claims-there f claims o)
  where
    go : (b : Bool) → same_fibre r.fibre f ≡ b → (b || comes_in o f) ≡ true →
        (comes_in o f ≡ true → claims_of f (with_claims f claims o) ≡ claims) →
        claims_of f (cond b (record r { claims = claims } ∷ o) (r ∷ with_claims f claims o)) ≡ claims
    go true e h later = rw e refl
    go false e h later = rw e (later h)

pub claims-elsewhere : (f g : Fibre) (claims : List Claim) (o : List FibreClaims) → same_fibre f g ≡ false →
    claims_of g (with_claims f claims o) ≡ claims_of g o
claims-elsewhere f g claims [] apart = refl
claims-elsewhere f g claims (r ∷ o) apart = go (same_fibre r.fibre f) refl (claims-elsewhere f g claims o apart)
  where
    go : (b : Bool) → same_fibre r.fibre f ≡ b → claims_of g (with_claims f claims o) ≡ claims_of g o →
        claims_of g (cond b (record r {
          claims =
              claims;
        } ∷ o) (r ∷ with_claims f claims o)) ≡ cond (same_fibre r.fibre g) r.claims (claims_of g o)
    go true e rest =
        let other : same_fibre r.fibre g ≡ false =
        subst (λ k. same_fibre k g ≡ false) (sym (same_fibre-eq r.fibre f e)) apart in
        rw other refl
    go false e rest = ap (λ cs. cond (same_fibre r.fibre g) r.claims cs) rest

pub comes-kept : (f g : Fibre) (claims : List Claim) (o : List FibreClaims) →
    comes_in (with_claims f claims o) g ≡ comes_in o g
comes-kept f g claims [] = refl
comes-kept f g claims (r ∷ o) = go (same_fibre r.fibre f) (comes-kept f g claims o)
  where
    go : (b : Bool) → comes_in (with_claims f claims o) g ≡ comes_in o g →
        comes_in (cond b (record r {
          claims =
              claims;
        } ∷ o) (r ∷ with_claims f claims o)) g ≡ (same_fibre r.fibre g || comes_in o g)
    go true rest = refl
    go false rest = ap (λ b. same_fibre r.fibre g || b) rest

pub labels-kept : (f g : Fibre) (claims : List Claim) (o : List FibreClaims) →
    labels_of_fibre g (with_claims f claims o) ≡ labels_of_fibre g o
labels-kept f g claims [] = refl
labels-kept f g claims (r ∷ o) = go (same_fibre r.fibre f) (labels-kept f g claims o)
  where
    go : (b : Bool) → labels_of_fibre g (with_claims f claims o) ≡ labels_of_fibre g o →
        labels_of_fibre g (cond b (record r {
          claims =
              claims;
        } ∷ o) (r ∷ with_claims f claims o)) ≡ cond (same_fibre r.fibre g) r.labels (labels_of_fibre g o)
    go true rest = refl
    go false rest = ap (λ n. cond (same_fibre r.fibre g) r.labels n) rest

-- a label that is claimed is one of a fibre that comes in
pub claimed-comes : (o : List FibreClaims) (f : Fibre) (x : ℕ) (l : Lsp) → has_label o f x l ≡ true →
    comes_in o f ≡ true
claimed-comes [] f x l h = absurd (cc h)
claimed-comes (r ∷ o) f x l h = go (same_fibre r.fibre f) h (claimed-comes o f x l)
  where
    go : (b : Bool) → list_any (is_of_lsp x l) (cond b r.claims (claims_of f o)) ≡ true →
        (has_label o f x l ≡ true → comes_in o f ≡ true) → (b || comes_in o f) ≡ true
    go true h later = refl
    go false h later = later h
