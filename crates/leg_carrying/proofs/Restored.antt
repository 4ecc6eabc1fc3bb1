-- Where the claim of a label that a leg takes is freed again, the owner is as it was.
use Rattle.std.proofs.Common.{◌≡◌, ℕ, Bool, true, false, cond, not, List, [], ◌∷◌, ◌++◌, refl, ap, ◌∙◌}
use Rattle.std.specs.{Prelude.◌||◌, List.list_any}
use Rattle.ason_base.specs.{declared.ids.Fibre.Fibre, declared.ids.Lsp.Lsp, declared.tables.Leg.Leg, Lsps.same_fibre}
use Rattle.ason_base.proofs.Numbers.{self-number}
use Rattle.link_owner.specs.{Claims.{FibreClaims, freed, is_of_lsp}, Owners.{OwnerState, claims_of, comes_in, has_label, label_freed, with_claims}, declared.claims.Claim.Claim}
use Rattle.mesh_nodes.proofs.LegList.{same_lsp-refl}
use Rattle.leg_table.specs.{declared.labels.TakenLabel.TakenLabel, LegClaims.{claim_by, claimed_by}}
use Rattle.leg_table.proofs.OwnerFibres.{claims-there, comes-kept}

set-again : (f : Fibre) (claims later : List Claim) (o : List FibreClaims) →
    with_claims f later (with_claims f claims o) ≡ with_claims f later o
set-again f claims later [] = refl
set-again f claims later (r ∷ o) = go (same_fibre r.fibre f) refl (set-again f claims later o)
  where
    go : (b : Bool) → same_fibre r.fibre f ≡ b → with_claims f later (with_claims f claims o) ≡ with_claims f later o →
        with_claims f later (cond b (record r { claims = claims } ∷ o) (r ∷ with_claims f claims o)) ≡
        cond b (record r { claims = later } ∷ o) (r ∷ with_claims f later o)
    go true e rest = rw e refl
    go false e rest = rw e (ap (λ s. r ∷ s) rest)

set-same : (f : Fibre) (o : List FibreClaims) → with_claims f (claims_of f o) o ≡ o
set-same f [] = refl
set-same f (r ∷ o) = go (same_fibre r.fibre f) (set-same f o)
  where
    go : (b : Bool) → with_claims f (claims_of f o) o ≡ o →
        cond b (record r { claims = cond b r.claims (claims_of f o) } ∷ o)
        (r ∷ with_claims f (cond b r.claims (claims_of f o)) o) ≡ r ∷ o
    go true rest = refl
    go false rest = ap (λ s. r ∷ s) rest

last-freed : (x : ℕ) (l : Lsp) (claims : List Claim) (c : Claim) → list_any (is_of_lsp x l) claims ≡ false →
    is_of_lsp x l c ≡ true → freed x l (claims ++ c ∷ []) ≡ claims
last-freed x l [] c none of = rw of refl
last-freed x l (d ∷ claims) c none of = go (is_of_lsp x l d) none (λ rest. last-freed x l claims c rest of)
  where
    go : (b : Bool) → (b || list_any (is_of_lsp x l) claims) ≡ false →
        (list_any (is_of_lsp x l) claims ≡ false → freed x l (claims ++ c ∷ []) ≡ claims) →
        cond (not b) (d ∷ freed x l (claims ++ c ∷ [])) (freed x l (claims ++ c ∷ [])) ≡ d ∷ claims
    go true none later = absurd (cc none)
    go false none later = ap (λ s. d ∷ s) (later none)

module _ (g : Leg) (t : TakenLabel) (o : OwnerState) (comes : comes_in o.claims t.fibre ≡ true) where
  abbrev c : Claim
  c = claim_by g.role t.label g.lsp

  its : is_of_lsp t.label g.lsp c ≡ true
  its = rw (self-number t.label) (same_lsp-refl g.lsp)

  there : claims_of t.fibre (claimed_by g t o).claims ≡ claims_of t.fibre o.claims ++ c ∷ []
  there = claims-there t.fibre (claims_of t.fibre o.claims ++ c ∷ []) o.claims comes

  pub claimed-comes : comes_in (claimed_by g t o).claims t.fibre ≡ true
  claimed-comes = comes-kept t.fibre t.fibre (claims_of t.fibre o.claims ++ c ∷ []) o.claims ∙ comes

  pub claimed-freed : not (has_label o.claims t.fibre t.label g.lsp) ≡ true →
      label_freed t.fibre t.label g.lsp (claimed_by g t o).claims ≡ o.claims
  claimed-freed new =
      ap (λ claims. with_claims t.fibre (freed t.label g.lsp claims) (claimed_by g t o).claims) there
      ∙ ap (λ claims. with_claims t.fibre claims (claimed_by g t o).claims)
      (last-freed t.label g.lsp (claims_of t.fibre o.claims) c (absent (has_label o.claims t.fibre t.label g.lsp) new)
      its)
      ∙ set-again t.fibre (claims_of t.fibre o.claims ++ c ∷ []) (claims_of t.fibre o.claims) o.claims
      ∙ set-same t.fibre o.claims
    where
      absent : (b : Bool) → not b ≡ true → b ≡ false
      absent true e = absurd (cc e)
      absent false e = refl
