-- A label that an LSP's leg takes newly, and what is held after.
use Rattle.std.proofs.Common.{◌≡◌, ◌≤◌, ℕ, Bool, true, false, cond, not, List, [], ◌∷◌, ◌++◌, refl, sym, ap, subst, ◌∙◌, eqb-true}
use Rattle.std.specs.{Prelude.{◌&&◌, ◌||◌, Option, Some, None}, List.{AllByRecursion, list_any}}
use Rattle.ason_base.specs.{Lsps.{same_fibre, same_lsp}, declared.ids.Fibre.Fibre, declared.ids.Lsp.Lsp, declared.tables.Leg.Leg}
use Rattle.ason_base.proofs.{Bools.{and-left, and-right}, Numbers.self-number, Members.all-then}
use Rattle.link_owner.specs.{Claims.{FibreClaims, IsLeastClaim, NoClaim, has, is_of_lsp}, Owners.{OwnerState, claim_added, claims_of, comes_in, has_label, labels_of_fibre}, declared.claims.Claim.Claim}
use Rattle.share_check.specs.Guards.{Guard, GuardsNone, is_risk_guarded}
use Rattle.mesh_nodes.proofs.{LegList.{same_lsp-eq, same_lsp-refl}, Links.any-left}
use Rattle.leg_table.specs.{declared.labels.TakenLabel.TakenLabel, LegClaims.{GuardsBy, SameFibres, claim_by, claimed_by, is_this}}
use Rattle.leg_table.proofs.OwnerFibres.{claims-elsewhere, claims-there, comes-kept, labels-kept, same_fibre-eq, same_fibre-refl}
use Rattle.leg_labels.proofs.ClaimLists.{all-one_more, any-first, any-last}
use Rattle.leg_carrying.proofs.GivenLegs.{this-to}
use Rattle.leg_carrying.specs.LegHolds.{AreHeld, ClaimsHold, GuardsHold, Hold, MayClaim, guards_held, hold_of, kind_held, holds_with_label}

-- Labels that aren't held

-- the LSP has no claim of it
pub none-had : (h : Fibre → ℕ → Lsp → Option Hold) (o : List FibreClaims) (f : Fibre) (x : ℕ) (l : Lsp) →
    ClaimsHold h o → h f x l ≡ None → not (has_label o f x l) ≡ true
none-had h o f x l hold none = go (has_label o f x l) (never (claims_of f o) (hold.each f))
  where
    apart : (c : Claim) → kind_held (h f c.label c.lsp) ≡ Some c.kind → is_of_lsp x l c ≡ true → ⊥
    apart c held of =
        let label : c.label ≡ x = eqb-true c.label x (and-left (has x c) (same_lsp c.lsp l) of) in
        let lsp : c.lsp ≡ l = same_lsp-eq c.lsp l (and-right (has x c) (same_lsp c.lsp l) of) in
        let here : kind_held (h f x l) ≡ Some c.kind =
        subst (λ k. kind_held (h f x k) ≡ Some c.kind) lsp (subst (λ y. kind_held (h f y c.lsp) ≡ Some c.kind) label held) in
        let nothing : kind_held (h f x l) ≡ None = ap kind_held none in
        cc (here, nothing)

    never : (claims : List Claim) → AllByRecursion (λ c. kind_held (h f c.label c.lsp) ≡ Some c.kind) claims →
        list_any (is_of_lsp x l) claims ≡ true → ⊥
    never [] each e = cc e
    never (c ∷ claims) each e = test (is_of_lsp x l c) refl e (never claims each.1)
      where
        test : (b : Bool) → is_of_lsp x l c ≡ b → (b || list_any (is_of_lsp x l) claims) ≡ true →
            (list_any (is_of_lsp x l) claims ≡ true → ⊥) → ⊥
        test true of e later = apart c each.0 of
        test false of e later = later e

    go : (b : Bool) → (b ≡ true → ⊥) → not b ≡ true
    go true never = absurd (never refl)
    go false never = refl

-- and guards nothing there
pub none-guarded : (h : Fibre → ℕ → Lsp → Option Hold) (s : List Guard) (f : Fibre) (x : ℕ) (l : Lsp) →
    GuardsHold h s → h f x l ≡ None → GuardsNone s f x l
none-guarded h s f x l hold none q = hold f x l q ∙ ap (guards_held q) none

-- no claim bars the label: it isn't refused
pub none-least : (p : Claim → Bool) (l : Lsp) (claims : List Claim) → NoClaim p claims → IsLeastClaim p claims l → ⊥
none-least p l claims none least = go (list_any p claims) none (any-left p (λ c. same_lsp c.lsp l) claims least.passes)
  where
    go : (b : Bool) → not b ≡ true → b ≡ true → ⊥
    go true e f = cc e
    go false e f = cc f

-- One label more

-- the LSP's own is this one
own-this : (g : Leg) (t : TakenLabel) (P : Fibre → ℕ → Lsp → Type 0) (f : Fibre) (x : ℕ) (l : Lsp) →
    (is_this t f x && same_lsp g.lsp l) ≡ true → P t.fibre t.label g.lsp → P f x l
own-this g t P f x l e p =
    subst (λ k. P f x k) (same_lsp-eq g.lsp l (and-right (is_this t f x) (same_lsp g.lsp l) e))
    (this-to (λ f x. P f x g.lsp) t f x (and-left (is_this t f x) (same_lsp g.lsp l) e) p)

module _ (g : Leg) (t : TakenLabel) (h : Fibre → ℕ → Lsp → Option Hold) (o : List FibreClaims)
    (hold : ClaimsHold h o) (none : h t.fibre t.label g.lsp ≡ None) (comes : comes_in o t.fibre ≡ true)
    (within : t.label ≤ labels_of_fibre t.fibre o) where
  abbrev c0 : Claim
  c0 = claim_by g.role t.label g.lsp

  abbrev k : Fibre → ℕ → Lsp → Option Hold
  k = holds_with_label g (Some t) h

  abbrev Is : Fibre → Claim → Type 0
  Is f c = kind_held (k f c.label c.lsp) ≡ Some c.kind

  -- what was held is
  old : (f : Fibre) (c : Claim) → kind_held (h f c.label c.lsp) ≡ Some c.kind → Is f c
  old f c e = go (is_this t f c.label && same_lsp g.lsp c.lsp) refl
    where
      go : (b : Bool) → (is_this t f c.label && same_lsp g.lsp c.lsp) ≡ b →
          kind_held (cond b (Some (hold_of g)) (h f c.label c.lsp)) ≡ Some c.kind
      go true is =
          let nothing = ap kind_held (own-this g t (λ f x l. h f x l ≡ None) f c.label c.lsp is none) in
          absurd (cc (nothing, e))
      go false is = e

  new : Is t.fibre c0
  new = rw (same_fibre-refl t.fibre, self-number t.label, same_lsp-refl g.lsp) refl

  more-each : (f : Fibre) (b : Bool) → same_fibre t.fibre f ≡ b →
      AllByRecursion (Is f) (claims_of f (claim_added t.fibre c0 o))
  more-each f true s =
      subst (λ e. AllByRecursion (Is e) (claims_of e (claim_added t.fibre c0 o))) (same_fibre-eq t.fibre f s)
      (subst (AllByRecursion (Is t.fibre)) (sym (claims-there t.fibre (claims_of t.fibre o ++ c0 ∷ []) o comes))
      (all-one_more (Is t.fibre) (claims_of t.fibre o) c0
      (all-then (λ c. kind_held (h t.fibre c.label c.lsp) ≡ Some c.kind) (Is t.fibre) (claims_of t.fibre o)
      (old t.fibre) (hold.each t.fibre)) new))
  more-each f false s =
      subst (AllByRecursion (Is f)) (sym (claims-elsewhere t.fibre f (claims_of t.fibre o ++ c0 ∷ []) o s))
      (all-then (λ c. kind_held (h f c.label c.lsp) ≡ Some c.kind) (Is f) (claims_of f o) (old f) (hold.each f))

  there : has_label (claim_added t.fibre c0 o) t.fibre t.label g.lsp ≡ true
  there =
      ap (list_any (is_of_lsp t.label g.lsp)) (claims-there t.fibre (claims_of t.fibre o ++ c0 ∷ []) o comes)
      ∙ any-last (is_of_lsp t.label g.lsp) (claims_of t.fibre o) c0 (rw (self-number t.label) (same_lsp-refl g.lsp))

  -- claims that were there stay
  still : (f : Fibre) (x : ℕ) (l : Lsp) → has_label o f x l ≡ true → has_label (claim_added t.fibre c0 o) f x l ≡ true
  still f x l was = go (same_fibre t.fibre f) refl
    where
      go : (b : Bool) → same_fibre t.fibre f ≡ b → has_label (claim_added t.fibre c0 o) f x l ≡ true
      go true s =
          let is = same_fibre-eq t.fibre f s in
          subst (λ e. has_label (claim_added t.fibre c0 o) e x l ≡ true) is
          (ap (list_any (is_of_lsp x l)) (claims-there t.fibre (claims_of t.fibre o ++ c0 ∷ []) o comes)
          ∙ any-first (is_of_lsp x l) (claims_of t.fibre o) (c0 ∷ [])
          (subst (λ e. has_label o e x l ≡ true) (sym is) was))
      go false s =
          ap (list_any (is_of_lsp x l)) (claims-elsewhere t.fibre f (claims_of t.fibre o ++ c0 ∷ []) o s) ∙ was

  pub more-claims : ClaimsHold (holds_with_label g (Some t) h) (claim_added t.fibre c0 o)
  more-claims = record {
    each = λ f. more-each f (same_fibre t.fibre f) refl;
    all = λ f x l j e. has f x l j (is_this t f x && same_lsp g.lsp l) refl e;
    within = λ f x l j e.
        subst (λ n. x ≤ n) (sym (labels-kept t.fibre f (claims_of t.fibre o ++ c0 ∷ []) o))
        (below f x l j (is_this t f x && same_lsp g.lsp l) refl e);
  }
    where
      has : (f : Fibre) (x : ℕ) (l : Lsp) (j : Hold) (b : Bool) → (is_this t f x && same_lsp g.lsp l) ≡ b →
          cond b (Some (hold_of g)) (h f x l) ≡ Some j → has_label (claim_added t.fibre c0 o) f x l ≡ true
      has f x l j true is e =
          own-this g t (λ f x l. has_label (claim_added t.fibre c0 o) f x l ≡ true) f x l is there
      has f x l j false is e = still f x l (hold.all f x l j e)

      below : (f : Fibre) (x : ℕ) (l : Lsp) (j : Hold) (b : Bool) → (is_this t f x && same_lsp g.lsp l) ≡ b →
          cond b (Some (hold_of g)) (h f x l) ≡ Some j → x ≤ labels_of_fibre f o
      below f x l j true is e = own-this g t (λ f x l. x ≤ labels_of_fibre f o) f x l is within
      below f x l j false is e = hold.within f x l j e

pub more-guards : (g : Leg) (t : TakenLabel) (h : Fibre → ℕ → Lsp → Option Hold) (s more : List Guard) →
    GuardsHold h s → GuardsBy g t s more → GuardsHold (holds_with_label g (Some t) h) more
more-guards g t h s more hold just f x l q = just f x l q ∙ go (is_this t f x && same_lsp g.lsp l)
  where
    go : (b : Bool) → cond b (guards_held q (Some (hold_of g))) (is_risk_guarded s f x l q) ≡
        guards_held q (cond b (Some (hold_of g)) (h f x l))
    go true = refl
    go false = hold f x l q

-- so what is held is, with the label
pub more-held : (g : Leg) (t : TakenLabel) (h : Fibre → ℕ → Lsp → Option Hold) (o after : OwnerState)
    (s more : List Guard) → AreHeld h o s → h t.fibre t.label g.lsp ≡ None → MayClaim o g t →
    after ≡ claimed_by g t o → GuardsBy g t s more → AreHeld (holds_with_label g (Some t) h) after more
more-held g t h o after s more held none may is just = record {
  claims =
      subst (λ (x : OwnerState). ClaimsHold (holds_with_label g (Some t) h) x.claims) (sym is)
      (more-claims g t h o.claims held.claims none may.comes_in may.within);
  guards = more-guards g t h s more held.guards just;
}

pub claimed-fibres : (g : Leg) (t : TakenLabel) (o : OwnerState) → SameFibres o (claimed_by g t o)
claimed-fibres g t o = record {
  fibres = λ f. comes-kept t.fibre f (claims_of t.fibre o.claims ++ claim_by g.role t.label g.lsp ∷ []) o.claims;
  labels = λ f. labels-kept t.fibre f (claims_of t.fibre o.claims ++ claim_by g.role t.label g.lsp ∷ []) o.claims;
  marked = λ f. refl;
}
