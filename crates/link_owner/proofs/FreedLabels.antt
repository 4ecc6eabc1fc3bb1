-- The labels that no leg has in some way, when claims come and go.
use Rattle.std.proofs.{Common.{◌≡◌, ℕ, Bool, true, false, cond, not, nat_eq, List, [], ◌∷◌, ◌++◌, inl, inr, refl, sym, ap, subst, ◌∙◌, arith, eqb-true}, lemmas.Map.Views.any-filter_same, Math.Bool.{and-false, and-true}, lemmas.Bool.and_parts}
use Rattle.std.specs.{Prelude.{◌⊎◌, ◌&&◌, ◌||◌, filter}, List.list_any}
use Rattle.ason_base.specs.{declared.limits.TheConstants.MOST_LABELS, declared.ids.Lsp.Lsp, Labels.{has as is_in, up_to, without}, Lsps.same_lsp}
use Rattle.ason_base.proofs.MaskMembers.{filter-agree, filter-filter, has-filter}
use Rattle.link_owner.specs.{declared.claims.Claim.Claim, declared.claims.ClaimKind.ClaimKind, Claims.{free_of, freed, has, has_so, is_of_lsp, with_free}}
use Rattle.link_owner.proofs.LabelTests.{left-kept, left-none, left-taken}

-- Tests over claims

-- where no claim passes, none that is left does
pub none-left : (p q : Claim → Bool) (claims : List Claim) → list_any p claims ≡ false →
    list_any p (filter q claims) ≡ false
none-left p q [] none = refl
none-left p q (c ∷ claims) none = go (p c) refl (q c) (none-left p q claims) none
  where
    go : (a : Bool) → p c ≡ a → (b : Bool) → (list_any p claims ≡ false → list_any p (filter q claims) ≡ false) →
        (a || list_any p claims) ≡ false → list_any p (cond b (c ∷ filter q claims) (filter q claims)) ≡ false
    go true e b later h = absurd (cc h)
    go false e true later h = rw (e, later h) refl
    go false e false later h = later h

-- One label

-- a label that no leg has in this way
pub none-has : (so : ClaimKind → Bool) (claims : List Claim) (x : ℕ) → is_in (free_of so claims) x ≡ true →
    list_any (has_so so x) claims ≡ false
none-has so claims x h =
    is_false (list_any (has_so so x) claims)
    (and_parts (is_in (up_to MOST_LABELS) x) _
    (sym (has-filter (λ y. not (list_any (has_so so y) claims)) (up_to MOST_LABELS) x) ∙ h)).1
  where
    is_false : (b : Bool) → not b ≡ true → b ≡ false
    is_false true e = cc e
    is_false false e = refl

-- only claims of this label have changed
abbrev pub StayElsewhere : (ClaimKind → Bool) → ℕ → List Claim → List Claim → Type 0
StayElsewhere so x before after =
    (y : ℕ) → nat_eq y x ≡ false → list_any (has_so so y) after ≡ list_any (has_so so y) before

-- then the others stay free, and this one is told
pub follows : (so : ClaimKind → Bool) (before after : List Claim) (x : ℕ) (free : Bool) →
    StayElsewhere so x before after → free ≡ not (list_any (has_so so x) after) →
    with_free (free_of so before) x free ≡ free_of so after
follows so before after x true others told =
    filter-agree (λ y. nat_eq y x || is_in (free_of so before) y) (λ y. not (list_any (has_so so y) after))
    (up_to MOST_LABELS)
    (λ y h. go y h (nat_eq y x) refl)
  where
    go : (y : ℕ) → is_in (up_to MOST_LABELS) y ≡ true → (b : Bool) → nat_eq y x ≡ b →
        (b || is_in (free_of so before) y) ≡ not (list_any (has_so so y) after)
    go y h true e = subst (λ z. true ≡ not (list_any (has_so so z) after)) (sym (eqb-true y x e)) told
    go y h false e =
        has-filter (λ z. not (list_any (has_so so z) before)) (up_to MOST_LABELS) y
        ∙ ap (λ b. b && not (list_any (has_so so y) before)) h
        ∙ ap not (sym (others y e))
follows so before after x false others told =
    filter-filter (λ y. not (list_any (has_so so y) before)) (λ y. not (nat_eq y x)) (up_to MOST_LABELS)
    ∙ filter-agree (λ y. not (list_any (has_so so y) before) && not (nat_eq y x))
    (λ y. not (list_any (has_so so y) after)) (up_to MOST_LABELS) (λ y h. go y (nat_eq y x) refl)
  where
    and_not : (a b : Bool) → b ≡ false → (a && not b) ≡ a
    and_not true b e = ap not e
    and_not false b e = refl

    never : (a b c : Bool) → b ≡ true → c ≡ false → (a && not b) ≡ c
    never true b c e f = ap not e ∙ sym f
    never false b c e f = sym f

    go : (y : ℕ) → (b : Bool) → nat_eq y x ≡ b →
        (not (list_any (has_so so y) before) && not (nat_eq y x)) ≡ not (list_any (has_so so y) after)
    go y true e =
        never (not (list_any (has_so so y) before)) (nat_eq y x) (not (list_any (has_so so y) after)) e
        (subst (λ z. not (list_any (has_so so z) after) ≡ false) (sym (eqb-true y x e)) (sym told))
    go y false e =
        and_not (not (list_any (has_so so y) before)) (nat_eq y x) e ∙ ap not (sym (others y e))

-- Claims taken off

of-label : (x : ℕ) (l : Lsp) (c : Claim) → is_of_lsp x l c ≡ true → nat_eq c.label x ≡ true
of-label x l c h = (and_parts (nat_eq c.label x) (same_lsp c.lsp l) h).0

apart : (a x y : ℕ) → nat_eq a x ≡ true → nat_eq y x ≡ false → nat_eq a y ≡ false
apart a x y e f = grind arith

-- an LSP's claim of a label is taken off
pub freed-elsewhere : (so : ClaimKind → Bool) (x : ℕ) (l : Lsp) (claims : List Claim) →
    StayElsewhere so x claims (freed x l claims)
freed-elsewhere so x l claims y e =
    any-filter_same (has_so so y) (λ c. not (is_of_lsp x l c)) true
    (λ c h. ap not (go c h (is_of_lsp x l c) refl)) claims
  where
    go : (c : Claim) → has_so so y c ≡ true → (b : Bool) → is_of_lsp x l c ≡ b → b ≡ false
    go c h true f =
        cc (sym (apart c.label x y (of-label x l c f) e) ∙ (and_parts (nat_eq c.label y) (so c.kind) h).0)
    go c h false f = refl

-- The labels that no leg has, after a change

-- no claim, and all labels are free
pub none-claimed : (so : ClaimKind → Bool) → up_to MOST_LABELS ≡ free_of so []
none-claimed so = sym (left-none (up_to MOST_LABELS))

-- one claim more, of a leg that has its label so
pub more-so : (so : ClaimKind → Bool) (claims : List Claim) (c : Claim) → so c.kind ≡ true →
    without (free_of so claims) c.label ≡ free_of so (claims ++ c ∷ [])
more-so so claims c has =
    sym (left-taken (has_so so) claims c c.label (up_to MOST_LABELS)
    (λ y. ap (λ b. nat_eq c.label y && b) has ∙ and-true (nat_eq c.label y)))

-- one claim more, of another kind
pub more-other : (so : ClaimKind → Bool) (claims : List Claim) (c : Claim) → so c.kind ≡ false →
    free_of so claims ≡ free_of so (claims ++ c ∷ [])
more-other so claims c other =
    sym (left-kept (has_so so) claims c (up_to MOST_LABELS)
    (λ y. ap (λ b. nat_eq c.label y && b) other ∙ and-false (nat_eq c.label y)))

-- an LSP's claim was taken off, and the label is looked for only where it wasn't free before
pub freed-free : (so : ClaimKind → Bool) (before after : List Claim) (x : ℕ) (l : Lsp) (labels : List ℕ) (free : Bool) →
    labels ≡ free_of so before → after ≡ freed x l before →
    ((is_in labels x ≡ true) × (free ≡ true)) ⊎ (free ≡ not (list_any (has_so so x) after)) →
    with_free labels x free ≡ free_of so after
freed-free so before after x l labels free are is told =
    ap (λ ls. with_free ls x free) are
    ∙ follows so before (freed x l before) x free (freed-elsewhere so x l before) (now told)
    ∙ ap (free_of so) (sym is)
  where
    now : ((is_in labels x ≡ true) × (free ≡ true)) ⊎ (free ≡ not (list_any (has_so so x) after)) →
        free ≡ not (list_any (has_so so x) (freed x l before))
    now (inl (was, is_free)) =
        is_free ∙ ap not (sym (none-left (has_so so x) (λ c. not (is_of_lsp x l c)) before
        (none-has so before x (ap (λ ls. is_in ls x) (sym are) ∙ was))))
    now (inr looked) = looked ∙ ap (λ cs. not (list_any (has_so so x) cs)) is
