-- Labels that an LSP gives up, and what is held after.
use Rattle.std.proofs.{Common.{◌≡◌, ◌≤◌, ℕ, Bool, true, false, cond, not, nat_eq, List, [], ◌∷◌, refl, sym, ap, subst, ◌∙◌, eqb-true}, lemmas.Bool.not-true}
use Rattle.std.specs.{Prelude.{◌&&◌, ◌||◌, Option, Some, None, filter}, List.{AllByRecursion, list_any}}
use Rattle.ason_base.specs.{Lsps.{same_fibre, same_lsp}, declared.ids.Fibre.Fibre, declared.ids.Lsp.Lsp}
use Rattle.ason_base.proofs.{Numbers.number-turned, Bools.{and-left, and-right}}
use Rattle.link_owner.specs.{Claims.{FibreClaims, freed, has, is_of_lsp}, Owners.{claims_of, comes_in, has_label, label_freed, labels_of_fibre}, declared.claims.Claim.Claim}
use Rattle.share_check.specs.Guards.{Guard, GuardsJust, is_risk_guarded}
use Rattle.mesh_nodes.proofs.LegList.{same_lsp-eq, same_lsp-refl}
use Rattle.leg_table.specs.{declared.labels.TakenLabel.TakenLabel, LegClaims.is_this}
use Rattle.leg_table.proofs.OwnerFibres.{claims-elsewhere, claims-there, same_fibre-eq}
use Rattle.leg_labels.proofs.ClaimLists.{all-left, any-left_in}
use Rattle.leg_carrying.specs.LegHolds.{ClaimsHold, GivesUp, GuardsHold, Hold, guards_held, kind_held}

-- What is left

abbrev pub less : Lsp → (Fibre → ℕ → Bool) → (Fibre → ℕ → Lsp → Option Hold) → Fibre → ℕ → Lsp → Option Hold
less l lost h f x m = cond (lost f x && same_lsp l m) None (h f x m)

module _ (l : Lsp) (lost : Fibre → ℕ → Bool) (before after : List FibreClaims) (s left : List Guard)
    (gives : GivesUp l lost before after s left) (h : Fibre → ℕ → Lsp → Option Hold) where
  -- the claim is no lost one
  stays : (f : Fibre) (x : ℕ) (m : Lsp) → (lost f x && same_lsp l m) ≡ false → (c : Claim) → is_of_lsp x m c ≡ true →
      not (lost f c.label && same_lsp l c.lsp) ≡ true
  stays f x m kept c of =
      let label : c.label ≡ x = eqb-true c.label x (and-left (has x c) (same_lsp c.lsp m) of) in
      let lsp : c.lsp ≡ m = same_lsp-eq c.lsp m (and-right (has x c) (same_lsp c.lsp m) of) in
      ap not (ap (λ y. lost f y && same_lsp l c.lsp) label ∙ ap (λ k. lost f x && same_lsp l k) lsp ∙ kept)

  -- the claims that are left are what is left
  pub left-claims : ((f : Fibre) → labels_of_fibre f after ≡ labels_of_fibre f before) → ClaimsHold h before →
      ClaimsHold (less l lost h) after
  left-claims labels hold = record {
    each = λ f.
        subst (AllByRecursion (λ c. kind_held (less l lost h f c.label c.lsp) ≡ Some c.kind)) (sym (gives.claims f))
        (all-left (λ c. kind_held (h f c.label c.lsp) ≡ Some c.kind)
        (λ c. kind_held (less l lost h f c.label c.lsp) ≡ Some c.kind)
        (λ c. not (lost f c.label && same_lsp l c.lsp)) (claims_of f before)
        (λ c e q. ap (λ b. kind_held (cond b None (h f c.label c.lsp))) (not-true _ q) ∙ e) (hold.each f));
    all = λ f x m k e. had f x m k (lost f x && same_lsp l m) refl e;
    within = λ f x m k e.
        subst (λ n. x ≤ n) (sym (labels f)) (hold.within f x m k (was f x m k (lost f x && same_lsp l m) e));
  }
    where
      was : (f : Fibre) (x : ℕ) (m : Lsp) (k : Hold) (b : Bool) → cond b None (h f x m) ≡ Some k → h f x m ≡ Some k
      was f x m k true e = absurd (cc e)
      was f x m k false e = e

      had : (f : Fibre) (x : ℕ) (m : Lsp) (k : Hold) (b : Bool) → (lost f x && same_lsp l m) ≡ b →
          cond b None (h f x m) ≡ Some k → has_label after f x m ≡ true
      had f x m k true is e = absurd (cc e)
      had f x m k false is e =
          subst (λ cs. list_any (is_of_lsp x m) cs ≡ true) (sym (gives.claims f))
          (any-left_in (is_of_lsp x m) (λ c. not (lost f c.label && same_lsp l c.lsp)) (claims_of f before)
          (stays f x m is) (hold.all f x m k e))

  -- so are the guards
  pub left-guards : GuardsHold h s → GuardsHold (less l lost h) left
  left-guards hold f x m q =
      gives.guards f x m q ∙ ap (cond (lost f x && same_lsp l m) false) (hold f x m q)
      ∙ go (lost f x && same_lsp l m)
    where
      go : (b : Bool) → cond b false (guards_held q (h f x m)) ≡ guards_held q (cond b None (h f x m))
      go true = refl
      go false = refl

-- Which labels are given up

pub gives-same : (l : Lsp) (a b : Fibre → ℕ → Bool) (before after : List FibreClaims) (s left : List Guard) →
    ((f : Fibre) (x : ℕ) → a f x ≡ b f x) → GivesUp l a before after s left → GivesUp l b before after s left
gives-same l a b before after s left e = subst (λ c. GivesUp l c before after s left) (λ i f x. e f x i)

all-stay : (cs : List Claim) → filter (λ c. true) cs ≡ cs
all-stay [] = refl
all-stay (c ∷ cs) = ap (λ ds. c ∷ ds) (all-stay cs)

-- none
pub gives-none : (l : Lsp) (lost : Fibre → ℕ → Bool) (o : List FibreClaims) (s : List Guard) →
    ((f : Fibre) (x : ℕ) → lost f x ≡ false) → GivesUp l lost o o s s
gives-none l lost o s none = gives-same l (λ f x. false) lost o o s s (λ f x. sym (none f x)) (record {
  claims = λ f. sym (all-stay (claims_of f o));
  guards = λ f x m q. refl;
})

twice : (p q : Claim → Bool) (cs : List Claim) →
    filter (λ c. not (q c)) (filter (λ c. not (p c)) cs) ≡ filter (λ c. not (p c || q c)) cs
twice p q [] = refl
twice p q (c ∷ cs) = go (p c) (twice p q cs)
  where
    go : (b : Bool) → filter (λ c. not (q c)) (filter (λ c. not (p c)) cs) ≡ filter (λ c. not (p c || q c)) cs →
        filter (λ c. not (q c)) (cond (not b) (c ∷ filter (λ c. not (p c)) cs) (filter (λ c. not (p c)) cs)) ≡
        cond (not (b || q c)) (c ∷ filter (λ c. not (p c || q c)) cs) (filter (λ c. not (p c || q c)) cs)
    go true rest = rest
    go false rest = ap (λ ds. cond (not (q c)) (c ∷ ds) ds) rest

-- a test beside either of two
pub both : (a b c : Bool) → ((a && c) || (b && c)) ≡ ((a || b) && c)
both true b true = refl
both true true false = refl
both true false false = refl
both false b c = refl

-- first some, then others
pub gives-then : (l : Lsp) (a b : Fibre → ℕ → Bool) (o1 o2 o3 : List FibreClaims) (s1 s2 s3 : List Guard) →
    GivesUp l a o1 o2 s1 s2 → GivesUp l b o2 o3 s2 s3 → GivesUp l (λ f x. a f x || b f x) o1 o3 s1 s3
gives-then l a b o1 o2 o3 s1 s2 s3 first second = record {
  claims = λ f.
      second.claims f
      ∙ ap (filter (λ c. not (b f c.label && same_lsp l c.lsp))) (first.claims f)
      ∙ twice (λ c. a f c.label && same_lsp l c.lsp) (λ c. b f c.label && same_lsp l c.lsp) (claims_of f o1)
      ∙ ap (λ p. filter p (claims_of f o1))
      (λ i c. not (both (a f c.label) (b f c.label) (same_lsp l c.lsp) i));
  guards = λ f x m q.
      second.guards f x m q
      ∙ ap (cond (b f x && same_lsp l m) false) (first.guards f x m q)
      ∙ go (a f x) (b f x) (same_lsp l m) (is_risk_guarded s1 f x m q);
}
  where
    go : (a b c r : Bool) → cond (b && c) false (cond (a && c) false r) ≡ cond ((a || b) && c) false r
    go true true true r = refl
    go true false true r = refl
    go true true false r = refl
    go true false false r = refl
    go false b c r = refl

-- one label, where it is freed at the owner and at the shares
pub gives-label : (l : Lsp) (t : TakenLabel) (o : List FibreClaims) (s left : List Guard) →
    comes_in o t.fibre ≡ true → GuardsJust t.fibre t.label l [] s left →
    GivesUp l (is_this t) o (label_freed t.fibre t.label l o) s left
gives-label l t o s left comes just = record { claims = λ f. here f (same_fibre t.fibre f) refl; guards = just }
  where
    same : (a b : Lsp) → same_lsp a b ≡ true → same_lsp b a ≡ true
    same a b e = subst (λ k. same_lsp k a ≡ true) (same_lsp-eq a b e) (same_lsp-refl a)

    turned : (a b : Lsp) → same_lsp a b ≡ same_lsp b a
    turned a b = go (same_lsp a b) (same_lsp b a) refl refl
      where
        go : (x y : Bool) → same_lsp a b ≡ x → same_lsp b a ≡ y → x ≡ y
        go true y e f = sym (same a b e) ∙ f
        go false true e f = absurd (let again = same b a f in cc (again, e))
        go false false e f = refl

    here : (f : Fibre) (b : Bool) → same_fibre t.fibre f ≡ b →
        claims_of f (label_freed t.fibre t.label l o) ≡
        filter (λ c. not ((b && nat_eq t.label c.label) && same_lsp l c.lsp)) (claims_of f o)
    here f true e =
        subst (λ k. claims_of k (label_freed t.fibre t.label l o) ≡
        filter (λ c. not (nat_eq t.label c.label && same_lsp l c.lsp)) (claims_of k o)) (same_fibre-eq t.fibre f e)
        (claims-there t.fibre (freed t.label l (claims_of t.fibre o)) o comes
        ∙ ap (λ p. filter p (claims_of t.fibre o))
        (λ i c. not (number-turned c.label t.label i && turned c.lsp l i)))
    here f false e =
        claims-elsewhere t.fibre f (freed t.label l (claims_of t.fibre o)) o e ∙ sym (all-stay (claims_of f o))
