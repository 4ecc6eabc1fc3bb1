-- The labels that no leg claims are those that a working leg may take.
use Rattle.std.proofs.Common.{◌≡◌, ℕ, Bool, true, false, not, nat_eq, List, [], ◌∷◌, refl, ap, subst, arith}
use Rattle.std.specs.{Prelude.{◌||◌, Option, Some, None}, List.{AllByRecursion, list_any}}
use Rattle.ason_base.specs.{Labels.up_to, declared.calls.Role.TheVariants.Work, declared.ids.Fibre.Fibre, declared.risks.Risk.Risk, declared.tables.Leg.Leg, Lsps.same_lsp}
use Rattle.ason_base.proofs.{MaskMembers.filter-agree, Bools.same-truth}
use Rattle.link_owner.specs.{Claims.{has, unclaimed}, Owners.{OwnerState, claims_of, comes_in, labels_of_fibre}, declared.claims.Claim.Claim}
use Rattle.mesh_rules.specs.{Legs.{find_leg, is_usable, takes, usable}, LocalNodes.{LocalNode, own_link}}
use Rattle.mesh_rules.specs.LocalNodes as local
use Rattle.mesh_nodes.specs.Order.{LegsRise}
use Rattle.mesh_nodes.proofs.{LegList.all-found, Links.{any-found, any-left}}
use Rattle.leg_table.specs.LegClaims.{ClaimsFit, IsClaimOfLeg, OwnerFits, kind_here}
use Rattle.leg_labels.proofs.ClaimLists.{kind-of}

-- a claim is of a leg that takes the label
one_takes : (legs : List Leg) (f : Fibre) (c : Claim) → IsClaimOfLeg legs f c → list_any (takes f c.label) legs ≡ true
one_takes legs f c e = go (find_leg c.lsp legs) refl e
  where
    go : (o : Option Leg) → find_leg c.lsp legs ≡ o → kind_here f c.label o ≡ Some c.kind →
        list_any (takes f c.label) legs ≡ true
    go None found e = absurd (cc e)
    go (Some g) found e =
        any-found (takes f c.label) (λ h. same_lsp h.lsp c.lsp) legs g found
        (kind-of f c.label g c.kind e)

-- so a label that is claimed is taken
pub claims_take : (legs : List Leg) (f : Fibre) (x : ℕ) (claims : List Claim) →
    AllByRecursion (IsClaimOfLeg legs f) claims →
    list_any (has x) claims ≡ true → list_any (takes f x) legs ≡ true
claims_take legs f x [] each h = absurd (cc h)
claims_take legs f x (c ∷ claims) each h = go (nat_eq c.label x) refl h (claims_take legs f x claims each.1)
  where
    go : (b : Bool) → nat_eq c.label x ≡ b → (b || list_any (has x) claims) ≡ true →
        (list_any (has x) claims ≡ true → list_any (takes f x) legs ≡ true) → list_any (takes f x) legs ≡ true
    go true e h later =
        let is : c.label ≡ x = grind arith in subst (λ y. list_any (takes f y) legs ≡ true) is
        (one_takes legs f c each.0)
    go false e h later = later h

-- a label that a leg takes is claimed
pub of_each : {X : Type 0} (p : X → Bool) (P : Type 0) (xs : List X) → AllByRecursion (λ x. p x ≡ true → P) xs →
    list_any p xs ≡ true → P
of_each p P [] all h = absurd (cc h)
of_each {X} p P (x ∷ xs) all h = go (p x) refl h (of_each p P xs all.1)
  where
    go : (b : Bool) → p x ≡ b → (b || list_any p xs) ≡ true → (list_any p xs ≡ true → P) → P
    go true e h later = all.0 e
    go false e h later = later h

legs_claim : (legs : List Leg) (o : OwnerState) (f : Fibre) (x : ℕ) → LegsRise legs →
    ClaimsFit legs o → list_any (takes f x) legs ≡ true → list_any (has x) (claims_of f o.claims) ≡ true
legs_claim legs o f x rise fit h =
    of_each (takes f x) (list_any (has x) (claims_of f o.claims) ≡ true) legs
    (all-found (λ g. takes f x g ≡ true → list_any (has x) (claims_of f o.claims) ≡ true) legs rise
    (λ l g found t. any-left (λ c. nat_eq c.label x) (λ c. same_lsp c.lsp l) (claims_of f o.claims)
    (fit.all f x l g found t)))
    h

-- some leg claims a label exactly where some leg takes it
pub claimed-taken : (legs : List Leg) (o : OwnerState) (f : Fibre) (x : ℕ) → LegsRise legs →
    ClaimsFit legs o → list_any (has x) (claims_of f o.claims) ≡ list_any (takes f x) legs
claimed-taken legs o f x rise fit =
    same-truth _ _ (claims_take legs f x (claims_of f o.claims) (fit.each f)) (legs_claim legs o f x rise fit)

-- the labels that no leg claims are those that a working leg may take
pub unclaimed-usable : (p : LocalNode) (legs : List Leg) (risks : List Risk) (o : OwnerState) (f : Fibre) →
    LegsRise legs → ClaimsFit legs o → OwnerFits p o → comes_in o.claims f ≡ true →
    unclaimed (labels_of_fibre f o.claims) (claims_of f o.claims) ≡ usable p legs Work risks f
unclaimed-usable p legs risks o f rise fit owner comes =
    rw (owner.labels f comes)
    (filter-agree (λ x. not (list_any (has x) (claims_of f o.claims))) (is_usable Work risks legs f)
    (up_to (local.labels_of (own_link p f.link)))
    (λ x h. ap not (claimed-taken legs o f x rise fit)))
