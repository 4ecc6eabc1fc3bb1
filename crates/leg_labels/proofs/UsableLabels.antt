-- The labels that a backup may share are those that are usable for it; and those that are usable at all.
use Rattle.std.proofs.{Common.{◌≡◌, ◌<◌, ◌≤◌, ◌+◌, ℕ, Bool, true, false, not, nat_eq, List, [], ◌∷◌, refl, sym, ap, subst, ◌∙◌, arith, Contains}, lemmas.Bool.{not-true, or_right}}
use Rattle.std.specs.{Prelude.{◌||◌, ◌&&◌, Option, Some, None, filter}, List.{AllByRecursion, list_any}}
use Rattle.ason_base.specs.{declared.limits.TheConstants.MOST_LABELS, Labels.up_to, declared.calls.Role.Role, declared.calls.Role.TheVariants.{Work, Back}, declared.ids.Fibre.Fibre, declared.ids.Lsp.Lsp, declared.risks.Risk.Risk, declared.tables.Leg.Leg, Lsps.same_lsp, Risks.{has_risk, have_common}}
use Rattle.ason_base.specs.Labels as labels
use Rattle.ason_base.proofs.{RiskOrder.{common-there, contains-has_risk, has_risk-contains, there-common}, MaskMembers.{filter-agree, filter-filter, has-bound, has-filter}, Bools.{false-back, and-left, and-right}}
use Rattle.link_owner.specs.{Claims.{has, is_of_lsp, is_working, shareable, works_on}, Owners.{OwnerState, claims_of, comes_in, labels_of_fibre}, declared.claims.Claim.Claim}
use Rattle.share_check.specs.Guards.{fits, fitting, is_risk_guarded, Guard}
use Rattle.share_check.proofs.Fitting.{fits-none, none-fits}
use Rattle.mesh_rules.specs.{Legs.{find_leg, is_apart, is_usable, is_work, takes, usable}, LocalNodes.{LocalNode, own_link}}
use Rattle.mesh_rules.specs.LocalNodes as local
use Rattle.mesh_nodes.specs.Order.{LegsRise}
use Rattle.mesh_nodes.proofs.{LegList.{all-found, same_lsp-eq}, Links.any-found, ChosenLabels.usable-is}
use Rattle.leg_table.specs.LegClaims.{IsClaimOfLeg, LabelsFit, OwnerFits, bars, claim_kind, guarded_risks, guards_here, kind_here}
use Rattle.leg_labels.proofs.{ClaimLists.kind-of, ClaimedLabels.{claims_take, of_each}}

-- Labels that a backup may share

-- what each claim that passes one test tells, that it passes another
pub any-told : {X : Type 0} (P : X → Type 0) (p q : X → Bool) (xs : List X) → ((x : X) → P x → p x ≡ true → q x ≡ true) →
    AllByRecursion P xs → list_any p xs ≡ true → list_any q xs ≡ true
any-told P p q [] told all e = absurd (cc e)
any-told {X} P p q (x ∷ xs) told all e = go (p x) refl e (any-told P p q xs told all.1)
  where
    go : (b : Bool) → p x ≡ b → (b || list_any p xs) ≡ true → (list_any p xs ≡ true → list_any q xs ≡ true) →
        (q x || list_any q xs) ≡ true
    go true h e later = rw (told x all.0 h) refl
    go false h e later = or_right (q x) (list_any q xs) (later e)

-- a leg keeps a backup from the label whose primary has these risks
abbrev keeps_from : List Risk → Fibre → ℕ → Leg → Bool
keeps_from risks f x g = takes f x g && not (is_apart risks g)

working-is : (r : Role) → is_working (claim_kind r) ≡ true → is_work r ≡ true
working-is Work e = refl
working-is Back e = absurd (cc e)

module _ (legs : List Leg) (risks : List Risk) (o : OwnerState) (s : List Guard) (f : Fibre) (x : ℕ)
    (rise : LegsRise legs)
    (fit : LabelsFit legs o s) where
  -- the leg of a working claim keeps every backup from the label
  works-keeps : list_any (works_on x) (claims_of f o.claims) ≡ true → list_any (keeps_from risks f x) legs ≡ true
  works-keeps h =
      of_each (works_on x) (list_any (keeps_from risks f x) legs ≡ true) (claims_of f o.claims)
      (each (claims_of f o.claims) (fit.claims.each f)) h
    where
      one : (c : Claim) → IsClaimOfLeg legs f c → works_on x c ≡ true → list_any (keeps_from risks f x) legs ≡ true
      one c of works = go (find_leg c.lsp legs) refl of
        where
          label : c.label ≡ x
          label = let here : nat_eq c.label x ≡ true = and-left (has x c) (is_working c.kind) works in grind arith

          go : (k : Option Leg) → find_leg c.lsp legs ≡ k → kind_here f c.label k ≡ Some c.kind →
              list_any (keeps_from risks f x) legs ≡ true
          go None found e = absurd (cc e)
          go (Some g) found e =
              let t : takes f c.label g ≡ true = kind-of f c.label g c.kind e in
              let kind : Some (claim_kind g.role) ≡ Some c.kind = rw t at e in
              let is : claim_kind g.role ≡ c.kind = cc kind in
              let work : is_work g.role ≡ true =
              working-is g.role (ap is_working is ∙ and-right (has x c) (is_working c.kind) works) in
              let t' : takes f x g ≡ true = subst (λ y. takes f y g ≡ true) label t in
              any-found (keeps_from risks f x) (λ h. same_lsp h.lsp c.lsp) legs g found
              (rw (t', work) refl)

      each : (claims : List Claim) → AllByRecursion (IsClaimOfLeg legs f) claims →
          AllByRecursion (λ c. works_on x c ≡ true → list_any (keeps_from risks f x) legs ≡ true) claims
      each [] all = tt
      each (c ∷ claims) all = (one c all.0, each claims all.1)

  -- so does one that guards one of the risks
  guards-keeps : (l : Lsp) (q : Risk) → Contains risks q → is_risk_guarded s f x l q ≡ true →
      list_any (keeps_from risks f x) legs ≡ true
  guards-keeps l q asked h = go (find_leg l legs) refl (sym (fit.guards.each f x l q) ∙ h)
    where
      keeps : (g : Leg) → takes f x g ≡ true → has_risk (guarded_risks g) q ≡ true → keeps_from risks f x g ≡ true
      keeps g t has = role (is_work g.role) refl
        where
          role : (b : Bool) → is_work g.role ≡ b → keeps_from risks f x g ≡ true
          role true work = rw (t, work) refl
          role false back =
              let own : has_risk g.risks q ≡ true = rw back at has in
              let common : have_common risks g.risks ≡ true =
              there-common risks g.risks q asked (has_risk-contains g.risks q own) in
              rw (t, back, common) refl

      go : (k : Option Leg) → find_leg l legs ≡ k → guards_here f x q k ≡ true →
          list_any (keeps_from risks f x) legs ≡ true
      go None found e = absurd (cc e)
      go (Some g) found e =
          any-found (keeps_from risks f x) (λ h. same_lsp h.lsp l) legs g found
          (keeps g (and-left (takes f x g) _ e)
          (and-right (takes f x g) (has_risk (guarded_risks g) q) e))

  -- a leg that keeps the backup from the label has a working claim of it, or guards one of the risks
  keeps-one : list_any (works_on x) (claims_of f o.claims) ≡ false → fits s f risks x ≡ true → (l : Lsp)
      (g : Leg) → find_leg l legs ≡ Some g → keeps_from risks f x g ≡ true → ⊥
  keeps-one none fitting l g found keeps = role (is_work g.role) refl
    where
      t : takes f x g ≡ true
      t = and-left (takes f x g) (not (is_apart risks g)) keeps

      works : is_work g.role ≡ true → list_any (works_on x) (claims_of f o.claims) ≡ true
      works work =
          any-told (IsClaimOfLeg legs f) (is_of_lsp x l) (works_on x) (claims_of f o.claims) told (fit.claims.each f)
          (fit.claims.all f x l g found t)
        where
          kind : (r : Role) → is_work r ≡ true → is_working (claim_kind r) ≡ true
          kind Work e = refl
          kind Back e = absurd (cc e)

          told : (c : Claim) → IsClaimOfLeg legs f c → is_of_lsp x l c ≡ true → works_on x c ≡ true
          told c of its =
              let here : has x c ≡ true = and-left (has x c) (same_lsp c.lsp l) its in
              let is : c.lsp ≡ l = same_lsp-eq c.lsp l (and-right (has x c) (same_lsp c.lsp l) its) in
              let label : c.label ≡ x = grind arith in
              let there : kind_here f x (find_leg l legs) ≡ Some c.kind =
              subst (λ y. kind_here f y (find_leg l legs) ≡ Some c.kind) label
              (subst (λ k. kind_here f c.label (find_leg k legs) ≡ Some c.kind) is of) in
              let claimed : Some (claim_kind g.role) ≡ Some c.kind = rw (found, t) at there in
              let same : claim_kind g.role ≡ c.kind = cc claimed in
              rw here (sym (ap is_working same) ∙ kind g.role work)

      guards : is_work g.role ≡ false → have_common risks g.risks ≡ true → ⊥
      guards back common =
          let there = common-there risks g.risks common in
          let q = there.0 in
          let never = fits-none s f risks x fitting l q there.1 in
          let has : has_risk g.risks q ≡ true = contains-has_risk g.risks q there.2 in
          let own : guards_here f x q (Some g) ≡ true = rw (t, back, has) refl in
          cc (never, fit.guards.each f x l q ∙ ap (guards_here f x q) found ∙ own)

      common-of : (a b : Bool) → a ≡ false → not (not a && not b) ≡ true → b ≡ true
      common-of true b e h = absurd (cc e)
      common-of false true e h = refl
      common-of false false e h = absurd (cc h)

      role : (b : Bool) → is_work g.role ≡ b → ⊥
      role true work = cc (works work, none)
      role false back =
          guards back (common-of (is_work g.role) (have_common risks g.risks) back
          (and-right (takes f x g) (not (is_apart risks g)) keeps))

  pub shared-exact : (not (list_any (works_on x) (claims_of f o.claims)) && fits s f risks x) ≡
      not (list_any (keeps_from risks f x) legs)
  shared-exact =
      go (list_any (works_on x) (claims_of f o.claims)) (fits s f risks x) (list_any (keeps_from risks f x) legs) refl refl
      refl
    where
      none-keeps : list_any (works_on x) (claims_of f o.claims) ≡ false → fits s f risks x ≡ true →
          list_any (keeps_from risks f x) legs ≡ true → ⊥
      none-keeps none fitting h =
          of_each (keeps_from risks f x) ⊥ legs
          (all-found (λ g. keeps_from risks f x g ≡ true → ⊥) legs rise (keeps-one none fitting)) h

      met-keeps : fits s f risks x ≡ false → list_any (keeps_from risks f x) legs ≡ false → ⊥
      met-keeps met none =
          cc (met, none-fits s f risks x (λ l q asked. unguarded l q asked (is_risk_guarded s f x l q) refl))
        where
          unguarded : (l : Lsp) (q : Risk) → Contains risks q → (b : Bool) → is_risk_guarded s f x l q ≡ b → b ≡ false
          unguarded l q asked true e = absurd (cc (none, guards-keeps l q asked e))
          unguarded l q asked false e = refl

      go : (a b k : Bool) → list_any (works_on x) (claims_of f o.claims) ≡ a → fits s f risks x ≡ b →
          list_any (keeps_from risks f x) legs ≡ k → (not a && b) ≡ not k
      go true b k works fitting keeps = let is : k ≡ true = sym keeps ∙ works-keeps works in rw is refl
      go false true true works fitting keeps = absurd (none-keeps works fitting keeps)
      go false true false works fitting keeps = refl
      go false false true works fitting keeps = refl
      go false false false works fitting keeps = absurd (met-keeps fitting keeps)

pub shared-usable : (p : LocalNode) (legs : List Leg) (risks : List Risk) (o : OwnerState) (s : List Guard)
    (f : Fibre) → LegsRise legs → LabelsFit legs o s → OwnerFits p o → comes_in o.claims f ≡ true →
    shareable (labels_of_fibre f o.claims) (claims_of f o.claims) ≡
    filter (labels.has (shareable (labels_of_fibre f o.claims) (claims_of f o.claims))) (up_to MOST_LABELS) →
    labels.meet (shareable (labels_of_fibre f o.claims) (claims_of f o.claims)) (fitting s f risks) ≡ usable p legs Back risks f
shared-usable p legs risks o s f rise fit owner comes narrow =
    filter-agree (labels.has (fitting s f risks)) (fits s f risks) left (λ x h. here x h)
    ∙ filter-filter (λ x. not (list_any (works_on x) (claims_of f o.claims))) (fits s f risks) (up_to (labels_of_fibre f o.claims))
    ∙ rw (owner.labels f comes)
    (filter-agree (λ x. not (list_any (works_on x) (claims_of f o.claims)) && fits s f risks x) (is_usable Back risks legs f)
    (up_to (local.labels_of (own_link p f.link))) (λ x h. shared-exact legs risks o s f x rise fit))
  where
    left : List ℕ
    left = shareable (labels_of_fibre f o.claims) (claims_of f o.claims)

    -- a label that no working leg has is one of 1 to 80
    within : (x : ℕ) → labels.has left x ≡ true → labels.has (up_to MOST_LABELS) x ≡ true
    within x h =
        and-left (labels.has (up_to MOST_LABELS) x) (labels.has left x)
        (sym (has-filter (labels.has left) (up_to MOST_LABELS) x)
        ∙ sym (ap (λ labels. list_any (λ y. nat_eq y x) labels) narrow)
        ∙ h)

    here : (x : ℕ) → labels.has left x ≡ true → labels.has (fitting s f risks) x ≡ fits s f risks x
    here x h = has-filter (fits s f risks) (up_to MOST_LABELS) x ∙ ap (λ b. b && fits s f risks x) (within x h)

-- A label that is usable

pub usable-within : (p : LocalNode) (legs : List Leg) (r : Role) (risks : List Risk) (f : Fibre) (x : ℕ) →
    labels.has (usable p legs r risks f) x ≡ true → x ≤ local.labels_of (own_link p f.link)
usable-within p legs r risks f x h =
    let n = local.labels_of (own_link p f.link) in
    let in_all : labels.has (up_to n) x ≡ true =
    and-left (labels.has (up_to n) x) (is_usable r risks legs f x)
    (sym (has-filter (is_usable r risks legs f) (up_to n) x) ∙ h) in
    let below : x < 1 + n = has-bound n 1 x in_all in
    omega arith

-- no claim keeps a leg of this role from a label that is usable for it
pub usable-unclaimed : (p : LocalNode) (legs : List Leg) (r : Role) (risks : List Risk) (o : OwnerState)
    (s : List Guard) (f : Fibre) (x : ℕ) → LegsRise legs → LabelsFit legs o s →
    labels.has (usable p legs r risks f) x ≡ true → list_any (bars r x) (claims_of f o.claims) ≡ false
usable-unclaimed p legs Work risks o s f x rise fit h =
    false-back (list_any (has x) (claims_of f o.claims)) (list_any (takes f x) legs)
    (claims_take legs f x (claims_of f o.claims) (fit.claims.each f))
    (not-true (list_any (takes f x) legs) (usable-is p legs Work risks f x h))
usable-unclaimed p legs Back risks o s f x rise fit h =
    false-back (list_any (works_on x) (claims_of f o.claims)) (list_any (keeps_from risks f x) legs)
    (works-keeps legs risks o s f x rise fit)
    (not-true (list_any (keeps_from risks f x) legs) (usable-is p legs Back risks f x h))
