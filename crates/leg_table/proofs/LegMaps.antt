-- What the map and the list of its LSPs show of the legs in order.
use Rattle.std.proofs.Common.{◌≡◌, ℕ, zero, suc, Bool, true, false, cond, List, [], ◌∷◌, length, refl, sym, ap, subst, ◌∙◌}
use Rattle.std.specs.{Prelude.{IsTrue, Option, Some, None, is_some, slice_get}, List.{AllByRecursion, cons_option}}
use Rattle.ason_base.specs.{InOrder.Rise, Lsps.{lsp_before, same_lsp}, declared.ids.Lsp.Lsp, declared.tables.Leg.Leg}
use Rattle.ason_base.proofs.{KeyedLists.{pairs-rise, rise-pairs}, LspOrder.{same_lsp-eq, same_lsp-refl}}
use Rattle.mesh_rules.specs.Legs.{find_leg}
use Rattle.leg_table.specs.{LegMaps.{LegMapFits, find_lsp, legs_in}, LegTables.AreLegsRising}

-- A leg for each place

pub record IsListedLeg (f : Lsp → Option Leg) (k : Lsp) : Type 0 where
  pub leg : Leg
  pub has : f k ≡ Some leg
  pub own : leg.lsp ≡ k

module _ (f : Lsp → Option Leg) (own : (l : Lsp) (g : Leg) → f l ≡ Some g → g.lsp ≡ l) where
  there : (k : Lsp) (o : Option Leg) → f k ≡ o → is_some o ≡ true → IsListedLeg f k
  there k None e h = absurd (cc h)
  there k (Some g) e h = record { leg = g; has = e; own = own k g e }

  all-there : (order : List Lsp) →
      ((l : Lsp) → is_some (find_lsp l order) ≡ true → is_some (f l) ≡ true) → AllByRecursion (IsListedLeg f) order
  all-there [] just = tt
  all-there (k ∷ ks) just = (
    there k (f k) refl (just k (ap (λ b. is_some (cond b (Some k) (find_lsp k ks))) (same_lsp-refl k))),
    all-there ks (λ l e. just l (later (same_lsp k l) l e)),
  )
    where
      later : (b : Bool) (l : Lsp) → is_some (find_lsp l ks) ≡ true → is_some (cond b (Some k) (find_lsp l ks)) ≡ true
      later true l e = refl
      later false l e = e

-- each LSP of the list has its leg
pub each-there : (f : Lsp → Option Leg) (order : List Lsp) → LegMapFits f order → AllByRecursion (IsListedLeg f) order
each-there f order fits = all-there f fits.own order (λ l e. sym (fits.just l) ∙ e)

-- What the legs are

pub no-leg-at : (f : Lsp → Option Leg) (order : List Lsp) (i : ℕ) → AllByRecursion (IsListedLeg f) order →
    slice_get order i ≡ None → None ≡ slice_get (legs_in f order) i
no-leg-at f [] i all e = refl
no-leg-at f (k ∷ ks) zero all e = absurd (cc e)
no-leg-at f (k ∷ ks) (suc i) all e =
    no-leg-at f ks i all.1 e ∙ sym (ap (λ x. slice_get (cons_option x (legs_in f ks)) (suc i)) all.0.has)

pub leg-at : (f : Lsp → Option Leg) (order : List Lsp) (i : ℕ) → AllByRecursion (IsListedLeg f) order → (p : Lsp) →
    slice_get order i ≡ Some p → f p ≡ slice_get (legs_in f order) i
leg-at f [] i all p e = absurd (cc e)
leg-at f (k ∷ ks) zero all p e =
    let is : p ≡ k = cc in
    ap f is ∙ all.0.has ∙ sym (ap (λ x. slice_get (cons_option x (legs_in f ks)) zero) all.0.has)
leg-at f (k ∷ ks) (suc i) all p e =
    leg-at f ks i all.1 p e ∙ sym (ap (λ x. slice_get (cons_option x (legs_in f ks)) (suc i)) all.0.has)

pub count-legs : (f : Lsp → Option Leg) (order : List Lsp) → AllByRecursion (IsListedLeg f) order →
    length order ≡ length (legs_in f order)
count-legs f [] all = refl
count-legs f (k ∷ ks) all =
    ap (λ n. suc n) (count-legs f ks all.1) ∙ sym (ap (λ x. length (cons_option x (legs_in f ks))) all.0.has)

find-in : (f : Lsp → Option Leg) (order : List Lsp) (l : Lsp) → AllByRecursion (IsListedLeg f) order →
    (is_some (find_lsp l order) ≡ false → f l ≡ None) → find_leg l (legs_in f order) ≡ f l
find-in f [] l all none = sym (none refl)
find-in f (k ∷ ks) l all none =
    ap (λ o. find_leg l (cons_option o (legs_in f ks))) all.0.has
    ∙ ap (λ x. cond (same_lsp x l) (Some all.0.leg) (find_leg l (legs_in f ks))) all.0.own
    ∙ go (same_lsp k l) refl none (find-in f ks l all.1)
  where
    go : (b : Bool) → same_lsp k l ≡ b → (is_some (cond b (Some k) (find_lsp l ks)) ≡ false → f l ≡ None) →
        ((is_some (find_lsp l ks) ≡ false → f l ≡ None) → find_leg l (legs_in f ks) ≡ f l) →
        cond b (Some all.0.leg) (find_leg l (legs_in f ks)) ≡ f l
    go true e h rest = sym all.0.has ∙ ap f (same_lsp-eq k l e)
    go false e h rest = rest h

nothing-there : (o : Option Leg) → is_some o ≡ false → o ≡ None
nothing-there None e = refl
nothing-there (Some g) e = absurd (cc e)

-- what the map has of an LSP is found among the legs
pub find-legs : (f : Lsp → Option Leg) (order : List Lsp) (l : Lsp) → LegMapFits f order →
    find_leg l (legs_in f order) ≡ f l
find-legs f order l fits =
    find-in f order l (each-there f order fits) (λ e. nothing-there (f l) (sym (fits.just l) ∙ e))

-- In order

-- the leg of the first LSP is before the legs of all later ones
later-legs : (f : Lsp → Option Leg) (g : Leg) (l : Lsp) (ks : List Lsp) → g.lsp ≡ l →
    AllByRecursion (IsListedLeg f) ks → AllByRecursion (λ k. IsTrue (lsp_before l k)) ks →
    AllByRecursion (λ h. IsTrue (lsp_before g.lsp h.lsp)) (legs_in f ks)
later-legs f g l [] own all before = tt
later-legs f g l (k ∷ ks) own all before =
    subst (λ o. AllByRecursion (λ h. IsTrue (lsp_before g.lsp h.lsp)) (cons_option o (legs_in f ks))) (sym all.0.has) (
      subst (λ x. IsTrue (lsp_before x all.0.leg.lsp)) (sym own)
          (subst (λ x. IsTrue (lsp_before l x)) (sym all.0.own) before.0),
      later-legs f g l ks own all.1 before.1,
    )

rise-in : (f : Lsp → Option Leg) (order : List Lsp) → AllByRecursion (IsListedLeg f) order →
    Rise (λ x y. IsTrue (lsp_before x y)) order →
    Rise (λ g h. IsTrue (lsp_before g.lsp h.lsp)) (legs_in f order)
rise-in f [] all rise = tt
rise-in f (k ∷ ks) all rise =
    subst (λ o. Rise (λ g h. IsTrue (lsp_before g.lsp h.lsp)) (cons_option o (legs_in f ks))) (sym all.0.has)
    (later-legs f all.0.leg k ks all.0.own all.1 rise.0, rise-in f ks all.1 rise.1)

-- the legs rise by LSP
pub legs-rise : (f : Lsp → Option Leg) (order : List Lsp) → LegMapFits f order → AreLegsRising (legs_in f order)
legs-rise f order fits =
    rise-pairs (λ g h. IsTrue (lsp_before g.lsp h.lsp)) (legs_in f order)
    (rise-in f order (each-there f order fits)
    (pairs-rise (λ x y. IsTrue (lsp_before x y)) order fits.rising))
