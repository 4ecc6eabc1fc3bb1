-- What an edit of the map and of the list of its LSPs makes of the legs in order.
use Rattle.std.proofs.Common.{◌≡◌, Bool, true, false, cond, not, List, [], ◌∷◌, refl, sym, ap, subst, ◌∙◌}
use Rattle.std.specs.{Prelude.{IsTrue, Option, Some, None, filter, is_some}, List.{AllByRecursion, cons_option}}
use Rattle.ason_base.specs.{InOrder.{Rise, put_by}, Lsps.{lsp_before, same_lsp}, declared.ids.Lsp.Lsp, declared.tables.Leg.Leg}
use Rattle.ason_base.proofs.{KeyedLists.{find-put, find-without, pairs-rise}, LspOrder.{before-apart, before-before, lsp_order, same_lsp-eq, same_lsp-refl}, Members.all-then}
use Rattle.mesh_rules.specs.Legs.{with_leg, without_leg}
use Rattle.leg_table.specs.{Keyed.{KeysRise, has_key}, LegMaps.{LegMapFits, find_lsp, legs_in, lsp_at}}
use Rattle.leg_table.proofs.{KeyedPlaces.left_rises, LegMaps.{IsListedLeg, each-there}}

flip : (a b : Lsp) → same_lsp a b ≡ false → same_lsp b a ≡ false
flip a b e = go (same_lsp b a) refl
  where
    go : (s : Bool) → same_lsp b a ≡ s → s ≡ false
    go true f = absurd (cc (e, subst (λ x. same_lsp x b ≡ true) (same_lsp-eq b a f) (same_lsp-refl b)))
    go false f = refl

-- One LSP's leg set or taken out

abbrev pub Sets : Lsp → Option Leg → (Lsp → Option Leg) → (Lsp → Option Leg) → Type 0
Sets l w f h = (q : Lsp) → h q ≡ cond (same_lsp l q) w (f q)

-- an edit under the key of an LSP is one under the LSP
pub under : (f h : Lsp → Option Leg) (k l : Lsp) (w : Option Leg) → k ≡ l → Sets k w f h → Sets l w f h
under f h k l w is sets = subst (λ x. Sets x w f h) is sets

module _ (f h : Lsp → Option Leg) (l : Lsp) (w : Option Leg) (sets : Sets l w f h) where
  set-here : h l ≡ w
  set-here = sets l ∙ ap (λ b. cond b w (f l)) (same_lsp-refl l)

  set-other : (q : Lsp) → same_lsp l q ≡ false → h q ≡ f q
  set-other q e = sets q ∙ ap (λ b. cond b w (f q)) e

  -- those after it stay
  after-same : (ks : List Lsp) → AllByRecursion (λ y. IsTrue (lsp_before l y)) ks → legs_in h ks ≡ legs_in f ks
  after-same [] before = refl
  after-same (k ∷ ks) before =
      λ i. cons_option (set-other k (before-apart l k before.0) i) (after-same ks before.1 i)

abbrev Before : Lsp → Lsp → Type 0
Before x y = IsTrue (lsp_before x y)

-- An LSP that has a leg stays where it is

absent-later : (l : Lsp) (ks : List Lsp) → AllByRecursion (λ y. IsTrue (lsp_before l y)) ks →
    is_some (find_lsp l ks) ≡ true → ⊥
absent-later l [] before e = cc e
absent-later l (y ∷ ys) before e = go (same_lsp y l) refl e (absent-later l ys before.1)
  where
    go : (b : Bool) → same_lsp y l ≡ b → is_some (cond b (Some y) (find_lsp l ys)) ≡ true →
        (is_some (find_lsp l ys) ≡ true → ⊥) → ⊥
    go true same e later = cc (same, flip l y (before-apart l y before.0))
    go false same e later = later e

-- the list, once an LSP is put that it has
pub put-there : (l : Lsp) (order : List Lsp) → Rise Before order → is_some (find_lsp l order) ≡ true →
    put_by same_lsp lsp_before lsp_at l order ≡ order
put-there l [] rise e = absurd (cc e)
put-there l (k ∷ ks) rise e =
    go (same_lsp k l) refl (lsp_before l k) refl e (put-there l ks rise.1)
  where
    put : List Lsp → List Lsp
    put order = put_by same_lsp lsp_before lsp_at l order

    go : (a : Bool) → same_lsp k l ≡ a → (b : Bool) → lsp_before l k ≡ b →
        is_some (cond a (Some k) (find_lsp l ks)) ≡ true → (is_some (find_lsp l ks) ≡ true → put ks ≡ ks) →
        cond a (l ∷ ks) (cond b (l ∷ k ∷ ks) (k ∷ put ks)) ≡ k ∷ ks
    go true same b d there later = ap (λ x. x ∷ ks) (sym (same_lsp-eq k l same))
    go false same true d there later =
        absurd (absent-later l ks (all-then (λ y. IsTrue (lsp_before k y)) (λ y. IsTrue (lsp_before l y)) ks
        (λ y less. before-before l k y d less) rise.0) there)
    go false same false d there later = ap (λ zs. k ∷ zs) (later there)

module _ (f h : Lsp → Option Leg) (g : Leg) (sets : Sets g.lsp (Some g) f h) where
  abbrev pub put : List Lsp → List Lsp
  put order = put_by same_lsp lsp_before lsp_at g.lsp order

  put-in : (order : List Lsp) → Rise Before order → AllByRecursion (IsListedLeg f) order →
      with_leg g (legs_in f order) ≡ legs_in h (put order)
  put-in [] rise all = sym (ap (λ o. cons_option o []) (set-here f h g.lsp (Some g) sets))
  put-in (k ∷ ks) rise all =
      ap (λ o. with_leg g (cons_option o (legs_in f ks))) all.0.has
      ∙ ap (λ x. cond (same_lsp x g.lsp) (g ∷ legs_in f ks) (cond (lsp_before g.lsp x) (g ∷ all.0.leg ∷ legs_in f ks)
      (all.0.leg ∷ with_leg g (legs_in f ks)))) all.0.own
      ∙ go (same_lsp k g.lsp) refl (lsp_before g.lsp k) refl (put-in ks rise.1 all.1)
    where
      here : h g.lsp ≡ Some g
      here = set-here f h g.lsp (Some g) sets

      go : (a : Bool) → same_lsp k g.lsp ≡ a → (b : Bool) → lsp_before g.lsp k ≡ b →
          with_leg g (legs_in f ks) ≡ legs_in h (put ks) →
          cond a (g ∷ legs_in f ks) (cond b (g ∷ all.0.leg ∷ legs_in f ks) (all.0.leg ∷ with_leg g (legs_in f ks)))
          ≡ legs_in h (cond a (g.lsp ∷ ks) (cond b (g.lsp ∷ k ∷ ks) (k ∷ put ks)))
      go true e b d rest =
          let later = subst (λ x. AllByRecursion (λ y. IsTrue (lsp_before x y)) ks) (same_lsp-eq k g.lsp e) rise.0 in
          sym (λ i. cons_option (here i) (after-same f h g.lsp (Some g) sets ks later i))
      go false e true d rest =
          let later = all-then (λ y. IsTrue (lsp_before k y)) (λ y. IsTrue (lsp_before g.lsp y)) ks
          (λ y less. before-before g.lsp k y d less) rise.0 in
          sym ((λ i. cons_option (here i) (after-same f h g.lsp (Some g) sets (k ∷ ks) (d, later) i))
          ∙ ap (λ o. g ∷ cons_option o (legs_in f ks)) all.0.has)
      go false e false d rest =
          let kept = set-other f h g.lsp (Some g) sets k (flip k g.lsp e) ∙ all.0.has in
          λ i. cons_option (sym kept i) (rest i)

  put-found : (l : Lsp) (a : Bool) (o : Option Lsp) (p : Lsp) → is_some o ≡ is_some (f l) →
      is_some (cond a (Some p) o) ≡ is_some (cond a (Some g) (f l))
  put-found l true o p e = refl
  put-found l false o p e = e

  put-own : (l : Lsp) (a : Bool) (k : Leg) → same_lsp g.lsp l ≡ a → cond a (Some g) (f l) ≡ Some k →
      (f l ≡ Some k → k.lsp ≡ l) → k.lsp ≡ l
  put-own l true k e is old = let one : g ≡ k = cc in ap (λ x. x.lsp) (sym one) ∙ same_lsp-eq g.lsp l e
  put-own l false k e is old = old is

  -- the map and the list of its LSPs after a leg was put
  pub put-fits : (order : List Lsp) → LegMapFits f order → KeysRise lsp_before lsp_at (put order) →
      LegMapFits h (put order)
  put-fits order fits rising = record {
    rising = rising;
    just = λ l. ap is_some (find-put lsp_order lsp_at g.lsp order l)
        ∙ put-found l (same_lsp g.lsp l) (find_lsp l order) g.lsp (fits.just l) ∙ sym (ap is_some (sets l));
    own = λ l k e. put-own l (same_lsp g.lsp l) k refl (sym (sets l) ∙ e) (fits.own l k);
  }

  pub put-legs : (order : List Lsp) → LegMapFits f order → legs_in h (put order) ≡ with_leg g (legs_in f order)
  put-legs order fits = sym (put-in order (pairs-rise Before order fits.rising) (each-there f order fits))

  there-in : (old : Leg) (order : List Lsp) → LegMapFits f order → Some old ≡ f g.lsp → put order ≡ order
  there-in old order fits is =
      put-there g.lsp order (pairs-rise Before order fits.rising) (fits.just g.lsp ∙ ap is_some (sym is))

  -- the same where the LSP had a leg: the list is as it was
  pub set-fits : (old : Leg) (order : List Lsp) → LegMapFits f order → Some old ≡ f g.lsp → LegMapFits h order
  set-fits old order fits is =
      let same = there-in old order fits is in
      subst (LegMapFits h) same (put-fits order fits (subst (KeysRise lsp_before lsp_at) (sym same) fits.rising))

  pub set-legs : (old : Leg) (order : List Lsp) → LegMapFits f order → Some old ≡ f g.lsp →
      legs_in h order ≡ with_leg g (legs_in f order)
  set-legs old order fits is = ap (legs_in h) (sym (there-in old order fits is)) ∙ put-legs order fits

module _ (f h : Lsp → Option Leg) (l : Lsp) (sets : Sets l None f h) where
  take-in : (order : List Lsp) → AllByRecursion (IsListedLeg f) order →
      without_leg l (legs_in f order) ≡ legs_in h (filter (λ x. not (same_lsp x l)) order)
  take-in [] all = refl
  take-in (k ∷ ks) all =
      ap (λ o. without_leg l (cons_option o (legs_in f ks))) all.0.has
      ∙ ap (λ x. cond (not (same_lsp x l)) (all.0.leg ∷ without_leg l (legs_in f ks)) (without_leg l (legs_in f ks)))
      all.0.own ∙ go (same_lsp k l) refl (take-in ks all.1)
    where
      go : (b : Bool) → same_lsp k l ≡ b →
          without_leg l (legs_in f ks) ≡ legs_in h (filter (λ x. not (same_lsp x l)) ks) →
          cond (not b) (all.0.leg ∷ without_leg l (legs_in f ks)) (without_leg l (legs_in f ks))
          ≡ legs_in h (cond (not b) (k ∷ filter (λ x. not (same_lsp x l)) ks) (filter (λ x. not (same_lsp x l)) ks))
      go true e rest = rest
      go false e rest =
          let kept = set-other f h l None sets k (flip k l e) ∙ all.0.has in
          λ i. cons_option (sym kept i) (rest i)

  take-found : (m : Lsp) (a : Bool) (o : Option Lsp) → is_some o ≡ is_some (f m) →
      is_some (cond a None o) ≡ is_some (cond a None (f m))
  take-found m true o e = refl
  take-found m false o e = e

  take-own : (m : Lsp) (a : Bool) (k : Leg) → cond a None (f m) ≡ Some k → (f m ≡ Some k → k.lsp ≡ m) → k.lsp ≡ m
  take-own m true k is old = absurd (cc is)
  take-own m false k is old = old is

  pub take-fits : (order : List Lsp) → LegMapFits f order →
      LegMapFits h (filter (λ x. not (has_key same_lsp lsp_at l x)) order)
  take-fits order fits = record {
    rising = left_rises lsp_before lsp_at (λ x. not (same_lsp x l)) order fits.rising;
    just = λ m. ap is_some (find-without lsp_order lsp_at l order m)
        ∙ take-found m (same_lsp l m) (find_lsp m order) (fits.just m) ∙ sym (ap is_some (sets m));
    own = λ m k e. take-own m (same_lsp l m) k (sym (sets m) ∙ e) (fits.own m k);
  }

  pub take-legs : (order : List Lsp) → LegMapFits f order →
      legs_in h (filter (λ x. not (has_key same_lsp lsp_at l x)) order) ≡ without_leg l (legs_in f order)
  take-legs order fits = sym (take-in order (each-there f order fits))
