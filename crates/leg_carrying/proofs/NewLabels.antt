-- The label that a leg takes newly.
use Rattle.std.proofs.Common.{◌≡◌, ◌-◌, ℕ, suc, Bool, true, false, cond, length, List, [], ◌∷◌, inl, inr, refl, sym, ap, subst, ◌∙◌, arith}
use Rattle.std.specs.Prelude.{◌⊎◌, Option, Some, None, slice_get}
use Rattle.ason_base.specs.{Lsps.same_lsp, declared.ids.Fibre.Fibre, declared.ids.Lsp.Lsp, declared.tables.Leg.Leg}
use Rattle.mesh_rules.specs.{Legs.{find_leg, takes, with_leg, without_leg}, LocalNodes.LocalNode, declared.changes.LegChange.LegChange, declared.changes.LegChange.TheVariants.{Goes, Put}}
use Rattle.mesh_nodes.proofs.LegList.{find-with_leg, find-without_leg, found-lsp}
use Rattle.leg_table.specs.{Edits.leg_put, declared.labels.TakenLabel.TakenLabel, LegClaims.{MayFollow, MayTakeLabel, TakesNoMore, TakesOneMore, Took, is_this, takes_of}, TakenLabels.{taken_back, taken_in}}
use Rattle.leg_table.proofs.TakenLabels.{back-takes, in-takes, takes-either}
use Rattle.leg_carrying.proofs.GivenLegs.{this-to}
use Rattle.leg_carrying.specs.LegHolds.{TakeNoMore, first_of, fresh_of, last_put, new_label}

-- Fresh labels

fresh-is : (before : Option Leg) (o : Option TakenLabel) (t : TakenLabel) → fresh_of before o ≡ Some t →
    (o ≡ Some t) × (takes_of t.fibre t.label before ≡ false)
fresh-is before None t e = absurd (cc e)
fresh-is before (Some s) t e = go (takes_of s.fibre s.label before) refl e
  where
    go : (b : Bool) → takes_of s.fibre s.label before ≡ b → cond b None (Some s) ≡ Some t →
        (Some s ≡ Some t) × (takes_of t.fibre t.label before ≡ false)
    go true is e = absurd (cc e)
    go false is e =
        let same : s ≡ t = cc e in (ap Some same, subst (λ u. takes_of u.fibre u.label before ≡ false) same is)

fresh-none : (before : Option Leg) (t : TakenLabel) → takes_of t.fibre t.label before ≡ false →
    fresh_of before (Some t) ≡ Some t
fresh-none before t e = rw e refl

first-is : (a b : Option TakenLabel) (t : TakenLabel) → first_of a b ≡ Some t → (a ≡ Some t) ⊎ (b ≡ Some t)
first-is None b t e = inr e
first-is (Some s) b t e = inl e

module _ (before : Option Leg) (g : Leg) (t : TakenLabel) (new : new_label before g ≡ Some t) where
  either-new : (fresh_of before (taken_in g) ≡ Some t) ⊎ (fresh_of before (taken_back g) ≡ Some t)
  either-new = first-is (fresh_of before (taken_in g)) (fresh_of before (taken_back g)) t new

  -- the leg takes it
  pub new-takes : takes t.fibre t.label g ≡ true
  new-takes = go either-new
    where
      go : (fresh_of before (taken_in g) ≡ Some t) ⊎ (fresh_of before (taken_back g) ≡ Some t) →
          takes t.fibre t.label g ≡ true
      go (inl e) = in-takes g t (fresh-is before (taken_in g) t e).0
      go (inr e) = back-takes g t (fresh-is before (taken_back g) t e).0

  -- and the one before doesn't
  pub new-fresh : takes_of t.fibre t.label before ≡ false
  new-fresh = go either-new
    where
      go : (fresh_of before (taken_in g) ≡ Some t) ⊎ (fresh_of before (taken_back g) ≡ Some t) →
          takes_of t.fibre t.label before ≡ false
      go (inl e) = (fresh-is before (taken_in g) t e).1
      go (inr e) = (fresh-is before (taken_back g) t e).1

-- there is one where the leg takes one that the one before doesn't
none-new : (before : Option Leg) (g : Leg) (f : Fibre) (x : ℕ) → new_label before g ≡ None → takes f x g ≡ true →
    takes_of f x before ≡ false → ⊥
none-new before g f x none t fresh = go (takes-either g f x t)
  where
    first : (a b : Option TakenLabel) → a ≡ Some (record { fibre = f; label = x }) → first_of a b ≡ None → ⊥
    first None b e is = cc e
    first (Some s) b e is = cc is

    second : (a b : Option TakenLabel) → b ≡ Some (record { fibre = f; label = x }) → first_of a b ≡ None → ⊥
    second None b e is = cc (e, is)
    second (Some s) b e is = cc is

    fresh-here : (o : Option TakenLabel) → o ≡ Some (record { fibre = f; label = x }) →
        fresh_of before o ≡ Some (record { fibre = f; label = x })
    fresh-here o e = ap (fresh_of before) e ∙ fresh-none before (record { fibre = f; label = x }) fresh

    go : (taken_in g ≡ Some (record { fibre = f; label = x })) ⊎ (taken_back g ≡ Some (record { fibre = f; label = x })) → ⊥
    go (inl e) =
        first (fresh_of before (taken_in g)) (fresh_of before (taken_back g)) (fresh-here (taken_in g) e) none
    go (inr e) =
        second (fresh_of before (taken_in g)) (fresh_of before (taken_back g)) (fresh-here (taken_back g) e) none

-- Legs that take no more than those that were read

-- a label that the LSP's leg took is none that it didn't take
pub took-not : (legs : List Leg) (g : Leg) (f : Fibre) (x : ℕ) → Took legs g f x →
    takes_of f x (find_leg g.lsp legs) ≡ false → ⊥
took-not legs g f x took fresh =
    let t : takes_of f x (find_leg g.lsp legs) ≡ true = ap (takes_of f x) took.there ∙ took.took in
    cc (t, fresh)

-- a leg that takes just what its LSP's leg took, which took no more than the one that was read
pub took-read : (read legs : List Leg) → TakeNoMore read legs → (g : Leg) (f : Fibre) (x : ℕ) → Took legs g f x →
    Took read g f x
took-read read legs less g f x took =
    let lsp : took.before.lsp ≡ g.lsp = found-lsp g.lsp legs took.before took.there in
    let old : Took read took.before f x = less g.lsp took.before took.there f x took.took in
    record {
      before = old.before;
      there = subst (λ l. find_leg l read ≡ Some old.before) lsp old.there;
      role = old.role ∙ took.role;
      risks = old.risks ∙ took.risks;
      took = old.took;
    }

pub less-start : (legs : List Leg) → TakeNoMore legs legs
less-start legs l g found f x t = record {
  before = g;
  there = subst (λ k. find_leg k legs ≡ Some g) (sym (found-lsp l legs g found)) found;
  role = refl;
  risks = refl;
  took = t;
}

pub less-goes : (read legs : List Leg) (l : Lsp) → TakeNoMore read legs → TakeNoMore read (without_leg l legs)
less-goes read legs l less m g found = go (same_lsp l m) (sym (find-without_leg l legs m) ∙ found)
  where
    go : (b : Bool) → cond b None (find_leg m legs) ≡ Some g → TakesNoMore read g
    go true e = absurd (cc e)
    go false e = less m g e

pub less-put : (read legs : List Leg) (g : Leg) → TakeNoMore read legs → TakesNoMore legs g →
    TakeNoMore read (with_leg g legs)
less-put read legs g less none m h found = go (same_lsp g.lsp m) (sym (find-with_leg g legs m) ∙ found)
  where
    go : (b : Bool) → cond b (Some g) (find_leg m legs) ≡ Some h → TakesNoMore read h
    go true e =
        let is : g ≡ h = cc e in
        subst (TakesNoMore read) is (λ f x t. took-read read legs less g f x (none f x t))
    go false e = less m h e

-- a leg that takes no more takes none newly
pub no-new : (read legs : List Leg) (g : Leg) (t : TakenLabel) → TakeNoMore read legs → TakesNoMore legs g →
    new_label (find_leg g.lsp read) g ≡ Some t → ⊥
no-new read legs g t less none new =
    took-not read g t.fibre t.label
    (took-read read legs less g t.fibre t.label (none t.fibre t.label (new-takes (find_leg g.lsp read) g t new)))
    (new-fresh (find_leg g.lsp read) g t new)

-- one that takes one more takes that one newly
pub one-new : (p : LocalNode) (read legs : List Leg) (g : Leg) → TakeNoMore read legs →
    (more : TakesOneMore p read legs g) → new_label (find_leg g.lsp read) g ≡ Some more.label
one-new p read legs g less more = go (new_label (find_leg g.lsp read) g) refl
  where
    go : (o : Option TakenLabel) → new_label (find_leg g.lsp read) g ≡ o → o ≡ Some more.label
    go None e =
        absurd (none-new (find_leg g.lsp read) g more.label.fibre more.label.label e more.new more.may.fresh)
    go (Some t) e = is (more.rest t.fibre t.label (new-takes (find_leg g.lsp read) g t e))
      where
        is : (is_this more.label t.fibre t.label ≡ true) ⊎ Took legs g t.fibre t.label → Some t ≡ Some more.label
        is (inl e) = this-to (λ f x. Some (record { fibre = f; label = x }) ≡ Some more.label) more.label t.fibre t.label e refl
        is (inr took) =
            absurd (took-not read g t.fibre t.label (took-read read legs less g t.fibre t.label took)
            (new-fresh (find_leg g.lsp read) g t e))

-- so the leg that the last change puts may take it
pub new-may : (p : LocalNode) (read legs : List Leg) (cs : List LegChange) (g : Leg) (t : TakenLabel) →
    TakeNoMore read legs → MayFollow p read legs cs → last_put cs ≡ Some g →
    new_label (find_leg g.lsp read) g ≡ Some t → MayTakeLabel p read g t
new-may p read legs [] g t less may last new = absurd (cc last)
new-may p read legs (Goes l ∷ []) g t less may last new = absurd (cc last)
new-may p read legs (Put h ∷ []) g t less may last new =
    let is : h ≡ g = cc last in
    subst (λ k. (new_label (find_leg k.lsp read) k ≡ Some t) → MayTakeLabel p read k t) is (go may.0) new
  where
    go : TakesNoMore legs h ⊎ TakesOneMore p read legs h → new_label (find_leg h.lsp read) h ≡ Some t → MayTakeLabel p read h t
    go (inl none) new = absurd (no-new read legs h t less none new)
    go (inr more) new =
        let is : more.label ≡ t = some (sym (one-new p read legs h less more) ∙ new) in
        subst (MayTakeLabel p read h) is more.may
      where
        some : {a b : TakenLabel} → Some a ≡ Some b → a ≡ b
        some e = cc
new-may p read legs (Goes l ∷ (c ∷ cs)) g t less may last new =
    new-may p read (without_leg l legs) (c ∷ cs) g t (less-goes read legs l less) may last new
new-may p read legs (Put h ∷ (c ∷ cs)) g t less may last new =
    new-may p read (with_leg h legs) (c ∷ cs) g t (less-put read legs h less may.0) may.1 last new

-- The last change

pub last-get : (cs : List LegChange) (c : LegChange) → slice_get cs (length cs - 1) ≡ Some c → last_put cs ≡ leg_put c
last-get [] c e = absurd (cc e)
last-get (d ∷ []) c e = let is : d ≡ c = cc e in ap leg_put is
last-get (d ∷ (b ∷ cs)) c e = last-get (b ∷ cs) c (sym (ap (slice_get (d ∷ (b ∷ cs))) here) ∙ e)
  where
    here : length (d ∷ (b ∷ cs)) - 1 ≡ suc (length (b ∷ cs) - 1)
    here = omega arith
