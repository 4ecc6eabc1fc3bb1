-- Which legs may be put: those that take no more than their LSP's leg, and those that take one label more, which is
-- usable.
use Rattle.std.proofs.{Common.{◌≡◌, ◌∙◌, ℕ, true, false, List, [], ◌∷◌, inl, inr, refl, sym, ap, subst}, lemmas.Bool.or_cases}
use Rattle.std.specs.Prelude.{◌⊎◌, Option, Some, None, IfSome}
use Rattle.ason_base.specs.{Labels.has, declared.calls.Phase.Phase, declared.ids.Fibre.Fibre, declared.ids.Lsp.Lsp, declared.tables.Leg.Leg}
use Rattle.mesh_rules.specs.{declared.changes.LegChange.LegChange, Legs.{closed, connected, find_leg, is_at, leg_of, reverse_of, takes, usable, with_phase}, LocalNodes.LocalNode}
use Rattle.mesh_nodes.proofs.{LabelPlaces.{back_in-taken, is-at, label_in-taken, none-at}, LegList.found-lsp}
use Rattle.leg_table.specs.{LegClaims.{MayBePut, MayTakeLabel, StaysAs, TakesNoMore, TakesOneMore, Took, is_fibre_in, is_this, takes_of}, declared.labels.TakenLabel.TakenLabel}
use Rattle.mesh_nodes.proofs.ClosedLegs.{closed-takes}

-- Legs that take what their LSP's leg does

-- the LSP's leg itself
pub itself : (legs : List Leg) (g : Leg) → find_leg g.lsp legs ≡ Some g → StaysAs legs g
itself legs g there = record { before = g; there = there; role = refl; risks = refl; same = λ f x. refl }

-- the leg that is found of an LSP
pub found-itself : (l : Lsp) (legs : List Leg) (g : Leg) → find_leg l legs ≡ Some g → find_leg g.lsp legs ≡ Some g
found-itself l legs g found = subst (λ k. find_leg k legs ≡ Some g) (sym (found-lsp l legs g found)) found

pub found-stays : (legs : List Leg) (o : Option Lsp) → IfSome (leg_of o legs) (StaysAs legs)
found-stays legs None = tt
found-stays legs (Some l) = go (find_leg l legs) refl
  where
    go : (k : Option Leg) → find_leg l legs ≡ k → IfSome k (StaysAs legs)
    go None found = tt
    go (Some g) found = itself legs g (found-itself l legs g found)

-- in whatever phase
pub phase-stays : (legs : List Leg) (g : Leg) (q : Phase) → StaysAs legs g → StaysAs legs (with_phase q g)
phase-stays legs g q stays = record {
  before = stays.before;
  there = stays.there;
  role = stays.role;
  risks = stays.risks;
  same = stays.same;
}

-- Legs that take no more

-- a leg of the same LSP, role and risks that takes no more than one that stays
less-by : (legs : List Leg) (g h : Leg) → StaysAs legs g → g.lsp ≡ h.lsp → g.role ≡ h.role → g.risks ≡ h.risks →
    ((f : Fibre) (x : ℕ) → takes f x h ≡ true → takes f x g ≡ true) → TakesNoMore legs h
less-by legs g h stays lsp role risks less f x e = record {
  before = stays.before;
  there = subst (λ l. find_leg l legs ≡ Some stays.before) lsp stays.there;
  role = stays.role ∙ role;
  risks = stays.risks ∙ risks;
  took = stays.same f x ∙ less f x e;
}

pub stays-less : (legs : List Leg) (g : Leg) → StaysAs legs g → TakesNoMore legs g
stays-less legs g stays = less-by legs g g stays refl refl refl (λ f x e. e)

-- a leg without a label in takes its back label in alone
only-back : (g : Leg) (f : Fibre) (x : ℕ) → g.in_label ≡ None → takes f x g ≡ true →
    is_at (reverse_of g.out_fibre) g.back_in f x ≡ true
only-back g f x none e = go (or_cases (is_at g.in_fibre g.in_label f x) _ e)
  where
    go : (is_at g.in_fibre g.in_label f x ≡ true) ⊎ (is_at (reverse_of g.out_fibre) g.back_in f x ≡ true) →
        is_at (reverse_of g.out_fibre) g.back_in f x ≡ true
    go (inl at) =
        let never : is_at g.in_fibre g.in_label f x ≡ false =
        ap (λ l. is_at g.in_fibre l f x) none ∙ none-at g.in_fibre f x in
        absurd (cc (never, at))
    go (inr at) = at

-- a torn leg
pub closed-less : (legs : List Leg) (g : Leg) → StaysAs legs g → TakesNoMore legs (closed g)
closed-less legs g stays = less-by legs g (closed g) stays refl refl refl (closed-takes g)

-- a leg that gets its label out, and has none in
pub connected-less : (legs : List Leg) (g : Leg) (y : ℕ) → StaysAs legs g → TakesNoMore legs (connected g None y)
connected-less legs g y stays =
    less-by legs g (connected g None y) stays refl refl refl
    (λ f x e. back_in-taken g f x (only-back (connected g None y) f x refl e))

-- it may be put, whatever follows
pub less-put : (p : LocalNode) (read legs : List Leg) (g : Leg) (cs : List LegChange) → TakesNoMore legs g →
    MayBePut p read legs g cs
less-put p read legs g [] less = inl less
less-put p read legs g (c ∷ cs) less = less

-- Legs that take one label more

module _ (p : LocalNode) (read legs : List Leg) (g : Leg) (f : Fibre) (x : ℕ)
    (may : MayTakeLabel p read g (record { fibre = f; label = x })) where
  abbrev label : TakenLabel
  label = record { fibre = f; label = x }

  here : (o : Option Fibre) (y : Option ℕ) → o ≡ Some f → y ≡ Some x → (h : Fibre) (z : ℕ) → is_at o y h z ≡ true →
      is_this label h z ≡ true
  here o y fibre is h z at = sym (ap (λ o. is_at o y h z) fibre ∙ ap (λ y. is_at (Some f) y h z) is) ∙ at

  -- as its label in
  pub one-in : g.in_fibre ≡ Some f → g.in_label ≡ Some x →
      ((h : Fibre) (z : ℕ) → is_at (reverse_of g.out_fibre) g.back_in h z ≡ true → Took legs g h z) →
      TakesOneMore p read legs g
  one-in fibre is rest = record {
    label = label;
    new = label_in-taken g f x (is-at g.in_fibre g.in_label f x fibre is);
    may = may;
    rest = λ h z e. elim (or_cases (is_at g.in_fibre g.in_label h z) _ e) [
      | inl at ↦ inl (here g.in_fibre g.in_label fibre is h z at)
      | inr at ↦ inr (rest h z at)
    ];
  }

  -- as its back label in, where it has no label in
  pub one-back : g.in_label ≡ None → reverse_of g.out_fibre ≡ Some f → g.back_in ≡ Some x → TakesOneMore p read legs g
  one-back none fibre is = record {
    label = label;
    new = back_in-taken g f x (is-at (reverse_of g.out_fibre) g.back_in f x fibre is);
    may = may;
    rest = λ h z e. inl (here (reverse_of g.out_fibre) g.back_in fibre is h z (only-back g h z none e));
  }

-- a new leg without a label in, whose back label in, if it has one, is usable
pub new-put : (p : LocalNode) (read legs : List Leg) (g : Leg) (f : Fibre) → g.in_label ≡ None →
    reverse_of g.out_fibre ≡ Some f → is_fibre_in p f ≡ true → find_leg g.lsp read ≡ None →
    ((x : ℕ) → g.back_in ≡ Some x → has (usable p read g.role g.risks f) x ≡ true) → MayBePut p read legs g []
new-put p read legs g f none fibre comes absent fits = go g.back_in refl
  where
    go : (o : Option ℕ) → g.back_in ≡ o → MayBePut p read legs g []
    go None is =
        inl (λ h z e.
        let never : is_at (reverse_of g.out_fibre) g.back_in h z ≡ false =
        ap (λ l. is_at (reverse_of g.out_fibre) l h z) is ∙ none-at (reverse_of g.out_fibre) h z in
        absurd (let at = only-back g h z none e in cc (never, at)))
    go (Some x) is =
        inr (one-back p read legs g f x (record {
          fresh = ap (takes_of f x) absent;
          comes_in = comes;
          usable = fits x is;
        }) none fibre is)
