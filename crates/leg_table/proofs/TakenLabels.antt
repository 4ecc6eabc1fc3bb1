-- Which labels a leg takes: its label in and its back label in.
use Rattle.std.proofs.{Common.{◌≡◌, ℕ, true, refl, subst, inl, inr}, lemmas.Bool.or_cases}
use Rattle.std.specs.Prelude.{◌⊎◌, Option, Some, None}
use Rattle.ason_base.specs.{declared.ids.Fibre.Fibre, declared.tables.Leg.Leg}
use Rattle.mesh_rules.specs.Legs.{is_at, reverse_of, takes}
use Rattle.mesh_nodes.proofs.LabelPlaces.{at-is, back_in-taken, is-at, label_in-taken}
use Rattle.leg_table.specs.{declared.labels.TakenLabel.TakenLabel, TakenLabels.{taken_back, taken_in, taken_over}}

at-over : (i : Option Fibre) (y : Option ℕ) (f : Fibre) (x : ℕ) → is_at i y f x ≡ true →
    taken_over i y ≡ Some (record { fibre = f; label = x })
at-over i y f x e = let is = at-is i y f x e in rw (is.0, is.1) refl

over-at : (i : Option Fibre) (y : Option ℕ) (t : TakenLabel) → taken_over i y ≡ Some t →
    is_at i y t.fibre t.label ≡ true
over-at None y t e = absurd (cc e)
over-at (Some f) None t e = absurd (cc e)
over-at (Some f) (Some x) t e =
    let is : record { fibre = f; label = x } ≡ t = cc in
    subst (λ u. is_at (Some f) (Some x) u.fibre u.label ≡ true) is (is-at (Some f) (Some x) f x refl refl)

-- a label that a leg takes is one of the two
pub takes-either : (g : Leg) (f : Fibre) (x : ℕ) → takes f x g ≡ true →
    (taken_in g ≡ Some (record { fibre = f; label = x })) ⊎ (taken_back g ≡ Some (record { fibre = f; label = x }))
takes-either g f x e = go (or_cases (is_at g.in_fibre g.in_label f x) _ e)
  where
    go : (is_at g.in_fibre g.in_label f x ≡ true) ⊎ (is_at (reverse_of g.out_fibre) g.back_in f x ≡ true) →
        (taken_in g ≡ Some (record { fibre = f; label = x })) ⊎ (taken_back g ≡ Some (record { fibre = f; label = x }))
    go (inl here) = inl (at-over g.in_fibre g.in_label f x here)
    go (inr here) = inr (at-over (reverse_of g.out_fibre) g.back_in f x here)

-- it takes its label in
pub in-takes : (g : Leg) (t : TakenLabel) → taken_in g ≡ Some t → takes t.fibre t.label g ≡ true
in-takes g t e = label_in-taken g t.fibre t.label (over-at g.in_fibre g.in_label t e)

-- and its back label in
pub back-takes : (g : Leg) (t : TakenLabel) → taken_back g ≡ Some t → takes t.fibre t.label g ≡ true
back-takes g t e = back_in-taken g t.fibre t.label (over-at (reverse_of g.out_fibre) g.back_in t e)
