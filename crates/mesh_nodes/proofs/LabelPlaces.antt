-- Labels at their fibres, and the labels that a leg takes.
use Rattle.std.proofs.{Common.{◌≡◌, ℕ, Bool, true, false, nat_eq, refl, ap, eqb-true}, lemmas.Bool.{or_right, or_left}}
use Rattle.std.specs.Prelude.{◌&&◌, Option, Some, None}
use Rattle.ason_base.specs.{declared.ids.Fibre.Fibre, declared.tables.Leg.Leg, Lsps.same_fibre}
pub use Rattle.ason_base.proofs.LspOrder.{same_fibre-eq, same_fibre-refl}
use Rattle.ason_base.proofs.{Numbers.self-number, Bools.{and-left, and-right}}
use Rattle.mesh_rules.specs.Legs.{is_at, is_on, reverse_of, takes}

-- One of two

-- A label at a fibre

-- it is this label of this fibre
pub at-is : (o : Option Fibre) (label : Option ℕ) (f : Fibre) (x : ℕ) → is_at o label f x ≡ true →
    (o ≡ Some f) × (label ≡ Some x)
at-is None label f x e = absurd (cc e)
at-is (Some g) None f x e = absurd (let none : false ≡ true = and-right (same_fibre g f) false e in cc none)
at-is (Some g) (Some y) f x e = (
  ap Some (same_fibre-eq g f (and-left (same_fibre g f) (nat_eq y x) e)),
  ap Some (eqb-true y x (and-right (same_fibre g f) (nat_eq y x) e)),
)

pub is-at : (o : Option Fibre) (label : Option ℕ) (f : Fibre) (x : ℕ) → o ≡ Some f → label ≡ Some x →
    is_at o label f x ≡ true
is-at o label f x fibre is = rw (fibre, is, same_fibre-refl f) (self-number x)

pub none-at : (o : Option Fibre) (f : Fibre) (x : ℕ) → is_at o None f x ≡ false
none-at o f x = go (is_on o f)
  where
    go : (b : Bool) → (b && false) ≡ false
    go true = refl
    go false = refl

-- What a leg takes

-- it takes its label in
pub label_in-taken : (g : Leg) (f : Fibre) (x : ℕ) → is_at g.in_fibre g.in_label f x ≡ true → takes f x g ≡ true
label_in-taken g f x e =
    or_left (is_at g.in_fibre g.in_label f x) (is_at (reverse_of g.out_fibre) g.back_in f x) e

-- it takes its back label in
pub back_in-taken : (g : Leg) (f : Fibre) (x : ℕ) → is_at (reverse_of g.out_fibre) g.back_in f x ≡ true →
    takes f x g ≡ true
back_in-taken g f x e =
    or_right (is_at g.in_fibre g.in_label f x) (is_at (reverse_of g.out_fibre) g.back_in f x) e
