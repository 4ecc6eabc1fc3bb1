-- A leg that isn't contended uses no label that a marked leg of another LSP uses.
use Rattle.std.proofs.{Common.{◌≡◌, ℕ, Bool, true, false, List, subst, inl, inr}, lemmas.Bool.or_cases}
use Rattle.std.specs.Prelude.{◌||◌, Option, Some}
use Rattle.ason_base.specs.{declared.ids.Fibre.Fibre, declared.ids.Lsp.Lsp, declared.tables.Leg.Leg}
use Rattle.ason_base.proofs.Bools.{neither-left}
use Rattle.mesh_rules.specs.Legs.{is_at, is_busy, is_busy_at, is_contended, reverse_of, sends_label, takes, uses}
use Rattle.mesh_nodes.proofs.{Cases.neither_right, LabelPlaces.at-is}

-- what a leg uses is one of its four labels
pub used-at : (P : Type 0) (g : Leg) (f : Fibre) (x : ℕ) → uses f x g ≡ true →
    (is_at g.in_fibre g.in_label f x ≡ true → P) → (is_at (reverse_of g.out_fibre) g.back_in f x ≡ true → P) →
    (is_at g.out_fibre g.out_label f x ≡ true → P) → (is_at (reverse_of g.in_fibre) g.back_out f x ≡ true → P) → P
used-at P g f x used enters back_enters leaves back_leaves = elim (or_cases (takes f x g) (sends_label f x g) used) [
  | inl taken ↦ elim (or_cases (is_at g.in_fibre g.in_label f x) (is_at (reverse_of g.out_fibre) g.back_in f x) taken) [
    | inl on ↦ enters on
    | inr on ↦ back_enters on
  ]
  | inr sent ↦ elim (or_cases (is_at g.out_fibre g.out_label f x) (is_at (reverse_of g.in_fibre) g.back_out f x) sent) [
    | inl on ↦ leaves on
    | inr on ↦ back_leaves on
  ]
]

free-at : (legs : List Leg) (l : Lsp) (o : Option Fibre) (label : Option ℕ) (f : Fibre) (x : ℕ) →
    is_at o label f x ≡ true → is_busy_at legs l o label ≡ false → is_busy legs l f x ≡ false
free-at legs l o label f x on free =
    let is = at-is o label f x on in
    subst (λ y. is_busy_at legs l (Some f) y ≡ false) is.1 (subst (λ p. is_busy_at legs l p label ≡ false) is.0 free)

-- no marked leg of another LSP uses a label that the leg uses
pub free-of : (legs : List Leg) (g : Leg) (f : Fibre) (x : ℕ) → is_contended legs g ≡ false → uses f x g ≡ true →
    is_busy legs g.lsp f x ≡ false
free-of legs g f x free used =
    used-at (is_busy legs g.lsp f x ≡ false) g f x used
    (λ on. free-at legs g.lsp g.in_fibre g.in_label f x on (neither-left enters _ free))
    (λ on. free-at legs g.lsp (reverse_of g.out_fibre) g.back_in f x on (neither-left back_enters _ three))
    (λ on. free-at legs g.lsp g.out_fibre g.out_label f x on (neither-left leaves back_leaves two))
    (λ on. free-at legs g.lsp (reverse_of g.in_fibre) g.back_out f x on (neither_right leaves back_leaves two))
  where
    enters : Bool
    enters = is_busy_at legs g.lsp g.in_fibre g.in_label

    back_enters : Bool
    back_enters = is_busy_at legs g.lsp (reverse_of g.out_fibre) g.back_in

    leaves : Bool
    leaves = is_busy_at legs g.lsp g.out_fibre g.out_label

    back_leaves : Bool
    back_leaves = is_busy_at legs g.lsp (reverse_of g.in_fibre) g.back_out

    three : (back_enters || (leaves || back_leaves)) ≡ false
    three = neither_right enters (back_enters || (leaves || back_leaves)) free

    two : (leaves || back_leaves) ≡ false
    two = neither_right back_enters (leaves || back_leaves) three
