-- Marks of a leg at the owner of a node's labels: on each label that it uses, as long as it is marked.
use Rattle.std.specs.Prelude.{ℕ, ◌≡◌, ◌&&◌, ◌||◌, Bool, true, false, not, List, Option, Some, None, if◌then◌else◌}
use Rattle.ason_base.specs.{Lsps.{is_lsp, same_lsp}, declared.ids.Fibre.Fibre, declared.ids.Lsp.Lsp, declared.tables.Leg.Leg}
use Rattle.link_owner.specs.{Marks.{FibreMarks, has_fibre_marks, is_lit, lit}, Owners.OwnerState}
use Rattle.mesh_rules.specs.Legs.{reverse_of}

-- One label: whose mark is there, once that of the LSP was cleared, or set, where it was to be

abbrev pub darkened : Lsp → Bool → Option Lsp → Option Lsp
darkened l on m = if on && is_lsp m l then None else m

abbrev pub lighted : Lsp → Bool → Option Lsp → Option Lsp
lighted l on m = if on then Some l else m

-- Some labels

-- the LSP's marks on these labels are cleared, all else is as it was
pub record Darkens (l : Lsp) (on : Fibre → ℕ → Bool) (before after : OwnerState) : Type 0 where
  pub claims : after.claims ≡ before.claims
  pub fibres : (f : Fibre) → has_fibre_marks after.marks f ≡ has_fibre_marks before.marks f
  pub lit : (f : Fibre) (x : ℕ) → lit after.marks f x ≡ darkened l (on f x) (lit before.marks f x)

-- these labels have the LSP's marks, all else is as it was
pub record Lights (l : Lsp) (on : Fibre → ℕ → Bool) (before after : OwnerState) : Type 0 where
  pub claims : after.claims ≡ before.claims
  pub fibres : (f : Fibre) → has_fibre_marks after.marks f ≡ has_fibre_marks before.marks f
  pub lit : (f : Fibre) (x : ℕ) → lit after.marks f x ≡ lighted l (on f x) (lit before.marks f x)

-- these labels are of the node's fibres
abbrev pub AreThere : List FibreMarks → (Fibre → ℕ → Bool) → Type 0
AreThere marks on = (f : Fibre) (x : ℕ) → on f x ≡ true → has_fibre_marks marks f ≡ true

-- no other LSP's mark is on them
abbrev pub AreOpen : List FibreMarks → Lsp → (Fibre → ℕ → Bool) → Type 0
AreOpen marks l on = (f : Fibre) (x : ℕ) (m : Lsp) → on f x ≡ true → is_lit marks f x m ≡ true → same_lsp m l ≡ true

-- The labels that a leg uses

abbrev pub is_other : Lsp → Option Lsp → Bool
is_other l None = false
is_other l (Some k) = not (same_lsp k l)

-- another LSP's mark is on the label, if there is one
abbrev pub is_lit_at : List FibreMarks → Lsp → Option Fibre → Option ℕ → Bool
is_lit_at marks l None x = false
is_lit_at marks l (Some f) None = false
is_lit_at marks l (Some f) (Some x) = is_other l (lit marks f x)

-- another LSP's mark is on a label that the leg uses
abbrev pub is_lit_over : List FibreMarks → Leg → Bool
is_lit_over marks g =
    is_lit_at marks g.lsp g.in_fibre g.in_label
    || (is_lit_at marks g.lsp (reverse_of g.out_fibre) g.back_in
    || (is_lit_at marks g.lsp g.out_fibre g.out_label
    || is_lit_at marks g.lsp (reverse_of g.in_fibre) g.back_out))
