-- The rows of legs by their LSP.
use Rattle.std.specs.{Prelude.{◌≡◌, ◌++◌, List, [], ◌∷◌, filter, Option, Some, None, if◌then◌else◌}, BTreeMap.{BTreeMap, get}, Ordering.{nat_cmp, ordering_then}, declared.cmp.Ordering.Ordering}
use Rattle.ason_base.specs.{Lsps.same_lsp, declared.calls.LegRow.LegRow, declared.ids.Lsp.Lsp}

-- by ingress, tunnel and number
abbrev pub lsp_order : Lsp → Lsp → Ordering
lsp_order a b =
    ordering_then (nat_cmp a.ingress.0 b.ingress.0) (ordering_then (nat_cmp a.tunnel b.tunnel) (nat_cmp a.lsp b.lsp))

abbrev pub rows_or_none : Option (List LegRow) → List LegRow
rows_or_none None = []
rows_or_none (Some rows) = rows

-- the rows that are kept of this LSP
abbrev pub rows_at : BTreeMap Lsp (List LegRow) → Lsp → List LegRow
rows_at m l = rows_or_none (get lsp_order m l)

-- of each LSP they are its rows, in order
abbrev pub IsLegIndexOf : List LegRow → BTreeMap Lsp (List LegRow) → Type 0
IsLegIndexOf legs m = (l : Lsp) → rows_at m l ≡ filter (λ r. same_lsp l r.lsp) legs

-- the row is kept last of its LSP
abbrev pub AddsRow : LegRow → BTreeMap Lsp (List LegRow) → BTreeMap Lsp (List LegRow) → Type 0
AddsRow row old new = (l : Lsp) → rows_at new l ≡ rows_at old l ++ (if same_lsp l row.lsp then row ∷ [] else [])
