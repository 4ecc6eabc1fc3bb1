-- LSPs in their order (by ingress, tunnel, number), and fibres.
use Rattle.std.specs.{Prelude.{◌==◌, ◌&&◌, ◌||◌, nat_lt, Bool, true, false, not, List, filter, Option, Some, None}, List.list_any}
use Rattle.ason_base.specs.{declared.ids.Lsp.Lsp, declared.ids.Fibre.Fibre}

abbrev pub same_lsp : Lsp → Lsp → Bool
same_lsp a b = a.ingress.0 == b.ingress.0 && (a.tunnel == b.tunnel && a.lsp == b.lsp)

abbrev pub lsp_before : Lsp → Lsp → Bool
lsp_before a b =
    nat_lt a.ingress.0 b.ingress.0
    || (a.ingress.0 == b.ingress.0 && (nat_lt a.tunnel b.tunnel || (a.tunnel == b.tunnel && nat_lt a.lsp b.lsp)))

abbrev pub is_lsp : Option Lsp → Lsp → Bool
is_lsp None l = false
is_lsp (Some k) l = same_lsp k l

abbrev pub same_bool : Bool → Bool → Bool
same_bool true b = b
same_bool false b = not b

abbrev pub same_fibre : Fibre → Fibre → Bool
same_fibre f g = f.link.0 == g.link.0 && same_bool f.forward g.forward

abbrev pub is_other_fibre : Fibre → Fibre → Bool
is_other_fibre f g = not (same_fibre f g)

abbrev pub has_fibre : List Fibre → Fibre → Bool
has_fibre fibres f = list_any (same_fibre f) fibres

abbrev pub without_fibre : Fibre → List Fibre → List Fibre
without_fibre f fibres = filter (is_other_fibre f) fibres
