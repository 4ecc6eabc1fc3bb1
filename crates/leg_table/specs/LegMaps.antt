-- Legs in a hash map by LSP, in any order, and beside it the LSPs in order: contracts see the legs in order of LSP, and
-- how many more there is room for.
use Rattle.std.specs.{Prelude.{◌≡◌, ℕ, List, Option, Some, find, is_some}, List.filter_map}
use Rattle.ason_base.specs.{Lsps.{lsp_before, same_lsp}, declared.ids.Lsp.Lsp, declared.tables.Leg.Leg}
use Rattle.leg_table.specs.Keyed.{KeysRise, has_key}

pub record LegSet : Type 0 where
  pub legs : List Leg
  pub room : ℕ

-- an LSP in the list is its own key
abbrev pub lsp_at : Lsp → Lsp
lsp_at l = l

-- the place of this LSP
abbrev pub find_lsp : Lsp → List Lsp → Option Lsp
find_lsp l order = find (has_key same_lsp lsp_at l) order

-- what the map has of each LSP, in this order
abbrev pub legs_in : (Lsp → Option Leg) → List Lsp → List Leg
legs_in f order = filter_map f order

-- The LSPs rise, each has a leg in the map and no other has one, and each leg stands under its own LSP.
pub record LegMapFits (f : Lsp → Option Leg) (order : List Lsp) : Type 0 where
  pub rising : KeysRise lsp_before lsp_at order
  pub just : (l : Lsp) → is_some (find_lsp l order) ≡ is_some (f l)
  pub own : (l : Lsp) (g : Leg) → f l ≡ Some g → g.lsp ≡ l
