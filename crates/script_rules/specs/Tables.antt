-- The table of a world, and the line of what is unsettled in it.
use Rattle.std.specs.{Prelude.{◌≡◌, ◌↔◌, ◌==◌, ◌||◌, ◌&&◌, ℕ, nat_lt, Bool, List, [], if◌then◌else◌}, List.Sorted.{IsPermutation, IsSortedBy}}
use Rattle.ason_base.specs.{declared.calls.CallRow.CallRow, declared.calls.LegRow.LegRow, declared.calls.TableRows.TableRows, Lsps.{same_lsp, lsp_before}, Network.Network}
use Rattle.mesh_rules.specs.{Machine.Mesh, Rows.{all_call_rows, all_leg_rows}}
use Rattle.world_rules.specs.{Images.IsQuietWorld, Worlds.World}
use Rattle.round_rules.specs.Waiting.{is_world_quiet, items_waiting, rows_waiting, unacked_waiting}
use Rattle.table_text.specs.TableText.{unsettled_text}

-- by number, then by ingress
abbrev pub call_before : CallRow → CallRow → Bool
call_before a b = nat_lt a.call.0 b.call.0 || (a.call.0 == b.call.0 && nat_lt a.ingress.0 b.ingress.0)

-- by LSP, then by node
abbrev pub leg_before : LegRow → LegRow → Bool
leg_before a b = lsp_before a.lsp b.lsp || (same_lsp a.lsp b.lsp && nat_lt a.node.0 b.node.0)

-- the rows of all nodes: calls in order of number and ingress, legs in order of LSP and node
pub record IsTable (t : Network) (s : Mesh) (rows : TableRows) : Type 0 where
  pub same_calls : IsPermutation (all_call_rows t s) rows.calls
  pub calls : IsSortedBy call_before rows.calls
  pub same_legs : IsPermutation (all_leg_rows t s) rows.legs
  pub legs : IsSortedBy leg_before rows.legs

-- the line of what is unsettled, where it isn't quiet: desk items, unacknowledged messages, and rows of links that
-- aren't acknowledged
abbrev pub unsettled_line : Network → World → List ℕ
unsettled_line t w =
    if is_world_quiet t w then [] else unsettled_text (items_waiting t w) (unacked_waiting t w) (rows_waiting t w)

-- what `settle` prints of the world that it leads to: no line just where nothing waits in all this world
pub record IsUnsettledLine (t : Network) (w : World) (text : List ℕ) : Type 0 where
  pub line : text ≡ unsettled_line t w
  pub quiet : (text ≡ []) ↔ IsQuietWorld w
