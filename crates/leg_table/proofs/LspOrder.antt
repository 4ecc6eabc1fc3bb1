-- LSPs that may be none, and the entries of an index.
use Rattle.std.proofs.{Common.{◌≡◌, true, false, refl, arith}, lemmas.Bool.not-true}
use Rattle.std.specs.Prelude.{Option, Some, None}
use Rattle.ason_base.specs.declared.ids.Lsp.{Lsp}
use Rattle.leg_table.specs.{declared.lsp_index.LspOfCall.LspOfCall, LspIndexes.{entry_order, is_before, is_entry, is_entry_from, is_same}}

pub same-sym : (a b : Option Lsp) → is_same a b ≡ is_same b a
same-sym None None = refl
same-sym None (Some b) = refl
same-sym (Some a) None = refl
same-sym (Some a) (Some b) = grind arith

pub entry-eq : (e x : LspOfCall) → is_entry e x ≡ true → x ≡ e
entry-eq e x h = entry_order.one x e h

pub from-not : (e x : LspOfCall) → is_entry_from e x ≡ true → is_before x e ≡ false
from-not e x h = not-true (is_before x e) h
