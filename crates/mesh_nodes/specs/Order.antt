-- Legs in order of LSP, calls in order of number.
use Rattle.std.specs.Prelude.{◌<◌, List, IsTrue}
use Rattle.ason_base.specs.{declared.calls.CallRow.CallRow, declared.calls.LegRow.LegRow, declared.tables.CallRec.CallRec, declared.tables.Leg.Leg, InOrder.Rise, Lsps.lsp_before}

-- each leg's LSP is before those of all later ones, so each LSP has one leg
abbrev pub LegsRise : List Leg → Type 0
LegsRise legs = Rise (λ g h. IsTrue (lsp_before g.lsp h.lsp)) legs

-- each call's number is below those of all later ones
abbrev pub CallsRise : List CallRec → Type 0
CallsRise calls = Rise (λ c d. c.call.0 < d.call.0) calls

-- the same of what a table shows
abbrev pub LegRowsRise : List LegRow → Type 0
LegRowsRise rows = Rise (λ g h. IsTrue (lsp_before g.lsp h.lsp)) rows

abbrev pub CallRowsRise : List CallRow → Type 0
CallRowsRise rows = Rise (λ c d. c.call.0 < d.call.0) rows
