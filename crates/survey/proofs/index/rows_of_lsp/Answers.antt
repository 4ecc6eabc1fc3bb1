use Rattle.std.proofs.Common.{sym, subst, ◌≡◌, []}
use Rattle.std.specs.Prelude.{filter, Option}
use Rattle.ason_base.specs.{Lsps.is_lsp, declared.calls.LegRow.LegRow, declared.ids.Lsp.Lsp}
use Rattle.survey.proofs.Joins.{filter-none}
use Rattle.survey.proofs.index.rows_of_lsp.Goals as goal

pub returns-in-None : goal.returns-in-None
returns-in-None c legs are =
    sym (subst (λ (wanted : Option Lsp). filter (λ (r : LegRow). is_lsp wanted r.lsp) legs ≡ [])
    (sym c.in-None.is) (filter-none legs))
