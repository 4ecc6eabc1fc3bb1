use Rattle.std.proofs.Common.{◌≡◌, List, map, take}
use Rattle.ason_base.specs.declared.calls.LegRow.{LegRow}
use Rattle.survey.specs.{Index.IsLegIndexOf, Views.view_of}
use Rattle.survey.proofs.views.views_in.Given as goal

abbrev pub invariant-loop-call : goal.invariant-loop-call
invariant-loop-call l =
    (legs : List LegRow) → IsLegIndexOf legs l.index → l.views.items ≡ map (view_of legs) (take l.call-index l.calls)
