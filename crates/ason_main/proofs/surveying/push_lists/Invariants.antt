use Rattle.std.proofs.Common.{◌≡◌, ◌++◌, string_bytes, take}
use Rattle.std.specs.Prelude.{flat_map}
use Rattle.table_text.specs.SurveyText.{contend_line}
use Rattle.ason_main.proofs.surveying.push_lists.Given as goal

abbrev pub invariant-loop-place : goal.invariant-loop-place
invariant-loop-place l =
    string_bytes l.text
    ≡ string_bytes l.initial.text
    ++ flat_map (contend_line l.plan) (flat_map (λ list. list) (take l.place l.contends))
