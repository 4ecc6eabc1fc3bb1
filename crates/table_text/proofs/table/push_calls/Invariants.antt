use Rattle.std.proofs.Common.{take}
use Rattle.std.specs.List.{flat_map}
use Rattle.table_text.specs.TableText.{call_text}
use Rattle.ason_base.specs.Texts.{Appends}
use Rattle.table_text.proofs.table.push_calls.Given as goal

abbrev pub invariant-loop-call : goal.invariant-loop-call
invariant-loop-call l =
    Appends l.initial.text l.text (flat_map (call_text l.plan) (take l.call-index l.calls))
