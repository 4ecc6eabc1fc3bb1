use Rattle.std.proofs.Common.{take}
use Rattle.std.specs.List.{flat_map}
use Rattle.ason_base.specs.Texts.{Appends}
use Rattle.load_plan.specs.PhaseTexts.{count_text}
use Rattle.load_plan.proofs.phases.push_counts.Given as goal

abbrev pub invariant-loop-state : goal.invariant-loop-state
invariant-loop-state l =
    Appends l.initial.text l.text (flat_map (count_text l.rows) (take l.state-index l.states))
