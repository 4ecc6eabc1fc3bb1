-- With one worker a script is a function.
use Rattle.std.specs.Prelude.{ℕ, zero, suc, List, fold, if◌then◌else◌}
use Rattle.ason_base.specs.Network.{Network}
use Rattle.round_rules.specs.OneWorker.{RoundEnd, one_round}
use Rattle.plan_reader.specs.{declared.lines.Line.Line, declared.lines.Line.TheVariants.{Noise, Post, Settle, Wait, Show}, declared.plan.Plan.Plan}
use Rattle.plan_reader.specs.declared.lines.Line.TheVariants as said
use Rattle.script_rules.specs.{Outputs.script_of, Stages.{Stage, is_settled, is_stopped, new_stage, with_line, with_noise, with_post}}

abbrev pub after_round : Stage → RoundEnd → Stage
after_round s e = record { made = e.made; lines = s.lines; stopped = e.stopped }

-- the round that comes next
abbrev pub round_end : Network → Stage → Stage
round_end t s = after_round s (one_round t s.lines s.made)

abbrev pub settle_end : Network → ℕ → Stage → Stage
settle_end t zero s = s
settle_end t (suc rounds) s = if is_settled t s then s else settle_end t rounds (round_end t s)

abbrev pub wait_end : Network → ℕ → Stage → Stage
wait_end t zero s = s
wait_end t (suc rounds) s = if is_stopped s then s else wait_end t rounds (round_end t s)

-- the last stage that a line makes of this one
abbrev pub line_end : Network → Stage → Line → Stage
line_end t s (Post c) = if is_stopped s then s else with_post t c s
line_end t s (said.Disturb d) = if is_stopped s then s else with_line t d s
line_end t s (Noise u d bytes) = if is_stopped s then s else with_noise u d bytes s
line_end t s (Settle rounds) = settle_end t rounds s
line_end t s (Wait rounds) = wait_end t rounds s
line_end t s Show = s

abbrev pub lines_end : Network → List Line → Stage → Stage
lines_end t lines s = fold (line_end t) s lines

-- the last stage of the plan's script
abbrev pub script_end : Plan → Stage
script_end p = lines_end p.topology (script_of p) new_stage
