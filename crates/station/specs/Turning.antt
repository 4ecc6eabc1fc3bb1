-- What a turn answers.
use Rattle.std.specs.Prelude.{◌-◌, ◌==◌, ℕ, Result, Ok, Err, if◌then◌else◌}
use Rattle.round_rules.specs.declared.turns.Turn.{Turn}
use Rattle.round_rules.specs.declared.turns.Turn.TheVariants as turn
use Rattle.station.specs.declared.halts.Halt.{Halt}
use Rattle.station.specs.declared.halts.Halt.TheVariants as halt

-- of a turn that came to its end: how many lines the log has more
abbrev pub worked : ℕ → ℕ → Turn
worked before after = if before == after then turn.Idle else turn.Worked (after - before)

abbrev pub answer_of : Result (Unit {0}) Halt → ℕ → ℕ → Turn
answer_of (Ok x) before after = worked before after
answer_of (Err halt.AtLimit) before after = turn.AtLimit
answer_of (Err halt.OutOfMemory) before after = turn.Starved
