use Rattle.std.proofs.Common.{◌≡◌, ◌+◌, drop}
use Rattle.std.specs.List.{position_or_len}
use Rattle.fleet.specs.Turning.{was_at_limit}
use Rattle.fleet.proofs.rounds.first_at_limit.Given as goal

abbrev pub invariant-loop-place : goal.invariant-loop-place
invariant-loop-place l =
    position_or_len was_at_limit l.stations ≡ l.place + position_or_len was_at_limit (drop l.place l.stations)
