use Rattle.std.proofs.Common.{◌≡◌, ◌<◌, ◌≤◌, ℕ, get_or}
use Rattle.round_rules.specs.States.{StationState}
use Rattle.fleet.specs.Turning.{MakesTurns}
use Rattle.fleet.proofs.rounds.turn_each.Given as goal

abbrev pub invariant-loop-place : goal.invariant-loop-place
invariant-loop-place g l =
    ((i : ℕ) (d : StationState) → l.place ≤ i → get_or l.stations i d ≡ get_or l.initial.stations i d)
    × ((i : ℕ) (d : StationState) → i < l.place →
    MakesTurns l.stride (get_or l.initial.stations i d) (get_or l.stations i d)
    × ((get_or l.stations i d).publisher ≡ (get_or l.initial.stations i d).publisher))
