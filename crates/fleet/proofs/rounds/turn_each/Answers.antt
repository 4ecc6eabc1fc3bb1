use Rattle.std.proofs.Common.{◌≡◌, arith}
use Rattle.round_rules.specs.States.{StationState}
use Rattle.fleet.specs.Turning.{MakesTurns}
use Rattle.fleet.proofs.{Places.zip-by-index, Unwatched.same-publishers}
use Rattle.fleet.proofs.rounds.turn_each.Goals as goal

pub returns-clause-turned : goal.returns-clause-turned
returns-clause-turned g c =
    zip-by-index (MakesTurns c.args.stride) c.args.stations.now c.loop-place.stations c.loop-place.auto.stations
    (λ k d below.
    (c.loop-place.invariant.1 k d (omega (arith, below, c.loop-place-test.false, c.loop-place.auto.place-end))).0)

pub returns-clause-publishers : goal.returns-clause-publishers
returns-clause-publishers g c =
    same-publishers c.args.stations.now c.loop-place.stations
    (zip-by-index (λ (x y : StationState). y.publisher ≡ x.publisher) c.args.stations.now c.loop-place.stations
    c.loop-place.auto.stations
    (λ k d below.
    (c.loop-place.invariant.1 k d (omega (arith, below, c.loop-place-test.false, c.loop-place.auto.place-end))).1))
