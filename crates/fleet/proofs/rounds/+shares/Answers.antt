use denote.Param.Send.{sendable}
use Rattle.std.proofs.Common.{rules}
use Rattle.station.proofs.Sent.{station-send}
use Rattle.fleet.specs.Turning.{HaveTurned, MakesTurns}
use Rattle.fleet.proofs.Places.{zip-append}
use Rattle.fleet.proofs.rounds.+shares.Goals as goal

pub join_mut-requires-send-F : goal.join_mut-requires-send-F
join_mut-requires-send-F g t c κs within = search (station-send, sendable) depth 12

pub returns-clause-turned : goal.returns-clause-turned
returns-clause-turned g t c =
    let cut = c.split_at_mut-front in
    let front : HaveTurned c.args.stride cut.result.0.now c.front-1.given.0 = search rules in
    let back : HaveTurned c.args.stride cut.result.1.now c.back-1.given.0 = search rules in
    rw cut.ensures.value
    (zip-append (MakesTurns c.args.stride) cut.result.0.now c.front-1.given.0 cut.result.1.now c.back-1.given.0 front
    back)
