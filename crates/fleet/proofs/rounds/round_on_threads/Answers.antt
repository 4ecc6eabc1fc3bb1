use Rattle.std.proofs.Common.{◌≤◌, sym, ◌∙◌, subst}
use Rattle.fleet.specs.Turning.{line_count}
use Rattle.fleet.proofs.{Fitting.few-stations, Rewired.turned-connected, Threaded.{rounds-count, rounds-fault, rounds-more}}
use Rattle.fleet.proofs.rounds.round_on_threads.Goals as goal

pub line_count-before-requires : goal.line_count-before-requires
line_count-before-requires g c = few-stations c.args.seats.now c.args.stations.now c.requires.settled

pub look_all-requires : goal.look_all-requires
look_all-requires g c = (
  c.requires.settled.0,
  turned-connected c.requires.settled.0 c.args.seats.now c.args.stride c.args.stations.now c.turn_all.new.stations
      c.requires.settled.1.connected c.turn_all.ensures.turned,
)

pub line_count-requires : goal.line_count-requires
line_count-requires g c = few-stations c.args.seats.now c.look_all.new.stations c.look_all.ensures.settled

pub overflow_sub-result : goal.overflow_sub-result
overflow_sub-result g c =
    let more =
    rounds-more c.args.seats.now c.args.stations.now c.turn_all.new.stations c.look_all.new.stations c.args.stride
    c.round_laws.ensures c.requires.settled c.turn_all.ensures.turned c.look_all.ensures.looks c.in-None.ensures in
    subst (λ k. k ≤ c.line_count.result) (sym c.line_count-before.ensures)
    (subst (λ k. line_count c.args.stations.now ≤ k) (sym c.line_count.ensures) more)

pub returns-in-Some-clause-rounds : goal.returns-in-Some-clause-rounds
returns-in-Some-clause-rounds g c =
    rounds-fault c.args.seats.now c.args.stations.now c.turn_all.new.stations c.look_all.new.stations c.args.stride
    c.round_laws.ensures c.requires.settled c.turn_all.ensures.turned c.look_all.ensures.looks c.args.workers
    c.requires.workers c.in-Some.fault c.in-Some.ensures

pub returns-in-None-clause-rounds : goal.returns-in-None-clause-rounds
returns-in-None-clause-rounds g c =
    rounds-count c.args.seats.now c.args.stations.now c.turn_all.new.stations c.look_all.new.stations c.args.stride
    c.round_laws.ensures c.requires.settled c.turn_all.ensures.turned c.look_all.ensures.looks c.args.workers
    c.requires.workers c.in-None.ensures c.line_count.result c.line_count-before.result c.line_count.ensures
    c.line_count-before.ensures

pub returns-in-Some-clause-publishers : goal.returns-in-Some-clause-publishers
returns-in-Some-clause-publishers g c = c.look_all.ensures.publishers ∙ c.turn_all.ensures.publishers

pub returns-in-None-clause-publishers : goal.returns-in-None-clause-publishers
returns-in-None-clause-publishers g c = c.look_all.ensures.publishers ∙ c.turn_all.ensures.publishers
