use Rattle.std.proofs.{Common.{◌≡◌, get_or, sym, ap, ◌∙◌}, lemmas.Option.slice_get-get_or}
use Rattle.round_rules.specs.States.{StationState}
use Rattle.fleet.specs.Looks.{IsAround, has_used_link}
use Rattle.fleet.proofs.{KeptSeats.{seated-read, seated-within}, Places.{map-back, set-there}, Rewired.turn-connected, Settled.{over-settled, settled-around, settled-unused}}
use Rattle.fleet.proofs.rounds.turn_at.Goals as goal

pub bounds-stations-place : goal.bounds-stations-place
bounds-stations-place g c =
    seated-within c.args.seats.now c.args.stations.now c.args.place c.requires.settled c.requires.within

pub look_after-requires-clause-seats : goal.look_after-requires-clause-seats
look_after-requires-clause-seats g c = (
  c.requires.settled.0,
  turn-connected c.requires.settled.0 c.args.seats.now c.args.stations.now c.args.place c.args.stride
      (get_or c.args.stations.now c.args.place c.index-stations-place.result) c.turn_one-fault.new.station
      c.requires.settled.1.connected
      (seated-read c.args.seats.now c.args.stations.now c.args.place c.index-stations-place.result
      c.requires.settled c.requires.within) c.turn_one-fault.ensures.turns,
)

pub look_after-requires-clause-settled : goal.look_after-requires-clause-settled
look_after-requires-clause-settled g c s at none =
    let x = get_or c.args.stations.now c.args.place c.index-stations-place.result in
    let y = c.turn_one-fault.new.station in
    let seated =
    seated-read c.args.seats.now c.args.stations.now c.args.place c.index-stations-place.result c.requires.settled
    c.requires.within in
    let same : s ≡ y = cc (at, set-there c.args.stations.now c.args.place x y seated) in
    settled-unused c.args.seats.now c.args.stations.now c.args.place c.args.stride x y c.requires.settled seated
    c.turn_one-fault.ensures.turns (ap has_used_link (sym same) ∙ none)

pub returns-clause-turns : goal.returns-clause-turns
returns-clause-turns g c = record {
  looked = c.args.stations.now;
  first = over-settled c.args.seats.now c.args.stations.now c.requires.settled (IsAround c.args.place);
  before = get_or c.args.stations.now c.args.place c.index-stations-place.result;
  after = c.turn_one-fault.new.station;
  there =
      seated-read c.args.seats.now c.args.stations.now c.args.place c.index-stations-place.result
      c.requires.settled c.requires.within;
  turns = c.turn_one-fault.ensures.turns;
  second = c.look_after.ensures.looks;
  seat = get_or c.args.seats.now c.args.place c.index-seats-place.result;
  seated = slice_get-get_or c.args.seats.now c.args.place c.index-seats-place.result c.requires.within;
  answers = c.turn_one-fault.ensures.fault;
}

pub returns-clause-settled : goal.returns-clause-settled
returns-clause-settled g c =
    settled-around c.args.seats.now c.args.stations.now c.args.place c.args.stride
    (get_or c.args.stations.now c.args.place c.index-stations-place.result) c.turn_one-fault.new.station
    c.requires.settled
    (seated-read c.args.seats.now c.args.stations.now c.args.place c.index-stations-place.result c.requires.settled
    c.requires.within) c.turn_one-fault.ensures.turns c.look_after.new.stations c.look_after.ensures.looks

pub returns-clause-publishers : goal.returns-clause-publishers
returns-clause-publishers g c =
    c.look_after.ensures.publishers
    ∙ map-back (λ (s : StationState). s.publisher) c.args.stations.now c.args.place
    (get_or c.args.stations.now c.args.place c.index-stations-place.result) c.turn_one-fault.new.station
    (seated-read c.args.seats.now c.args.stations.now c.args.place c.index-stations-place.result c.requires.settled
    c.requires.within) c.turn_one-fault.ensures.publisher
