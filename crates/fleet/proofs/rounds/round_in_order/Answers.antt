use Rattle.std.proofs.Common.{refl, ◌∙◌, arith}
use Rattle.fleet.proofs.{Fitting.few-stations, OneWorker.{are-all, are-cut, are-next, are-none}}
use Rattle.fleet.proofs.rounds.round_in_order.Goals as goal

pub line_count-before-requires : goal.line_count-before-requires
line_count-before-requires g c = few-stations c.args.seats.now c.args.stations.now c.requires.settled

pub loop-place-init : goal.loop-place-init
loop-place-init g c = record {
  within = omega arith;
  settled = c.requires.settled;
  under = are-none c.args.seats.now c.args.stations.now c.round_laws.ensures;
  publishers = refl;
}

pub returns-in-Some-clause-rounds : goal.returns-in-Some-clause-rounds
returns-in-Some-clause-rounds g c =
    are-cut c.args.seats.now c.args.stations.now c.loop-place.stations c.turn_at.new.stations c.loop-place.place
    c.args.stride c.in-Some.fault c.round_laws.ensures c.loop-place.invariant.under c.in-Some.ensures.turns

pub returns-in-Some-clause-publishers : goal.returns-in-Some-clause-publishers
returns-in-Some-clause-publishers g c = c.turn_at.ensures.publishers ∙ c.loop-place.invariant.publishers

pub loop-place-preserved : goal.loop-place-preserved
loop-place-preserved g c = record {
  within = omega (arith, c.loop-place-test.true);
  settled = c.turn_at.ensures.settled;
  under =
      are-next c.args.seats.now c.args.stations.now c.loop-place.stations c.turn_at.new.stations c.loop-place.place
      c.args.stride c.round_laws.ensures c.loop-place.invariant.settled c.loop-place.invariant.under
      c.in_default.ensures.turns;
  publishers = c.turn_at.ensures.publishers ∙ c.loop-place.invariant.publishers;
}

pub line_count-requires : goal.line_count-requires
line_count-requires g c = few-stations c.args.seats.now c.loop-place.stations c.loop-place.invariant.settled

pub returns-clause-rounds : goal.returns-clause-rounds
returns-clause-rounds g c =
    are-all c.args.seats.now c.args.stations.now c.loop-place.stations c.loop-place.place c.round_laws.ensures
    c.loop-place.invariant.under (omega (arith, c.loop-place-test.false, c.loop-place.invariant.within))
    c.line_count.result c.line_count-before.result c.line_count.ensures c.line_count-before.ensures
