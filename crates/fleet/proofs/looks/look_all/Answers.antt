use Rattle.std.proofs.Common.{refl, ◌∙◌, arith}
use Rattle.fleet.specs.Looks.{IsNodeBefore}
use Rattle.fleet.proofs.{Around.{no-node, over-all, over-node, over-none}, Settled.settled-all}
use Rattle.fleet.proofs.looks.look_all.Goals as goal

pub loop-place-init : goal.loop-place-init
loop-place-init c = record {
  within = omega arith;
  seats = c.requires;
  looks = over-none c.args.seats.now c.args.stations.now (IsNodeBefore 0) no-node;
  publishers = refl;
}

pub loop-place-preserved : goal.loop-place-preserved
loop-place-preserved c = record {
  within = omega (arith, c.loop-place-test.true);
  seats = c.look_around.ensures.seats;
  looks =
      over-node c.args.seats.now c.args.stations.now c.loop-place.stations c.look_around.new.stations
      c.loop-place.place c.loop-place.invariant.looks c.look_around.ensures.looks;
  publishers = c.look_around.ensures.publishers ∙ c.loop-place.invariant.publishers;
}

pub returns-clause-looks : goal.returns-clause-looks
returns-clause-looks c =
    over-all c.args.seats.now c.args.stations.now c.loop-place.stations c.loop-place.place
    (omega (arith, c.loop-place-test.false, c.loop-place.invariant.within)) c.loop-place.invariant.looks

pub returns-clause-settled : goal.returns-clause-settled
returns-clause-settled c =
    settled-all c.args.seats.now c.args.stations.now c.loop-place.stations c.requires (returns-clause-looks c)
