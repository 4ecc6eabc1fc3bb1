use Rattle.std.proofs.Common.{ap, arith}
use Rattle.flood.proofs.InPlace.{changed_more}
use Rattle.round_rules.specs.Stands.{parcel_ticked}
use Rattle.station.proofs.ticks.age.Goals as goal

pub loop-place-preserved : goal.loop-place-preserved
loop-place-preserved c = record {
  within = omega arith;
  count = c.loop-place.invariant.count;
  same =
      changed_more parcel_ticked c.args.held.now.items c.loop-place.held.items c.loop-place.place
      c.index_mut.result.now _ (omega (arith, c.loop-place-test.true, c.loop-place.invariant.count))
      c.loop-place.invariant.same (ap parcel_ticked c.index_mut.ensures.value);
}
