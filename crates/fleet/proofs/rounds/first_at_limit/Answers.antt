use Rattle.std.proofs.Common.{ap, sym, ◌∙◌}
use Rattle.fleet.specs.Turning.{was_at_limit}
use Rattle.fleet.proofs.FirstPlaces.{found-none, found-on, found-there}
use Rattle.fleet.proofs.rounds.first_at_limit.Goals as goal

pub loop-place-preserved : goal.loop-place-preserved
loop-place-preserved c =
    found-on was_at_limit c.args.stations.now c.loop-place.place c.index-stations-place.result c.loop-place-test.true
    (sym (ap was_at_limit c.index-stations-place.is) ∙ sym c.is_at_limit.ensures ∙ c.if-is_at_limit.false)
    c.loop-place.invariant

pub returns-then-is_at_limit : goal.returns-then-is_at_limit
returns-then-is_at_limit c =
    sym (found-there was_at_limit c.args.stations.now c.loop-place.place c.index-stations-place.result
    c.loop-place-test.true
    (sym (ap was_at_limit c.index-stations-place.is) ∙ sym c.is_at_limit.ensures ∙ c.if-is_at_limit.true)
    c.loop-place.invariant)

pub returns : goal.returns
returns c =
    sym (found-none was_at_limit c.args.stations.now c.loop-place.place c.loop-place-test.false c.loop-place.invariant)
