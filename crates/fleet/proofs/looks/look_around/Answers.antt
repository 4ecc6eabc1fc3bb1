use Rattle.std.proofs.{Common.{◌≡◌, ◌<◌, ℕ, get_or, length, refl, ap, ◌∙◌, subst, arith}, lemmas.Option.get_or_from_slice_get}
use Rattle.fleet.specs.{declared.seats.Seat.Seat, Looks.IsLinkBefore}
use Rattle.fleet.proofs.Around.{no-link, over-around, over-link, over-none}
use Rattle.fleet.proofs.looks.look_around.Goals as goal

pub loop-link-init : goal.loop-link-init
loop-link-init c = record {
  within = omega arith;
  seats = c.requires.seats;
  looks = over-none c.args.seats.now c.args.stations.now (IsLinkBefore c.args.place 0) (no-link c.args.place);
  publishers = refl;
}

pub look_over-requires-clause-link : goal.look_over-requires-clause-link
look_over-requires-clause-link c s at =
    subst (λ (x : Seat). c.loop-link.link < length x.ends.items)
    (get_or_from_slice_get c.args.seats.now c.args.place s c.index-seats-place.result at)
    (less c.loop-link.link c.len-link-end.result _ _ c.loop-link-test.true c.len-link-end.ensures
    (get_or c.args.seats.now c.args.place c.index-seats-place.result).ends.ok.0)
  where
    less : (a b k m : ℕ) → a < b → b ≡ k → k ≡ m → a < m
    less a b k m p q r = omega (arith, p, q, r)

pub loop-link-preserved : goal.loop-link-preserved
loop-link-preserved c = record {
  within = omega (arith, c.loop-link-test.true);
  seats = c.look_over.ensures.seats;
  looks =
      over-link c.args.seats.now c.args.stations.now c.loop-link.stations c.look_over.new.stations c.args.place
      c.loop-link.link c.loop-link.invariant.looks c.look_over.ensures.looks;
  publishers = c.look_over.ensures.publishers ∙ c.loop-link.invariant.publishers;
}

pub returns-clause-looks : goal.returns-clause-looks
returns-clause-looks c =
    over-around c.args.seats.now c.args.stations.now c.loop-link.stations c.args.place c.loop-link.link
    c.index-seats-place.result c.requires.within c.index-seats-place.is
    (omega (
      arith,
      c.loop-link-test.false,
      c.loop-link.invariant.within,
      c.len-link-end.ensures,
      (get_or c.args.seats.now c.args.place c.index-seats-place.result).ends.ok.0,
      ap (λ (x : Seat). length x.ends.items) c.index-seats-place.is,
    ))
    c.loop-link.invariant.looks
