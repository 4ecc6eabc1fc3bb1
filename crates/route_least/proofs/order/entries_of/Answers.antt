use Rattle.std.proofs.Common.{◌+◌, sym, subst, ◌≡◌, ◌≤◌, length, arith}
use Rattle.route_least.specs.Network.{AreNumbered}
use Rattle.route_least.proofs.Ordered.{none_numbered, numbered_more}
use Rattle.route_least.proofs.order.entries_of.Goals as goal

pub loop-place-init : goal.loop-place-init
loop-place-init c = none_numbered c.args.places.now _ c.in_ok-entries.ensures.items

pub loop-place-preserved : goal.loop-place-preserved
loop-place-preserved c =
    subst (AreNumbered c.args.places.now (c.loop-place.place + 1)) (sym c.in_ok-push.ensures.items)
    (numbered_more c.args.places.now c.loop-place.place c.index-places-place.result c.loop-place.entries.items
    c.loop-place-test.true c.loop-place.invariant)

pub returns : goal.returns
returns c =
    let past : length c.args.places.now ≤ c.loop-place.place = c.loop-place-test.false in
    let inside : c.loop-place.place ≤ length c.args.places.now = c.loop-place.auto.place-end in
    let all : c.loop-place.place ≡ length c.args.places.now = omega arith in
    subst (λ n. AreNumbered c.args.places.now n c.loop-place.entries.items) all c.loop-place.invariant
