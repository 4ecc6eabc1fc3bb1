use Rattle.std.proofs.Common.{◌≡◌, ◌++◌, ◌∷◌, [], length, sym, subst, refl, arith}
use Rattle.route_least.specs.{declared.places.Place.Place, Network.HasSeated}
use Rattle.route_least.proofs.PlaceLists.{seated_new}
use Rattle.route_least.proofs.places.new_seat.Goals as goal

pub returns : goal.returns
returns c =
    let old = c.args.places.now.items in
    let new : Place = record { node = c.args.node; arcs = c.in_ok-arcs.arcs } in
    let len : length old ≡ c.len-place.result = omega arith in
    subst (λ ps. HasSeated old ps c.args.node c.len-place.result) (sym c.in_ok-push.ensures.items)
    (subst (HasSeated old (old ++ new ∷ []) c.args.node) len
    (seated_new old new c.args.node c.requires.once c.requires.absent refl c.in_ok-arcs.ensures.items))
