use Rattle.std.proofs.Common.{◌≡◌, ◌∙◌, get_or, arith}
use Rattle.ason_base.proofs.JoinedEnds.{same-node}
use Rattle.route_least.proofs.PlaceLists.{node_at}
use Rattle.route_least.proofs.places.is_at.Goals as goal

pub returns-then-place-places : goal.returns-then-place-places
returns-then-place-places c = λ found.
    let here = node_at c.args.places.now c.args.place c.index-places-place.result c.if-place-places.true in
    let same : (get_or c.args.places.now c.args.place c.index-places-place.result).node.0 ≡ c.args.node.0 =
    grind arith in
    (here.0, here.1, here.2 ∙ same-node _ _ same)
