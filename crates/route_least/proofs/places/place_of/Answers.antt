use Rattle.std.proofs.Common.{◌≡◌, ◌≤◌, ◌<◌, length, get_or, ◌∙◌, arith, below_more}
use Rattle.ason_base.proofs.JoinedEnds.{same-node}
use Rattle.route_least.proofs.PlaceLists.{node_at, node_is, node_within}
use Rattle.route_least.proofs.places.place_of.Goals as goal

pub loop-index-init : goal.loop-index-init
loop-index-init c = λ p below h. absurd (omega arith)

pub returns-then-eq : goal.returns-then-eq
returns-then-eq c =
    let here = node_at c.args.places.now c.loop-index.index c.index-places-index.result c.loop-index-test.true in
    let same : (get_or c.args.places.now c.loop-index.index c.index-places-index.result).node.0 ≡ c.args.node.0 =
    grind arith in
    (here.0, here.1, here.2 ∙ same-node _ _ same)

pub loop-index-preserved : goal.loop-index-preserved
loop-index-preserved c = below_more _ _ c.loop-index.invariant (λ h.
    let is = node_is c.args.places.now c.loop-index.index c.index-places-index.result c.args.node h in
    let same : (get_or c.args.places.now c.loop-index.index c.index-places-index.result).node.0 ≡ c.args.node.0 =
    (λ i. (is i).0) in
    grind arith)

pub returns : goal.returns
returns c = λ p h. c.loop-index.invariant p (let within : p < length c.args.places.now =
    node_within c.args.places.now p c.args.node h in let past : length c.args.places.now ≤ c.loop-index.index =
    c.loop-index-test.false in omega arith) h
