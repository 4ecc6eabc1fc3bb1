use Rattle.std.proofs.Common.{◌∙◌, ◌++◌, ◌∷◌, [], ap}
use Rattle.route_least.proofs.PlaceLists.{gained}
use Rattle.route_least.proofs.places.push_arc.Goals as goal

pub returns : goal.returns
returns c =
    let is = c.index_mut.ensures.value in
    gained c.args.places.now.items c.args.place c.index_mut.result.now _ c.args.arc c.requires (ap (λ p. p.node) is)
    (c.in_ok-push.ensures.items ∙ ap (λ p. p.arcs.items ++ c.args.arc ∷ []) is)
