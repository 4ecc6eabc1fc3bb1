-- Rows that are due stay those that they are where neighbours are marked.
use Rattle.std.proofs.Common.{◌≡◌, List, [], ◌∷◌, map, refl, ap, ◌∙◌}
use Rattle.std.specs.List.{AllByRecursion}
use Rattle.ason_base.specs.declared.ids.NodeId.{NodeId}
use Rattle.flood.specs.State.{NeighbourState}
use Rattle.control_channels.specs.ReadyControllers.{CanGo}

pub ids-mapped : (g : NeighbourState → NeighbourState) → ((n : NeighbourState) → (g n).id ≡ n.id) →
    (ns : List NeighbourState) →
    map (λ (n : NeighbourState). n.id.0) (map g ns) ≡ map (λ (n : NeighbourState). n.id.0) ns
ids-mapped g same [] = refl
ids-mapped g same (n ∷ ns) =
    ap (λ (i : NodeId). i.0 ∷ map (λ (m : NeighbourState). m.id.0) (map g ns)) (same n)
    ∙ ap (λ ks. n.id.0 ∷ ks) (ids-mapped g same ns)

pub due-mapped : (g : NeighbourState → NeighbourState) →
    ((n : NeighbourState) → AllByRecursion CanGo n.due → AllByRecursion CanGo (g n).due) →
    (ns : List NeighbourState) → AllByRecursion (λ (n : NeighbourState). AllByRecursion CanGo n.due) ns →
    AllByRecursion (λ (n : NeighbourState). AllByRecursion CanGo n.due) (map g ns)
due-mapped g keeps [] h = tt
due-mapped g keeps (n ∷ ns) h = (keeps n h.0, due-mapped g keeps ns h.1)
