-- A node of a topology, with no leg and no call, fits.
use Rattle.std.proofs.{Common.{◌≡◌, Bool, true, false, cond, List, [], ◌∷◌, filter, refl, arith, leb-true, ltb-true}, lemmas.List.Elements.recursion_from_All}
use Rattle.std.specs.{Prelude.nat_le, List.AllByRecursion}
use Rattle.ason_base.specs.{declared.limits.TheConstants.MOST_LABELS, declared.ids.NodeId.NodeId, declared.network.LinkSpec.LinkSpec, declared.network.NodeSpec.NodeSpec, Network.{IsTopology, Network, is_link, touches}}
use Rattle.mesh_rules.specs.{LocalNodes.{LocalNode, local_node}, State.new_node}
use Rattle.mesh_nodes.specs.{FitNodes.NodeFits, LocalNodes.{IsOwnLink, LocalNodeFits}}
use Rattle.ason_base.proofs.Bools.{and-left, and-right}
use Rattle.mesh_rules.proofs.Topologies.{at-each-place}

-- a link of a topology that touches the node
own-link : (nodes : List NodeSpec) (n : NodeId) (l : LinkSpec) → is_link nodes l ≡ true → touches n l ≡ true →
    IsOwnLink n l
own-link nodes n l link here =
    let ends_and_labels = and-left _ _ (and-left _ _ link) in
    let labels = and-right _ _ ends_and_labels in
    record {
      touches = here;
      apart = ltb-true l.low.0 l.high.0 (and-left _ _ (and-left _ _ ends_and_labels));
      labelled = leb-true 1 l.labels (and-left _ (nat_le l.labels MOST_LABELS) labels);
      narrow = leb-true l.labels MOST_LABELS (and-right (nat_le 1 l.labels) _ labels);
    }

own-links : (nodes : List NodeSpec) (n : NodeId) (links : List LinkSpec) →
    AllByRecursion (λ l. is_link nodes l ≡ true) links →
    AllByRecursion (IsOwnLink n) (filter (touches n) links)
own-links nodes n [] all = tt
own-links nodes n (l ∷ links) all = go (touches n l) refl (own-links nodes n links all.1)
  where
    go : (b : Bool) → touches n l ≡ b → AllByRecursion (IsOwnLink n) (filter (touches n) links) →
        AllByRecursion (IsOwnLink n) (cond b (l ∷ filter (touches n) links) (filter (touches n) links))
    go true e others = (own-link nodes n l all.0 e, others)
    go false e others = others

pub new-place : (t : Network) (n : NodeId) → IsTopology t → LocalNodeFits (local_node t n)
new-place t n valid = own-links t.nodes n t.links
    (recursion_from_All (λ l. is_link t.nodes l ≡ true) t.links (at-each-place t valid))

pub new-fits : (p : LocalNode) → NodeFits p new_node
new-fits p = record {
  legs = record { rise = tt; each = tt; few = omega arith };
  calls = record { rise = tt; each = tt };
  first = omega arith;
  numbers = omega arith;
}
