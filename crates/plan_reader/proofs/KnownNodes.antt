-- A node that is found by its name is a node of the network.
use Rattle.std.proofs.{Common.{◌≡◌, ℕ, zero, suc, true, ◌==◌, List, [], ◌∷◌, refl, subst}, Math.Bool.or-true}
use Rattle.std.specs.Prelude.{Option, Some, None, slice_get}
use Rattle.ason_base.specs.{Network.is_node_id, declared.ids.NodeId.NodeId, declared.network.NodeSpec.NodeSpec}
use Rattle.ason_base.proofs.Numbers.{equal-self}
use Rattle.plan_reader.specs.PlanTexts.{id_at, id_at_place}

id_is_known :
    (nodes : List NodeSpec) (k : ℕ) (n : NodeId) → id_at (slice_get nodes k) ≡ Some n → is_node_id nodes n ≡ true
id_is_known [] k n h = absurd (cc (h))
id_is_known (m ∷ nodes) zero n h =
    let same : m.id ≡ n = cc (h) in
    let here : is_node_id (m ∷ nodes) m.id ≡ true = rw (equal-self m.id.0) refl in
    subst (λ (i : NodeId). is_node_id (m ∷ nodes) i ≡ true) same here
id_is_known (m ∷ nodes) (suc k) n h = rw (id_is_known nodes k n h) (or-true (m.id.0 == n.0))

pub place_is_known :
    (nodes : List NodeSpec) (o : Option ℕ) (n : NodeId) → id_at_place nodes o ≡ Some n → is_node_id nodes n ≡ true
place_is_known nodes None n h = absurd (cc (h))
place_is_known nodes (Some k) n h = id_is_known nodes k n h
