-- The nodes of a route are nodes of the topology.
use Rattle.std.proofs.{Common.{◌≡◌, ◌≤◌, ◌<◌, ◌⊎◌, ℕ, zero, suc, Bool, true, false, cond, nat_eq, List, [], ◌∷◌, refl, subst, arith, inl, inr}, lemmas.Bool.cases_lt}
use Rattle.std.specs.{Prelude.{◌||◌, Some, find}, List.AllByRecursion}
use Rattle.ason_base.specs.{Network.{IsTopology, Network, is_node_id, touches}, declared.ids.NodeId.NodeId, declared.network.LinkSpec.LinkSpec}
use Rattle.mesh_rules.proofs.LinkNews.{HasEnds, all-ends}
use Rattle.lsp_laws.proofs.hops.Plans.{IsPlanRoute, Plan, distinct, hops, joined, link_at, node_at}

-- the number is a node's
abbrev pub IsNodeNumber : Network → ℕ → Type 0
IsNodeNumber t d = is_node_id t.nodes (record { 0 = d }) ≡ true

found-ends : (t : Network) (p : LinkSpec → Bool) (links : List LinkSpec) (l : LinkSpec) →
    AllByRecursion (HasEnds t.nodes) links → find p links ≡ Some l → HasEnds t.nodes l
found-ends t p [] l all e = absurd (cc e)
found-ends t p (m ∷ links) l all e = go (p m) e (found-ends t p links l all.1)
  where
    go : (b : Bool) → cond b (Some m) (find p links) ≡ Some l → (find p links ≡ Some l → HasEnds t.nodes l) →
        HasEnds t.nodes l
    go true is later = let same : m ≡ l = cc is in subst (HasEnds t.nodes) same all.0
    go false is later = later is

-- an end of a link is a node
end-node : (t : Network) (n : NodeId) (l : LinkSpec) → HasEnds t.nodes l → touches n l ≡ true → IsNodeNumber t n.0
end-node t n l ends touch = go (nat_eq l.low.0 n.0) (λ e. grind (arith, e)) touch
  where
    go : (b : Bool) → (b ≡ true → l.low.0 ≡ n.0) → (b || nat_eq l.high.0 n.0) ≡ true → IsNodeNumber t n.0
    go true is touch = subst (IsNodeNumber t) (is refl) ends.low
    go false is touch = let high : l.high.0 ≡ n.0 = grind (arith, touch) in subst (IsNodeNumber t) high ends.high

-- Each node of a route is one.
pub route-node : (t : Network) → IsTopology t → (from : NodeId) (p : Plan) → IsPlanRoute t from p → (i : ℕ) →
    i ≤ hops p →
    IsNodeNumber t (node_at p i).0
route-node t valid from p route i most = go i most (cases_lt i (hops p))
  where
    ends : (j : ℕ) (small : j < hops p) → HasEnds t.nodes (route.links j small).link
    ends j small =
        found-ends t (λ l. nat_eq l.id.0 (link_at p j).0) t.links (route.links j small).link (all-ends t valid)
        (route.links j small).found

    go : (i : ℕ) → i ≤ hops p → (i < hops p) ⊎ (hops p ≤ i) → IsNodeNumber t (node_at p i).0
    go i most (inl small) =
        end-node t (node_at p i) (route.links i small).link (ends i small) (route.links i small).touches
    go zero most (inr all) = let long = route.long in absurd (omega (arith, all, long))
    go (suc j) most (inr all) =
        let small : j < hops p = omega (arith, most) in
        let apart = distinct t from p route j (suc j) (omega (arith, most)) most (omega arith) in
        end-node t (node_at p (suc j)) (route.links j small).link (ends j small)
        (joined t (link_at p j) (node_at p j) (node_at p (suc j)) apart (route.links j small)).touches_far
