-- Routes can be asked of the rows of a topology's links, of all and of those of one node.
use Rattle.std.proofs.{Common.{◌≡◌, ◌≢◌, ◌<◌, ◌≤◌, ℕ, suc, Bool, true, false, cond, nat_eq, List, [], ◌∷◌, filter, length, map, refl, sym, ap, subst, arith, Contains, append-nil, leb-true}, lemmas.List.Elements.{All-from_recursion, All-nil}, lemmas.List.Kept.AllPairs-cons}
use Rattle.std.specs.{Prelude.{◌&&◌, nat_le}, List.AllByRecursion}
use Rattle.ason_base.specs.{declared.limits.TheConstants.{MOST_LINKS, MOST_METRIC, MOST_NODES}, Network.{IsTopology, Network, is_link, is_node_id, row_of, touches}, Walks.HaveDistinctLinks, declared.ids.LinkId.LinkId, declared.ids.NodeId.NodeId, declared.network.LinkSpec.LinkSpec, declared.network.NodeSpec.NodeSpec, declared.network.TeRow.TeRow}
use Rattle.ason_base.proofs.{Bridges.same_node, KeyedLists.filter-true, Ordered.any-there, LinkOrder.{LinksRiseAbove, links-rise}, Bools.{and-left, and-right}, Members.there-map}
use Rattle.mesh_rules.specs.Commands.{has_metric}
use Rattle.mesh_rules.proofs.Topologies.{each-link, link-metric}
use Rattle.mesh_nodes.specs.Routes.{AreSearchable, IsElsewhere, NewRowsFit}

-- what holds of the row of each link of a topology holds of those of some links
of-some : (P : TeRow → Type 0) (nodes : List NodeSpec) (p : LinkSpec → Bool) →
    ((l : LinkSpec) → is_link nodes l ≡ true → P (row_of l)) →
    (links : List LinkSpec) → AllByRecursion (λ l. is_link nodes l ≡ true) links →
    AllByRecursion P (map row_of (filter p links))
of-some P nodes p holds [] all = tt
of-some P nodes p holds (l ∷ links) all = go (p l) (of-some P nodes p holds links all.1)
  where
    go : (b : Bool) → AllByRecursion P (map row_of (filter p links)) →
        AllByRecursion P (map row_of (cond b (l ∷ filter p links) (filter p links)))
    go true others = (holds l all.0, others)
    go false others = others

pub metric-is : (l : LinkSpec) → has_metric l ≡ true → (1 ≤ l.metric) × (l.metric ≤ MOST_METRIC)
metric-is l e = (
  leb-true 1 l.metric (and-left _ (nat_le l.metric MOST_METRIC) e),
  leb-true l.metric MOST_METRIC (and-right (nat_le 1 l.metric) _ e),
)

-- Ends

pub known-end : (nodes : List NodeSpec) (n : NodeId) → is_node_id nodes n ≡ true → Contains (map (λ m. m.id) nodes) n
known-end nodes n e =
    let m = any-there (λ m. nat_eq m.id.0 n.0) nodes e in
    subst (Contains (map (λ m. m.id) nodes)) (same_node m.0.id n m.2) (there-map (λ m. m.id) nodes m.0 m.1)

pub both-ends : (nodes : List NodeSpec) (l : LinkSpec) → is_link nodes l ≡ true →
    Contains (map (λ m. m.id) nodes) l.low × Contains (map (λ m. m.id) nodes) l.high
both-ends nodes l link =
    let ends = and-right _ (is_node_id nodes l.low && is_node_id nodes l.high)
    (and-left _ _ (and-left _ _ (and-left _ _ link))) in (
      known-end nodes l.low (and-left (is_node_id nodes l.low) _ ends),
      known-end nodes l.high (and-right (is_node_id nodes l.low) _ ends),
    )

pub length-ids : (nodes : List NodeSpec) → length (map (λ m. m.id) nodes) ≡ length nodes
length-ids [] = refl
length-ids (m ∷ nodes) = ap suc (length-ids nodes)

pub few-nodes : (t : Network) → IsTopology t → length (map (λ m. m.id) t.nodes) ≤ MOST_NODES
few-nodes t valid =
    let few : length t.nodes ≤ MOST_NODES = leb-true (length t.nodes) MOST_NODES
    (and-left _ (nat_le (length t.links) MOST_LINKS) (and-right (nat_le 1 (length t.nodes)) _ valid.count)) in
    let same : length (map (λ m. m.id) t.nodes) ≡ length t.nodes = length-ids t.nodes in
    omega arith

-- Numbers

apart : (k : LinkId) (n : ℕ) (p : LinkSpec → Bool) (links : List LinkSpec) → k.0 ≤ n → LinksRiseAbove n links →
    AllByRecursion (λ (row : TeRow). k ≢ row.link) (map row_of (filter p links))
apart k n p [] most rise = tt
apart k n p (l ∷ links) most rise =
    go (p l) (apart k l.id.0 p links (let above : n < l.id.0 = rise.0 in omega arith) rise.1)
  where
    differs : k ≢ l.id
    differs e =
        let same : k.0 ≡ l.id.0 = ap (λ (m : LinkId). m.0) e in
        let above : n < l.id.0 = rise.0 in
        omega arith

    go : (b : Bool) → AllByRecursion (λ (row : TeRow). k ≢ row.link) (map row_of (filter p links)) →
        AllByRecursion (λ (row : TeRow). k ≢ row.link) (map row_of (cond b (l ∷ filter p links) (filter p links)))
    go true others = (differs, others)
    go false others = others

distinct : (n : ℕ) (p : LinkSpec → Bool) (links : List LinkSpec) → LinksRiseAbove n links →
    HaveDistinctLinks (map row_of (filter p links))
distinct n p [] rise = λ i j d less within. absurd (omega arith)
distinct n p (l ∷ links) rise = go (p l) (distinct l.id.0 p links rise.1)
  where
    go : (b : Bool) → HaveDistinctLinks (map row_of (filter p links)) →
        HaveDistinctLinks (map row_of (cond b (l ∷ filter p links) (filter p links)))
    go true others =
        AllPairs-cons (λ x y. x.link ≢ y.link) (row_of l) (map row_of (filter p links))
        (All-from_recursion (λ (row : TeRow). l.id ≢ row.link) (map row_of (filter p links))
        (apart l.id l.id.0 p links (omega arith) rise.1))
        others
    go false others = others

-- The rows

-- those of the links that pass
some-searchable : (t : Network) (p : LinkSpec → Bool) → IsTopology t → AreSearchable (map row_of (filter p t.links))
some-searchable t p valid = record {
  ends = (
    map (λ m. m.id) t.nodes,
    few-nodes t valid,
    All-from_recursion (λ row. Contains (map (λ m. m.id) t.nodes) row.low × Contains (map (λ m. m.id) t.nodes) row.high)
        (map row_of (filter p t.links)) (of-some _ t.nodes p (both-ends t.nodes) t.links (each-link t valid)),
  );
  metrics = All-from_recursion (λ row. (1 ≤ row.metric) × (row.metric ≤ MOST_METRIC)) (map row_of (filter p t.links))
      (of-some _ t.nodes p (λ l e. metric-is l (link-metric t.nodes l e)) t.links (each-link t valid));
  links = distinct 0 p t.links (links-rise t valid);
}

pub rows-searchable : (t : Network) → IsTopology t → AreSearchable (map row_of t.links)
rows-searchable t valid =
    subst (λ links. AreSearchable (map row_of links)) (filter-true t.links) (some-searchable t (λ l. true) valid)

-- a node that learnt nothing can be asked for routes
pub new-rows : NewRowsFit
new-rows t n valid = record {
  searchable = subst AreSearchable (sym (append-nil (map row_of (filter (touches n) t.links))))
      (some-searchable t (touches n) valid);
  others = All-nil (IsElsewhere n);
}
