-- The rows of a topology's links.
use Rattle.std.proofs.{Common.{◌≡◌, ◌≢◌, ◌≤◌, ◌<◌, ℕ, ◌+◌, ◌-◌, ◌==◌, nat_lt, nat_le, true, false, cond, List, [], length, get_or, map, sym, ap, ◌∙◌, subst, arith, Contains, leb-true, ltb-true}, lemmas.List.{get_or-map, length-map}, lemmas.List.Elements.All-map, lemmas.List.Kept.AllPairs-from_increasing, lemmas.Option.slice_get-get_or}
use Rattle.std.specs.{Prelude.{◌&&◌, Some}, List.slice_get, List.Sorted.IsStrictlyIncreasing}
use Rattle.ason_base.specs.{declared.limits.TheConstants.{MOST_LABELS, MOST_LINKS, MOST_METRIC, MOST_NODES, MOST_SRLGS}, Network.{IsTopology, Network, is_after, is_distinct, is_link, is_link_at, is_link_here, is_node_id, link_number, row_of}, Walks.HaveDistinctLinks, declared.ids.NodeId.NodeId, declared.network.LinkSpec.LinkSpec, declared.network.NodeSpec.NodeSpec, declared.network.TeRow.TeRow}
use Rattle.ason_base.proofs.{Ordered.any-there, Bools.{and-right, and-left}, Members.there-map}
use Rattle.flood.specs.NetworkLaws.{AreRowsOfLinks, LinksOfATopology}

-- what a topology says of a link
record LinkFacts (nodes : List NodeSpec) (l : LinkSpec) : Type 0 where
  low : is_node_id nodes l.low ≡ true
  high : is_node_id nodes l.high ≡ true
  order : l.low.0 < l.high.0
  least : 1 ≤ l.metric
  most : l.metric ≤ MOST_METRIC

link_facts : (nodes : List NodeSpec) (l : LinkSpec) → is_link nodes l ≡ true → LinkFacts nodes l
link_facts nodes l h =
    let order = nat_lt l.low.0 l.high.0 in
    let low = is_node_id nodes l.low in
    let high = is_node_id nodes l.high in
    let labels = nat_le 1 l.labels && nat_le l.labels MOST_LABELS in
    let least = nat_le 1 l.metric in
    let most = nat_le l.metric MOST_METRIC in
    let srlgs = nat_le (length l.srlgs) MOST_SRLGS && is_distinct l.srlgs in
    let before_srlgs = and-left (((order && (low && high)) && labels) && (least && most)) srlgs h in
    let metric = and-right ((order && (low && high)) && labels) (least && most) before_srlgs in
    let before_labels = and-left (order && (low && high)) labels
    (and-left ((order && (low && high)) && labels) (least && most) before_srlgs) in
    let ends = and-right order (low && high) before_labels in
    record {
      low = and-left low high ends;
      high = and-right low high ends;
      order = ltb-true l.low.0 l.high.0 (and-left order (low && high) before_labels);
      least = leb-true 1 l.metric (and-left least most metric);
      most = leb-true l.metric MOST_METRIC (and-right least most metric);
    }

positive : (j : ℕ) → (j + 1 == 0) ≡ false
positive j = grind arith

place : (j : ℕ) → j + 1 - 1 ≡ j
place j = omega arith

module _ (t : Network) (is : IsTopology t) where
  at : (k : ℕ) (d : LinkSpec) → k < length t.links → slice_get t.links k ≡ Some (get_or t.links k d)
  at k d within = slice_get-get_or t.links k d within

  stands : (k : ℕ) (d : LinkSpec) → k < length t.links → LinkFacts t.nodes (get_or t.links k d)
  stands k d within =
      let test : is_link_at t.nodes t.links k ≡ true = is.links k within in
      let here : is_link_here t.nodes (slice_get t.links k) ≡ true =
      and-right (is_after t.links k) (is_link_here t.nodes (slice_get t.links k)) test in
      link_facts t.nodes (get_or t.links k d) (subst (λ o. is_link_here t.nodes o ≡ true) (at k d within) here)

  numbers : List ℕ
  numbers = map (λ (l : LinkSpec). l.id.0) t.links

  rise : IsStrictlyIncreasing numbers
  unfolding numbers
  rise k within =
      let long : length numbers ≡ length t.links = length-map t.links (λ (l : LinkSpec). l.id.0) in
      let next : k + 1 < length t.links = omega arith in
      let test : is_link_at t.nodes t.links (k + 1) ≡ true = is.links (k + 1) next in
      let after : is_after t.links (k + 1) ≡ true =
      and-left (is_after t.links (k + 1)) (is_link_here t.nodes (slice_get t.links (k + 1))) test in
      let above : link_number (slice_get t.links k) < link_number (slice_get t.links (k + 1)) = above_before k after in
      let low : get_or numbers k 0 ≡ link_number (slice_get t.links k) = number_at k (omega arith) in
      let high : get_or numbers (k + 1) 0 ≡ link_number (slice_get t.links (k + 1)) = number_at (k + 1) next in
      omega arith
    where
      none : LinkSpec
      none = record {
        id = record { 0 = 0 };
        low = record { 0 = 0 };
        high = record { 0 = 0 };
        labels = 0;
        metric = 0;
        srlgs = [];
      }

      number_at : (j : ℕ) → j < length t.links → get_or numbers j 0 ≡ link_number (slice_get t.links j)
      number_at j h = get_or-map (λ (l : LinkSpec). l.id.0) t.links j none 0 h ∙ sym (ap link_number (at j none h))

      above_before : (j : ℕ) → is_after t.links (j + 1) ≡ true
          → link_number (slice_get t.links j) < link_number (slice_get t.links (j + 1))
      above_before j h =
          ltb-true (link_number (slice_get t.links j)) (link_number (slice_get t.links (j + 1)))
          (subst (λ i. nat_lt (link_number (slice_get t.links i)) (link_number (slice_get t.links (j + 1))) ≡ true)
          (place j)
          (subst (λ b. nat_lt (cond b 0 (link_number (slice_get t.links (j + 1 - 1))))
          (link_number (slice_get t.links (j + 1))) ≡ true) (positive j) h))

  distinct : HaveDistinctLinks (map row_of t.links)
  unfolding numbers
  distinct i j d before within same =
      let long : length (map row_of t.links) ≡ length t.links = length-map t.links row_of in
      let many : length numbers ≡ length t.links = length-map t.links (λ (l : LinkSpec). l.id.0) in
      let ltb-true : get_or numbers i 0 < get_or numbers j 0 =
      AllPairs-from_increasing numbers rise i j 0 before (omega arith) in
      let low : get_or numbers i 0 ≡ (get_or (map row_of t.links) i d).link.0 = number_of i (omega arith) in
      let high : get_or numbers j 0 ≡ (get_or (map row_of t.links) j d).link.0 = number_of j (omega arith) in
      let equal : (get_or (map row_of t.links) i d).link.0 ≡ (get_or (map row_of t.links) j d).link.0 =
      ap (λ k. k.0) same in
      absurd (omega arith)
    where
      none : LinkSpec
      none = record {
        id = record { 0 = 0 };
        low = record { 0 = 0 };
        high = record { 0 = 0 };
        labels = 0;
        metric = 0;
        srlgs = [];
      }

      number_of : (k : ℕ) → k < length t.links → get_or numbers k 0 ≡ (get_or (map row_of t.links) k d).link.0
      number_of k h = get_or-map (λ (l : LinkSpec). l.id.0) t.links k none 0 h ∙
          sym (ap (λ (r : TeRow). r.link.0) (get_or-map row_of t.links k none d h))

  node_there : (n : NodeId) → is_node_id t.nodes n ≡ true → Contains (map (λ (m : NodeSpec). m.id) t.nodes) n
  node_there n test =
      let found = any-there (λ (m : NodeSpec). m.id.0 == n.0) t.nodes test in
      subst (Contains (map (λ (m : NodeSpec). m.id) t.nodes)) (same_node found.0.id n found.2)
      (there-map (λ (m : NodeSpec). m.id) t.nodes found.0 found.1)
    where
      same_node : (a b : NodeId) → (a.0 == b.0) ≡ true → a ≡ b
      same_node a b h = let e : a.0 ≡ b.0 = grind arith in λ i. record { 0 = e i }

  rows_are : AreRowsOfLinks (map row_of t.links)
  rows_are =
      let count = is.count in
      let nodes : length t.nodes ≤ MOST_NODES =
      leb-true (length t.nodes) MOST_NODES
      (and-left (nat_le (length t.nodes) MOST_NODES) (nat_le (length t.links) MOST_LINKS)
      (and-right (nat_le 1 (length t.nodes))
      (nat_le (length t.nodes) MOST_NODES && nat_le (length t.links) MOST_LINKS) count))
      in
      let links : length t.links ≤ MOST_LINKS =
      leb-true (length t.links) MOST_LINKS
      (and-right (nat_le (length t.nodes) MOST_NODES) (nat_le (length t.links) MOST_LINKS)
      (and-right (nat_le 1 (length t.nodes))
      (nat_le (length t.nodes) MOST_NODES && nat_le (length t.links) MOST_LINKS) count))
      in
      let long : length (map row_of t.links) ≡ length t.links = length-map t.links row_of in
      let many : length (map (λ (m : NodeSpec). m.id) t.nodes) ≡ length t.nodes =
      length-map t.nodes (λ (m : NodeSpec). m.id) in
      record {
        search = record {
          ends = (
            map (λ (m : NodeSpec). m.id) t.nodes,
            omega arith,
            All-map (λ (r : TeRow). Contains (map (λ (m : NodeSpec). m.id) t.nodes) r.low ×
                Contains (map (λ (m : NodeSpec). m.id) t.nodes) r.high) row_of t.links
                (λ k d within. (
                  node_there (get_or t.links k d).low (stands k d within).low,
                  node_there (get_or t.links k d).high (stands k d within).high,
                )),
          );
          metrics = All-map (λ (r : TeRow). (1 ≤ r.metric) × (r.metric ≤ MOST_METRIC)) row_of t.links
              (λ k d within. ((stands k d within).least, (stands k d within).most));
          links = distinct;
        };
        few = omega arith;
        apart = All-map (λ (r : TeRow). r.low.0 ≢ r.high.0) row_of t.links
            (λ k d within same. (let order : (get_or t.links k d).low.0 < (get_or t.links k d).high.0 =
            (stands k d within).order in absurd (omega arith)));
      }

pub links_of_a_topology : LinksOfATopology
links_of_a_topology t is = rows_are t is
