-- What the nodes of a topology are told of its links: at most one thing of each, and nothing goes to a number that is no node's.
use Rattle.std.proofs.{Common.{◌≡◌, ◌<◌, ◌≤◌, ◌+◌, ℕ, Bool, true, false, cond, nat_eq, nat_le, nat_lt, List, [], ◌∷◌, ◌++◌, length, get_or, take, refl, sym, ap, ◌∙◌, subst, arith}, lemmas.List.{flat_map_more, length-append, take_more}, lemmas.List.Concat.flat_map-cons}
use Rattle.std.specs.{Prelude.{◌&&◌, flat_map}, List.AllByRecursion}
use Rattle.ason_base.specs.{declared.limits.TheConstants.{MOST_LINKS, MOST_NODES}, declared.commands.DeskItem.DeskItem, declared.commands.Group.Group, declared.ids.NodeId.NodeId, declared.network.LinkSpec.LinkSpec, declared.network.NodeSpec.NodeSpec, Lsps.same_bool, Network.{IsTopology, Network, is_link, is_node_id}}
use Rattle.mesh_rules.specs.Failures.{all_news, changed_news, is_cut, link_news}
use Rattle.mesh_rules.proofs.Topologies.{at-each-place, each-link}
use Rattle.ason_base.proofs.Bools.{and-left, and-right}

-- Ends of links

-- the two ends are two nodes
pub record HasEnds (nodes : List NodeSpec) (l : LinkSpec) : Type 0 where
  pub apart : nat_eq l.low.0 l.high.0 ≡ false
  pub low : is_node_id nodes l.low ≡ true
  pub high : is_node_id nodes l.high ≡ true

link-ends : (nodes : List NodeSpec) (l : LinkSpec) → is_link nodes l ≡ true → HasEnds nodes l
link-ends nodes l is = record {
  apart = below l.low.0 l.high.0 (and-left (nat_lt l.low.0 l.high.0) _ order);
  low = and-left (is_node_id nodes l.low) _ ends;
  high = and-right (is_node_id nodes l.low) _ ends;
}
  where
    order : (nat_lt l.low.0 l.high.0 && (is_node_id nodes l.low && is_node_id nodes l.high)) ≡ true
    order = and-left _ _ (and-left _ _ (and-left _ _ is))

    ends : (is_node_id nodes l.low && is_node_id nodes l.high) ≡ true
    ends = and-right (nat_lt l.low.0 l.high.0) _ order

    below : (a b : ℕ) → nat_lt a b ≡ true → nat_eq a b ≡ false
    below a b h = grind arith

each-ends : (nodes : List NodeSpec) (links : List LinkSpec) → AllByRecursion (λ l. is_link nodes l ≡ true) links →
    AllByRecursion (HasEnds nodes) links
each-ends nodes [] all = tt
each-ends nodes (l ∷ links) all = (link-ends nodes l all.0, each-ends nodes links all.1)

pub all-ends : (t : Network) → IsTopology t → AllByRecursion (HasEnds t.nodes) t.links
all-ends t valid = each-ends t.nodes t.links (each-link t valid)

-- the two ends of the link at this place
pub apart-at : (t : Network) → IsTopology t → (links : List LinkSpec) (i : ℕ) (l : LinkSpec) → links ≡ t.links →
    i < length links → l ≡ get_or links i l → nat_eq l.low.0 l.high.0 ≡ false
apart-at t valid links i l same within at =
    (link-ends t.nodes l
    (ap (is_link t.nodes) (at ∙ ap (λ ls. get_or ls i l) same)
    ∙ at-each-place t valid i l (subst (λ ls. i < length ls) same within))).apart

-- One link

not-told : (b : Bool) (items : List DeskItem) → items ≡ [] → cond b [] items ≡ []
not-told true items none = refl
not-told false items none = none

-- a number that is no node's is none of a link's ends
pub no-end : (nodes : List NodeSpec) (n m : NodeId) → is_node_id nodes n ≡ false → is_node_id nodes m ≡ true →
    nat_eq m.0 n.0 ≡ false
no-end nodes n m none node = go (nat_eq m.0 n.0) refl
  where
    go : (b : Bool) → nat_eq m.0 n.0 ≡ b → b ≡ false
    go true e =
        let same : m.0 ≡ n.0 = grind arith in
        absurd (cc (none, subst (λ k. is_node_id nodes (record { 0 = k }) ≡ true) same node))
    go false e = refl

none-of : (nodes : List NodeSpec) (before after : List Group) (n : NodeId) (l : LinkSpec) → HasEnds nodes l →
    is_node_id nodes n ≡ false → changed_news before after n.0 l ≡ []
none-of nodes before after n l ends none =
    not-told (same_bool (is_cut before l) (is_cut after l)) (link_news n.0 (is_cut after l) l)
    (rw (no-end nodes n l.high none ends.high, no-end nodes n l.low none ends.low) refl)

one-at-most : (low high n : ℕ) (x y : DeskItem) → nat_eq low high ≡ false →
    length (cond (nat_eq high n) (x ∷ []) [] ++ cond (nat_eq low n) (y ∷ []) []) ≤ 1
one-at-most low high n x y apart = go (nat_eq high n) (nat_eq low n) refl refl
  where
    go : (a b : Bool) → nat_eq high n ≡ a → nat_eq low n ≡ b →
        length (cond a (x ∷ []) [] ++ cond b (y ∷ []) []) ≤ 1
    go true true e f = let same : nat_eq low high ≡ true = grind arith in absurd (cc (same, apart))
    go true false e f = omega arith
    go false true e f = omega arith
    go false false e f = omega arith

few-of : (before after : List Group) (n : ℕ) (l : LinkSpec) → nat_eq l.low.0 l.high.0 ≡ false →
    length (changed_news before after n l) ≤ 1
few-of before after n l apart = go (same_bool (is_cut before l) (is_cut after l))
  where
    go : (b : Bool) → length (cond b [] (link_news n (is_cut after l) l)) ≤ 1
    go true = omega arith
    go false = one-at-most l.low.0 l.high.0 n _ _ apart

-- All links

-- nothing is told where no node is
none-of-all : (nodes : List NodeSpec) (before after : List Group) (n : NodeId) (links : List LinkSpec) →
    AllByRecursion (HasEnds nodes) links → is_node_id nodes n ≡ false →
    flat_map (changed_news before after n.0) links ≡ []
none-of-all nodes before after n [] all none = refl
none-of-all nodes before after n (l ∷ links) all none =
    flat_map-cons (changed_news before after n.0) l links
    ∙ ap (λ items. items ++ flat_map (changed_news before after n.0) links) (none-of nodes before after n l all.0 none)
    ∙ none-of-all nodes before after n links all.1 none

pub no-news : (t : Network) → IsTopology t → (before after : List Group) (n : NodeId) →
    is_node_id t.nodes n ≡ false → all_news t before after n.0 ≡ []
no-news t valid before after n none = none-of-all t.nodes before after n t.links (all-ends t valid) none

-- one link more is told of
pub news-more : (before after : List Group) (n : ℕ) (links : List LinkSpec) (i : ℕ) (l : LinkSpec) →
    i < length links → l ≡ get_or links i l → (items : List DeskItem) →
    (items ++ flat_map (changed_news before after n) (take i links)) ++ changed_news before after n l ≡
    items ++ flat_map (changed_news before after n) (take (i + 1) links)
news-more before after n links i l within at items =
    flat_map_more (changed_news before after n) items (take i links) l
    ∙ ap (λ ls. items ++ flat_map (changed_news before after n) ls)
    (ap (λ x. take i links ++ x ∷ []) at ∙ sym (take_more links i l within))

few-of-all : (nodes : List NodeSpec) (before after : List Group) (n : ℕ) (links : List LinkSpec) →
    AllByRecursion (HasEnds nodes) links → length (flat_map (changed_news before after n) links) ≤ length links
few-of-all nodes before after n [] all = omega arith
few-of-all nodes before after n (l ∷ links) all =
    let one : length (changed_news before after n l) ≤ 1 = few-of before after n l all.0.apart in
    let rest : length (flat_map (changed_news before after n) links) ≤ length links =
    few-of-all nodes before after n links all.1 in
    rw (
      flat_map-cons (changed_news before after n) l links,
      length-append (changed_news before after n l) (flat_map (changed_news before after n) links),
    ) (omega arith)

-- at most one thing is told of each link
pub few-news : (t : Network) → IsTopology t → (before after : List Group) (n : ℕ) →
    length (all_news t before after n) ≤ length t.links
few-news t valid before after n = few-of-all t.nodes before after n t.links (all-ends t valid)

-- of which there are at most 256
pub few-links : (t : Network) → IsTopology t → length t.links ≤ MOST_LINKS
few-links t valid =
    at-most (length t.links) (and-right (nat_le (length t.nodes) MOST_NODES) _
    (and-right (nat_le 1 (length t.nodes)) _ valid.count))
  where
    at-most : (k : ℕ) → nat_le k MOST_LINKS ≡ true → k ≤ MOST_LINKS
    at-most k h = grind arith
