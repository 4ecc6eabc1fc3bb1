-- What a controller floods at the start: the rows of its own links, to each neighbour.
use Rattle.std.proofs.{Common.{◌≡◌, ◌≤◌, ◌<◌, ◌+◌, ◌⊎◌, inl, inr, ℕ, zero, suc, Bool, true, false, cond, nat_eq, nat_lt, nat_le, List, [], ◌∷◌, ◌++◌, length, map, filter, get_or, take, drop, refl, sym, ap, ◌∙◌, subst, arith, append-nil, leb-true, ltb-true}, ByRecursion.All-append}
use Rattle.std.specs.{Prelude.{◌&&◌, ◌||◌, None}, List.AllByRecursion}
use Rattle.ason_base.specs.{declared.limits.TheConstants.{MOST_LABELS, MOST_METRIC, MOST_SRLGS}, declared.ids.NodeId.NodeId, declared.network.LinkSpec.LinkSpec, declared.network.NodeSpec.NodeSpec, declared.network.TeRow.TeRow, InOrder.in_order, Network.{IsTopology, Network, end_beside, is_distinct, is_link, is_node_id, other_end, row_of, touches}}
use Rattle.flood.specs.{State.{FloodState, NeighbourState, declared_row, fresh_neighbour, queued_unless}, NetworkLaws.{AreRowsOfLinks, CanBeDeclared, OwnCanBeDeclared}, Networks.{begun_node, declared_rows, new_flood, nodes_beside, own_rows}}
use Rattle.flood.proofs.Beginnings.{me_declared, rows_declared}
use Rattle.mesh_rules.proofs.Topologies.{each-link}
use Rattle.mesh_rules.specs.{LocalNodes.local_node, State.new_node}
use Rattle.te_tlv.specs.Written.{IsRowWritable}
use Rattle.control_channels.specs.ReadyControllers.{CanGo, FloodFits}
use Rattle.control_channels.proofs.{DueRows.{due-mapped, ids-mapped}, Keeping.order-few}
use Rattle.ason_base.proofs.Bools.{and-right, and-left}

-- Own rows

pub own-are : (n : NodeId) (ls : List LinkSpec) → own_rows (map row_of ls) n ≡ map row_of (filter (touches n) ls)
own-are n [] = refl
own-are n (l ∷ ls) = go (touches n l) (own-are n ls)
  where
    go : (b : Bool) → own_rows (map row_of ls) n ≡ map row_of (filter (touches n) ls) →
        cond b (row_of l ∷ own_rows (map row_of ls) n) (own_rows (map row_of ls) n)
        ≡ map row_of (cond b (l ∷ filter (touches n) ls) (filter (touches n) ls))
    go true later = ap (λ rows. row_of l ∷ rows) later
    go false later = later

ends-are : (n : NodeId) (ls : List LinkSpec) →
    map (λ (r : TeRow). end_beside r.low r.high n) (map row_of ls) ≡ map (λ l. other_end l n) ls
ends-are n [] = refl
ends-are n (l ∷ ls) = ap (λ ns. other_end l n ∷ ns) (ends-are n ls)

-- the other ends of the node's links
pub beside-are : (n : NodeId) (ls : List LinkSpec) →
    nodes_beside (map row_of ls) n ≡ map (λ l. other_end l n) (filter (touches n) ls)
beside-are n ls =
    ap (λ rows. map (λ (r : TeRow). end_beside r.low r.high n) rows) (own-are n ls) ∙ ends-are n (filter (touches n) ls)

pub numbers-are : (n : NodeId) (ls : List LinkSpec) →
    map (λ (m : NodeId). m.0) (map (λ l. other_end l n) ls) ≡ map (λ l. (other_end l n).0) ls
numbers-are n [] = refl
numbers-are n (l ∷ ls) = ap (λ ns. (other_end l n).0 ∷ ns) (numbers-are n ls)

-- They can be written

record LinkFacts (nodes : List NodeSpec) (l : LinkSpec) : Type 0 where
  low : is_node_id nodes l.low ≡ true
  high : is_node_id nodes l.high ≡ true
  order : l.low.0 < l.high.0
  least : 1 ≤ l.metric
  most : l.metric ≤ MOST_METRIC
  few : length l.srlgs ≤ MOST_SRLGS

link-facts : (nodes : List NodeSpec) (l : LinkSpec) → is_link nodes l ≡ true → LinkFacts nodes l
link-facts nodes l h =
    let order = nat_lt l.low.0 l.high.0 in
    let ends = is_node_id nodes l.low && is_node_id nodes l.high in
    let labels = nat_le 1 l.labels && nat_le l.labels MOST_LABELS in
    let least = nat_le 1 l.metric in
    let most = nat_le l.metric MOST_METRIC in
    let few = nat_le (length l.srlgs) MOST_SRLGS in
    let apart = is_distinct l.srlgs in
    let before = and-left (((order && ends) && labels) && (least && most)) (few && apart) h in
    let srlgs = and-right (((order && ends) && labels) && (least && most)) (few && apart) h in
    let metric = and-right ((order && ends) && labels) (least && most) before in
    let first = and-left (order && ends) labels (and-left ((order && ends) && labels) (least && most) before) in
    let both = and-right order ends first in
    record {
      low = and-left (is_node_id nodes l.low) (is_node_id nodes l.high) both;
      high = and-right (is_node_id nodes l.low) (is_node_id nodes l.high) both;
      order = ltb-true l.low.0 l.high.0 (and-left order ends first);
      least = leb-true 1 l.metric (and-left least most metric);
      most = leb-true l.metric MOST_METRIC (and-right least most metric);
      few = leb-true (length l.srlgs) MOST_SRLGS (and-left few apart srlgs);
    }

pub link-ends : (nodes : List NodeSpec) (l : LinkSpec) → is_link nodes l ≡ true →
    (is_node_id nodes l.low ≡ true) × (is_node_id nodes l.high ≡ true)
link-ends nodes l h = let facts = link-facts nodes l h in (facts.low, facts.high)

same-node : (m n : NodeId) → m.0 ≡ n.0 → n ≡ m
same-node m n e = λ i. record { 0 = sym e i }

an-end : (n : NodeId) (l : LinkSpec) → touches n l ≡ true → (n ≡ l.low) ⊎ (n ≡ l.high)
an-end n l h = go (nat_eq l.low.0 n.0) refl h
  where
    equal : (a b : ℕ) → nat_eq a b ≡ true → a ≡ b
    equal a b e = grind arith

    go : (b : Bool) → nat_eq l.low.0 n.0 ≡ b → (b || nat_eq l.high.0 n.0) ≡ true → (n ≡ l.low) ⊎ (n ≡ l.high)
    go true e k = inl (same-node l.low n (equal l.low.0 n.0 e))
    go false e k = inr (same-node l.high n (equal l.high.0 n.0 k))

own-written : (nodes : List NodeSpec) (n : NodeId) (l : LinkSpec) → is_link nodes l ≡ true → touches n l ≡ true →
    IsRowWritable n (row_of l)
own-written nodes n l link own =
    let facts = link-facts nodes l link in
    record {
      end = an-end n l own;
      ends = facts.order;
      positive = facts.least;
      small = facts.most;
      few = (let kept : length (in_order nat_lt l.srlgs) ≤ length l.srlgs = order-few l.srlgs in
          let few : length l.srlgs ≤ MOST_SRLGS = facts.few in omega arith);
    }

all-written : (nodes : List NodeSpec) (n : NodeId) (ls : List LinkSpec) →
    AllByRecursion (λ l. is_link nodes l ≡ true) ls →
    AllByRecursion (λ (r : TeRow). IsRowWritable n r) (map row_of (filter (touches n) ls))
all-written nodes n [] h = tt
all-written nodes n (l ∷ ls) h = go (touches n l) refl (all-written nodes n ls h.1)
  where
    go : (b : Bool) → touches n l ≡ b →
        AllByRecursion (λ (r : TeRow). IsRowWritable n r) (map row_of (filter (touches n) ls)) →
        AllByRecursion (λ (r : TeRow). IsRowWritable n r)
        (map row_of (cond b (l ∷ filter (touches n) ls) (filter (touches n) ls)))
    go true own later = (own-written nodes n l h.0 own, later)
    go false own later = later

-- What declaring leaves

queues : NodeId → TeRow → NeighbourState → NeighbourState
queues me row = queued_unless None me None row

row-goes : (me : NodeId) (row : TeRow) → IsRowWritable me row → (n : NeighbourState) → AllByRecursion CanGo n.due →
    AllByRecursion CanGo (queues me row n).due
unfolding queues
row-goes me row written n h =
    All-append CanGo n.due (record { number = n.sent + 1; age = None; origin = me; row = row } ∷ []) h (written, tt)

ids-declared : (xs : List TeRow) (s : FloodState) →
    map (λ (n : NeighbourState). n.id.0) (declared_rows s xs).neighbours
    ≡ map (λ (n : NeighbourState). n.id.0) s.neighbours
unfolding queues
ids-declared [] s = refl
ids-declared (x ∷ xs) s =
    ids-declared xs (declared_row s x) ∙ ids-mapped (queues s.me x) (λ n. refl) s.neighbours

due-declared : (xs : List TeRow) (s : FloodState) → AllByRecursion (λ (r : TeRow). IsRowWritable s.me r) xs →
    AllByRecursion (λ (n : NeighbourState). AllByRecursion CanGo n.due) s.neighbours →
    AllByRecursion (λ (n : NeighbourState). AllByRecursion CanGo n.due) (declared_rows s xs).neighbours
unfolding queues
due-declared [] s written h = h
due-declared (x ∷ xs) s written h =
    due-declared xs (declared_row s x) written.1
    (due-mapped (queues s.me x) (row-goes s.me x written.0) s.neighbours h)

fresh-ids : (ks : List ℕ) → map (λ (n : NeighbourState). n.id.0) (map (λ k. fresh_neighbour (record { 0 = k })) ks) ≡ ks
fresh-ids [] = refl
fresh-ids (k ∷ ks) = ap (λ ms. k ∷ ms) (fresh-ids ks)

fresh-due : (ks : List ℕ) → AllByRecursion (λ (n : NeighbourState). AllByRecursion CanGo n.due)
    (map (λ k. fresh_neighbour (record { 0 = k })) ks)
fresh-due [] = tt
fresh-due (k ∷ ks) = (tt, fresh-due ks)

pub begun-fits : (t : Network) (n : NodeId) → IsTopology t →
    FloodFits (local_node t n) new_node (begun_node (map row_of t.links) n)
begun-fits t n valid = record {
  me = me_declared own new;
  rows = rows_declared own new ∙ own-are n t.links ∙ sym (append-nil (map row_of (filter (touches n) t.links)));
  neighbours = ids-declared own new ∙ fresh-ids (in_order nat_lt (map (λ (m : NodeId). m.0) beside))
      ∙ ap (λ ns. in_order nat_lt (map (λ (m : NodeId). m.0) ns)) (beside-are n t.links)
      ∙ ap (in_order nat_lt) (numbers-are n (filter (touches n) t.links));
  due = due-declared own new
      (subst (AllByRecursion (λ (r : TeRow). IsRowWritable n r)) (sym (own-are n t.links))
      (all-written t.nodes n t.links (each-link t valid)))
      (fresh-due (in_order nat_lt (map (λ (m : NodeId). m.0) beside)));
}
  where
    own : List TeRow
    own = own_rows (map row_of t.links) n

    beside : List NodeId
    beside = nodes_beside (map row_of t.links) n

    new : FloodState
    new = new_flood n beside

-- One link after the other can be declared

own-split : (n : NodeId) (ls : List LinkSpec) (i : ℕ) (l : LinkSpec) → i < length ls → l ≡ get_or ls i l →
    touches n l ≡ true →
    own_rows (map row_of ls) n
    ≡ own_rows (map row_of (take i ls)) n ++ row_of l ∷ own_rows (map row_of (drop (i + 1) ls)) n
own-split n [] i l within at own = absurd (omega arith)
own-split n (k ∷ ls) zero l within at own =
    let same : l ≡ k = at in
    ap (λ (x : LinkSpec). cond (touches n x) (row_of x ∷ own_rows (map row_of ls) n) (own_rows (map row_of ls) n))
    (sym same)
    ∙ ap (λ b. cond b (row_of l ∷ own_rows (map row_of ls) n) (own_rows (map row_of ls) n)) own
own-split n (k ∷ ls) (suc i) l within at own =
    let next : suc i + 1 ≡ suc (i + 1) = omega arith in
    go (touches n k) (own-split n ls i l (omega arith) at own)
    ∙ sym (ap (λ j. own_rows (map row_of (take (suc i) (k ∷ ls))) n ++ row_of l
    ∷ own_rows (map row_of (drop j (k ∷ ls))) n) next)
  where
    go : (b : Bool) → own_rows (map row_of ls) n
        ≡ own_rows (map row_of (take i ls)) n ++ row_of l ∷ own_rows (map row_of (drop (i + 1) ls)) n →
        cond b (row_of k ∷ own_rows (map row_of ls) n) (own_rows (map row_of ls) n)
        ≡ cond b (row_of k ∷ own_rows (map row_of (take i ls)) n) (own_rows (map row_of (take i ls)) n) ++ row_of l
        ∷ own_rows (map row_of (drop (i + 1) ls)) n
    go true later = ap (λ rows. row_of k ∷ rows) later
    go false later = later

pub can-declare : OwnCanBeDeclared → (n : NodeId) (ls : List LinkSpec) → AreRowsOfLinks (map row_of ls) → (i : ℕ)
    (l : LinkSpec) → i < length ls → l ≡ get_or ls i l → touches n l ≡ true →
    CanBeDeclared (declared_rows (new_flood n (nodes_beside (map row_of ls) n)) (own_rows (map row_of (take i ls)) n))
    (row_of l)
can-declare law n ls are i l within at own =
    law (map row_of ls) are n (own_rows (map row_of (take i ls)) n) (row_of l)
    (own_rows (map row_of (drop (i + 1) ls)) n) (own-split n ls i l within at own)

-- what can be declared to a flood can be declared to the same
pub declared-to : (s f : FloodState) (x row : TeRow) → f ≡ s → row ≡ x → CanBeDeclared s x → CanBeDeclared f row
declared-to s f x row same is can =
    subst (CanBeDeclared f) (sym is) (subst (λ (g : FloodState). CanBeDeclared g x) (sym same) can)
