-- New seats stand for the start of a world.
use Rattle.std.proofs.{Common.{◌≡◌, ◌<◌, ◌-◌, ℕ, Bool, true, false, nat_eq, List, [], ◌∷◌, get_or, length, map, refl, sym, ap, ◌∙◌, subst, arith}, lemmas.Option.slice_get-get_or}
use Rattle.std.specs.{Prelude.{◌||◌, IsTrue, filter, is_some, slice_get}, List.{AllByRecursion, list_any}}
use Rattle.ason_base.specs.{declared.ids.NodeId.NodeId, declared.network.LinkSpec.LinkSpec, declared.network.NodeSpec.NodeSpec, declared.network.TeRow.TeRow, Network.{IsTopology, Network, end_beside, find_node, is_distinct, is_link, is_node_id, row_of, touches}}
use Rattle.ason_base.proofs.Numbers.{self-number}
use Rattle.flood.specs.{Networks.{declared_rows, new_flood, own_rows}, State.pending_count}
use Rattle.mesh_rules.proofs.Topologies.{each-link}
use Rattle.control_channels.proofs.Beginning.{link-ends, own-are}
use Rattle.world_core.specs.{Replays.StateStandsFor, Seats.{SeatStands, SeatState, new_seat}}
use Rattle.world_rules.specs.Worlds.{world_start}
use Rattle.world_core.proofs.{Finding.item-found, Seating.new-stands}
use Rattle.world_rules.proofs.Numbered.{NodesRiseAbove, rises}

-- The nodes of a topology rise, so no two have the same number

rises_less : (n k : ℕ) (nodes : List NodeSpec) → n < k → NodesRiseAbove k nodes → NodesRiseAbove n nodes
rises_less n k [] less rising = tt
rises_less n k (m ∷ ms) less rising = (let h : k < m.id.0 = rising.0 in omega arith, rising.1)

abbrev numbers : List NodeSpec → List ℕ
numbers nodes = map (λ (m : NodeSpec). m.id.0) nodes

not_above : (n : ℕ) (nodes : List NodeSpec) → NodesRiseAbove n nodes →
    list_any (λ y. nat_eq y n) (numbers nodes) ≡ false
not_above n [] rising = refl
not_above n (m ∷ ms) rising =
    rw (apart m.id.0 n rising.0) (not_above n ms (rises_less n m.id.0 ms rising.0 rising.1))
  where
    apart : (a b : ℕ) → b < a → nat_eq a b ≡ false
    apart a b h = grind arith

distinct : (n : ℕ) (nodes : List NodeSpec) → NodesRiseAbove n nodes → is_distinct (numbers nodes) ≡ true
distinct n [] rising = refl
distinct n (m ∷ ms) rising = rw (not_above m.id.0 ms rising.1) (distinct m.id.0 ms rising.1)

-- The seats

nodes-new : (t : Network) (nodes : List NodeSpec) →
    map (λ (s : SeatState). s.node) (map (λ (m : NodeSpec). new_seat t m.id) nodes) ≡ map (λ (m : NodeSpec). m.id) nodes
nodes-new t [] = refl
nodes-new t (m ∷ ms) = ap (λ ns. m.id ∷ ns) (nodes-new t ms)

numbers-new : (t : Network) (nodes : List NodeSpec) →
    map (λ (s : SeatState). s.node.0) (map (λ (m : NodeSpec). new_seat t m.id) nodes) ≡ numbers nodes
numbers-new t [] = refl
numbers-new t (m ∷ ms) = ap (λ ns. m.id.0 ∷ ns) (numbers-new t ms)

all-new : (t : Network) (nodes : List NodeSpec) →
    AllByRecursion (SeatStands t (world_start t)) (map (λ (m : NodeSpec). new_seat t m.id) nodes)
all-new t [] = tt
all-new t (m ∷ ms) = (new-stands t m.id, all-new t ms)

-- at a number that is no node's nothing is due

no-end : (nodes : List NodeSpec) (l : LinkSpec) (n : NodeId) → is_link nodes l ≡ true → is_node_id nodes n ≡ false →
    touches n l ≡ false
no-end nodes l n link none = go (touches n l) refl
  where
    low : is_node_id nodes l.low ≡ true
    low = (link-ends nodes l link).0

    high : is_node_id nodes l.high ≡ true
    high = (link-ends nodes l link).1

    same : (a b : ℕ) → nat_eq a b ≡ true → a ≡ b
    same a b h = grind arith

    here : (m : NodeId) → nat_eq m.0 n.0 ≡ true → is_node_id nodes m ≡ true → ⊥
    here m e there =
        absurd (cc (none, subst (λ k. is_node_id nodes (record { 0 = k }) ≡ true) (same m.0 n.0 e) there))

    either : (b c : Bool) → (b || c) ≡ true → (b ≡ true → ⊥) → (c ≡ true → ⊥) → ⊥
    either true c h f g = f refl
    either false c h f g = g h

    go : (b : Bool) → touches n l ≡ b → touches n l ≡ false
    go false h = h
    go true h = absurd (either (nat_eq l.low.0 n.0) (nat_eq l.high.0 n.0) h (λ e. here l.low e low)
        (λ e. here l.high e high))

no-own : (nodes : List NodeSpec) (n : NodeId) (ls : List LinkSpec) →
    AllByRecursion (λ l. is_link nodes l ≡ true) ls → is_node_id nodes n ≡ false → filter (touches n) ls ≡ []
no-own nodes n [] all none = refl
no-own nodes n (l ∷ ls) all none = rw (no-end nodes l n all.0 none) (no-own nodes n ls all.1 none)

pub nothing-due : (t : Network) (n : NodeId) → IsTopology t → is_node_id t.nodes n ≡ false →
    pending_count ((world_start t).floods n.0) ≡ 0
nothing-due t n is none =
    let own : own_rows (map row_of t.links) n ≡ [] =
    own-are n t.links ∙ ap (map row_of) (no-own t.nodes n t.links (each-link t is) none) in
    subst (λ rows. pending_count
    (declared_rows (new_flood n (map (λ (r : TeRow). end_beside r.low r.high n) rows)) rows) ≡ 0) (sym own) refl

pub new-world : (t : Network) → IsTopology t →
    StateStandsFor t (record { seats = map (λ (m : NodeSpec). new_seat t m.id) t.nodes; posted = []; failed = [] })
    (world_start t)
new-world t is = record {
  nodes = nodes-new t t.nodes;
  apart = ap is_distinct (numbers-new t t.nodes) ∙ distinct 0 t.nodes (rises t is);
  seats = all-new t t.nodes;
  nowhere = λ n none. record { desk = refl; hops = λ d. refl; flood = nothing-due t n is none };
  posted = refl;
  failed = refl;
}

-- a node of the topology is found there
pub node-found : (t : Network) (nodes : List NodeSpec) (i : ℕ) (d : NodeSpec) → nodes ≡ t.nodes → i < length nodes →
    IsTrue (is_some (find_node t (get_or nodes i d).id))
node-found t nodes i d same within =
    item-found (λ (k : NodeSpec). nat_eq k.id.0 m.id.0) t.nodes i m
    (ap (λ ms. slice_get ms i) (sym same) ∙ slice_get-get_or nodes i d within) (self-number m.id.0)
  where
    m : NodeSpec
    m = get_or nodes i d
