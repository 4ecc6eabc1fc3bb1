-- Nodes of a topology are apart, and channels lead both ways.
use Rattle.std.proofs.{Common.{◌≡◌, ◌<◌, ℕ, Bool, true, false, cond, not, nat_eq, List, [], ◌∷◌, map, filter, refl, sym, ap, ◌∙◌, subst, arith}, Math.Bool.or_comm}
use Rattle.std.specs.{Prelude.{◌&&◌, ◌||◌}, List.{AllByRecursion, Contains, list_any}}
use Rattle.ason_base.specs.{declared.ids.NodeId.NodeId, declared.network.LinkSpec.LinkSpec, declared.network.NodeSpec.NodeSpec, Network.{IsTopology, Network, are_ends, is_node_id}}
use Rattle.ason_base.proofs.{Ordered.{any-there, there-any}, Members.{there-kept, kept-there, there-from_map, there-map}, Numbers.self-number, Bridges.same_node}
use Rattle.world_rules.specs.WorldRuns.{is_world_channel, neighbours_of}
use Rattle.world_rules.proofs.Numbered.{NodesRiseAbove, rises}
use Rattle.round_rules.specs.{OneWorker.ids_of, FleetOneWorker.is_node_among, Moves.AreApart}

-- The nodes of a topology rise, so no two of them are the same

others : (p : NodeSpec → Bool) (a n : ℕ) (nodes : List NodeSpec) → a < n → NodesRiseAbove n nodes →
    AllByRecursion (λ (m : NodeId). nat_eq m.0 a ≡ false) (map (λ (m : NodeSpec). m.id) (filter p nodes))
others p a n [] less up = tt
others p a n (m ∷ ms) less up = go (p m) (others p a m.id.0 ms (omega (arith, first, less)) up.1)
  where
    first : n < m.id.0
    first = up.0

    other : nat_eq m.id.0 a ≡ false
    other = grind (arith, first, less)

    go : (b : Bool) →
        AllByRecursion (λ (k : NodeId). nat_eq k.0 a ≡ false) (map (λ (k : NodeSpec). k.id) (filter p ms)) →
        AllByRecursion (λ (k : NodeId). nat_eq k.0 a ≡ false)
        (map (λ (k : NodeSpec). k.id) (cond b (m ∷ filter p ms) (filter p ms)))
    go true rest = (other, rest)
    go false rest = rest

apart_if : (p : NodeSpec → Bool) (n : ℕ) (nodes : List NodeSpec) → NodesRiseAbove n nodes →
    AreApart (map (λ (m : NodeSpec). m.id) (filter p nodes))
apart_if p n [] up = tt
apart_if p n (m ∷ ms) up = go (p m) (after ms up.1) (apart_if p m.id.0 ms up.1)
  where
    after : (ks : List NodeSpec) → NodesRiseAbove m.id.0 ks →
        AllByRecursion (λ (k : NodeId). nat_eq k.0 m.id.0 ≡ false) (map (λ (k : NodeSpec). k.id) (filter p ks))
    after [] h = tt
    after (k ∷ ks) h = all (p k) (others p m.id.0 k.id.0 ks h.0 h.1)
      where
        other : nat_eq k.id.0 m.id.0 ≡ false
        other = let first : m.id.0 < k.id.0 = h.0 in grind (arith, first)

        all : (b : Bool) →
            AllByRecursion (λ (j : NodeId). nat_eq j.0 m.id.0 ≡ false) (map (λ (j : NodeSpec). j.id) (filter p ks)) →
            AllByRecursion (λ (j : NodeId). nat_eq j.0 m.id.0 ≡ false)
            (map (λ (j : NodeSpec). j.id) (cond b (k ∷ filter p ks) (filter p ks)))
        all true rest = (other, rest)
        all false rest = rest

    go : (b : Bool) →
        AllByRecursion (λ (k : NodeId). nat_eq k.0 m.id.0 ≡ false) (map (λ (k : NodeSpec). k.id) (filter p ms)) →
        AreApart (map (λ (k : NodeSpec). k.id) (filter p ms)) →
        AreApart (map (λ (k : NodeSpec). k.id) (cond b (m ∷ filter p ms) (filter p ms)))
    go true first rest = (first, rest)
    go false first rest = rest

all_pass : (nodes : List NodeSpec) → filter (λ (m : NodeSpec). true) nodes ≡ nodes
all_pass [] = refl
all_pass (m ∷ ms) = ap (λ ks. m ∷ ks) (all_pass ms)

-- No node of a network stands twice.
pub apart-ids : (t : Network) → IsTopology t → AreApart (ids_of t)
apart-ids t valid =
    subst (λ ks. AreApart (map (λ (m : NodeSpec). m.id) ks)) (all_pass t.nodes)
    (apart_if (λ m. true) 0 t.nodes (rises t valid))

-- Nor among the neighbours of a node.
pub apart-near : (t : Network) → IsTopology t → (n : NodeId) → AreApart (neighbours_of t n)
apart-near t valid n = apart_if (λ m. is_world_channel t m.id n) 0 t.nodes (rises t valid)

-- Whether a node is among these

-- whether a number is that of a node of the network
pub among-ids : (t : Network) (n : NodeId) → is_node_among (ids_of t) n.0 ≡ is_node_id t.nodes n
among-ids t n = go t.nodes
  where
    go : (nodes : List NodeSpec) → is_node_among (map (λ (m : NodeSpec). m.id) nodes) n.0 ≡ is_node_id nodes n
    go [] = refl
    go (m ∷ ms) = ap (λ b. nat_eq m.id.0 n.0 || b) (go ms)

-- a number among those of these nodes is that of one of them
pub among-there : (ns : List NodeId) (n : NodeId) → is_node_among ns n.0 ≡ true → Contains ns n
among-there ns n h =
    let found = any-there (λ (k : NodeId). nat_eq k.0 n.0) ns h in
    subst (λ (k : NodeId). Contains ns k) (same_node found.0 n found.2) found.1

-- and one of them has its number there
pub there-among : (ns : List NodeId) (n : NodeId) → Contains ns n → is_node_among ns n.0 ≡ true
there-among ns n there = there-any (λ (k : NodeId). nat_eq k.0 n.0) ns n there (self-number n.0)

-- each node of the network is one of its ids
pub node-there : (t : Network) (n : NodeId) → is_node_id t.nodes n ≡ true → Contains (ids_of t) n
node-there t n known = among-there (ids_of t) n (among-ids t n ∙ known)

-- Channels

pub record JoinsNodes (t : Network) (u d : NodeId) : Type 0 where
  pub from : is_node_id t.nodes u ≡ true
  pub to : is_node_id t.nodes d ≡ true
  pub other : nat_eq u.0 d.0 ≡ false
  pub link : list_any (λ l. are_ends l.low l.high u d) t.links ≡ true

-- What a channel tells of its two nodes.
pub joins-nodes : (t : Network) (u d : NodeId) → is_world_channel t u d ≡ true → JoinsNodes t u d
joins-nodes t u d h =
    go (is_node_id t.nodes u) refl (is_node_id t.nodes d) refl (nat_eq u.0 d.0) refl
    (list_any (λ l. are_ends l.low l.high u d) t.links) refl h
  where
    go : (a : Bool) → is_node_id t.nodes u ≡ a → (b : Bool) → is_node_id t.nodes d ≡ b → (c : Bool) →
        nat_eq u.0 d.0 ≡ c → (e : Bool) → list_any (λ l. are_ends l.low l.high u d) t.links ≡ e →
        (a && b && not c && e) ≡ true → JoinsNodes t u d
    go true a true b false c true e k = record { from = a; to = b; other = c; link = e }
    go true a true b false c false e k = absurd (cc (k))
    go true a true b true c e f k = absurd (cc (k))
    go true a false b c d e f k = absurd (cc (k))
    go false a b c d e f g k = absurd (cc (k))

both_ways : (u d : NodeId) (links : List LinkSpec) → list_any (λ l. are_ends l.low l.high u d) links
    ≡ list_any (λ l. are_ends l.low l.high d u) links
both_ways u d [] = refl
both_ways u d (l ∷ ls) =
    ap (λ b. b || list_any (λ k. are_ends k.low k.high u d) ls)
    (or_comm (nat_eq l.low.0 u.0 && nat_eq l.high.0 d.0) (nat_eq l.low.0 d.0 && nat_eq l.high.0 u.0))
    ∙ ap (λ b. are_ends l.low l.high d u || b) (both_ways u d ls)

-- A channel leads back too.
pub channel-back : (t : Network) (u d : NodeId) → is_world_channel t u d ≡ true → is_world_channel t d u ≡ true
channel-back t u d h =
    let is : JoinsNodes t u d = joins-nodes t u d h in
    let turned : nat_eq d.0 u.0 ≡ false = (let other = is.other in grind (arith, other)) in
    all (is_node_id t.nodes d) (is_node_id t.nodes u) (nat_eq d.0 u.0)
    (list_any (λ l. are_ends l.low l.high d u) t.links) is.to is.from turned (sym (both_ways u d t.links) ∙ is.link)
  where
    all : (a b c e : Bool) → a ≡ true → b ≡ true → c ≡ false → e ≡ true → (a && b && not c && e) ≡ true
    all true true false true p q r s = refl
    all false b c e p q r s = absurd (cc (p))
    all true false c e p q r s = absurd (cc (q))
    all true true true e p q r s = absurd (cc (r))
    all true true false false p q r s = absurd (cc (s))

-- a channel leads from each neighbour, and whence one leads is a neighbour
pub channel-near : (t : Network) (n u : NodeId) → Contains (neighbours_of t n) u → is_world_channel t u n ≡ true
channel-near t n u there =
    subst (λ (v : NodeId). is_world_channel t v n ≡ true) found.2
    (kept-there (λ (m : NodeSpec). is_world_channel t m.id n) t.nodes found.0 found.1).1
  where
    found : (m : NodeSpec) × Contains (filter (λ (m : NodeSpec). is_world_channel t m.id n) t.nodes) m × (m.id ≡ u)
    found = there-from_map (λ (m : NodeSpec). m.id) (filter (λ (m : NodeSpec). is_world_channel t m.id n) t.nodes) u
        there

-- whence a channel leads is a neighbour
pub near-there : (t : Network) (n u : NodeId) → is_world_channel t u n ≡ true → Contains (neighbours_of t n) u
near-there t n u h =
    subst (λ (v : NodeId). Contains (neighbours_of t n) v) same
    (there-map (λ (m : NodeSpec). m.id) (filter (λ (m : NodeSpec). is_world_channel t m.id n) t.nodes) found.0
    (there-kept (λ (m : NodeSpec). is_world_channel t m.id n) t.nodes found.0 found.1
    (ap (λ (v : NodeId). is_world_channel t v n) same ∙ h)))
  where
    found : (m : NodeSpec) × Contains t.nodes m × (nat_eq m.id.0 u.0 ≡ true)
    found = any-there (λ (m : NodeSpec). nat_eq m.id.0 u.0) t.nodes (joins-nodes t u n h).from

    same : found.0.id ≡ u
    same = same_node found.0.id u found.2
