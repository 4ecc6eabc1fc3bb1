-- What is summed over the stations is summed over the nodes.
use Rattle.std.proofs.{Common.{◌≡◌, ◌<◌, ◌+◌, ℕ, zero, suc, Bool, false, cond, nat_eq, nat_lt, List, [], ◌∷◌, ◌++◌, length, get_or, map, refl, sym, ap, ◌∙◌, subst, arith}, lemmas.List.Sums.sum_by-cons}
use Rattle.std.specs.{Prelude.{◌&&◌, IsTrue, Some, find, flat_map, sum_by}, List.{AllByRecursion, AllZip, list_all}}
use Rattle.ason_base.specs.{declared.ids.NodeId.NodeId, declared.commands.Disturb.Disturb, declared.network.NodeSpec.NodeSpec, Network.{Network, other_end}}
use Rattle.ason_base.proofs.{Ordered.{Rises, in_order-rises}, RisingNumbers.nat_order, Numbers.self-number}
use Rattle.mesh_rules.specs.{LocalNodes.{LocalNode, local_node}, Rows.{all_call_rows, all_leg_rows, call_rows, leg_rows}, State.NodeState}
use Rattle.control_channels.specs.{declared.adjacencies.Adjacency.Adjacency, Adjacencies.{hop_at, hop_of, is_adjacency_to, neighbours, peer_numbers}, ReadyControllers.unacknowledged}
use Rattle.flood.specs.State.{pending_count}
use Rattle.control_channels.proofs.Reaching.{tail-rises}
use Rattle.world_rules.specs.{Images.image, Standing.NodeStands, Worlds.World}
use Rattle.world_merge.specs.Deeds.{alone}
use Rattle.round_rules.specs.{Records.{Record, deeds_at, world_of}, States.StationState, Fleets.{IsStationAt, Wires}, Waiting.{is_world_quiet, is_quiet_at, items_waiting, rows_due_at, rows_waiting, unacked_at, unacked_waiting}}
use Rattle.fleet.specs.{Standing.{FleetState, StandsFor}, Waiting.{call_rows_of, has_nothing, leg_rows_of, rows_due_of, unacked_of}}

-- Two lists side by side

all-along : {X Y : Type 0} (p : X → Bool) (q : Y → Bool) (xs : List X) (ys : List Y) →
    AllZip (λ x y. p x ≡ q y) xs ys → list_all p xs ≡ list_all q ys
all-along p q [] [] all = refl
all-along p q [] (y ∷ ys) all = absurd all
all-along p q (x ∷ xs) [] all = absurd all
all-along p q (x ∷ xs) (y ∷ ys) all = ap (λ b. b && list_all p xs) all.0
    ∙ ap (λ b. q y && b) (all-along p q xs ys all.1)

sum-along : {X Y : Type 0} (p : X → ℕ) (q : Y → ℕ) (xs : List X) (ys : List Y) →
    AllZip (λ x y. p x ≡ q y) xs ys → sum_by p xs ≡ sum_by q ys
sum-along p q [] [] all = refl
sum-along p q [] (y ∷ ys) all = absurd all
sum-along p q (x ∷ xs) [] all = absurd all
sum-along p q (x ∷ xs) (y ∷ ys) all = sum_by-cons p x xs ∙ ap (λ k. k + sum_by p xs) all.0
    ∙ ap (λ k. q y + k) (sum-along p q xs ys all.1) ∙ sym (sum_by-cons q y ys)

rows-along : {X Y Z : Type 0} (p : X → List Z) (q : Y → List Z) (xs : List X) (ys : List Y) →
    AllZip (λ x y. p x ≡ q y) xs ys → flat_map p xs ≡ flat_map q ys
rows-along p q [] [] all = refl
rows-along p q [] (y ∷ ys) all = absurd all
rows-along p q (x ∷ xs) [] all = absurd all
rows-along p q (x ∷ xs) (y ∷ ys) all = ap (λ k. k ++ flat_map p xs) all.0
    ∙ ap (λ k. q y ++ k) (rows-along p q xs ys all.1)

-- a fact of each station and its node
stations_zip : (t : Network) (lines : List Disturb) (r : Record) (w : Wires) (R : StationState → NodeSpec → Type 0) →
    ((x : StationState) (n : NodeSpec) → NodeStands t (world_of t r) n.id x.controller x.desk → R x n) →
    (nodes : List NodeSpec) (xs : List StationState) →
    AllZip (IsStationAt t lines r w) (map (λ (n : NodeSpec). n.id) nodes) xs → AllZip R xs nodes
stations_zip t lines r w R f [] [] all = tt
stations_zip t lines r w R f [] (x ∷ xs) all = absurd all
stations_zip t lines r w R f (n ∷ nodes) [] all = absurd all
stations_zip t lines r w R f (n ∷ nodes) (x ∷ xs) all =
    (f x n (in_world all.0.station.stands.sound.node), stations_zip t lines r w R f nodes xs all.1)
  where
    in_world : NodeStands t (alone t n.id (deeds_at r n.id.0)) n.id x.controller x.desk →
        NodeStands t (world_of t r) n.id x.controller x.desk
    in_world is = record {
      place = is.place;
      stands = record { state = is.stands.state; hops = is.stands.hops };
      flood = is.flood;
      hops = is.hops;
      desk = is.desk;
      made = is.made;
    }

pub stations-along : (t : Network) (lines : List Disturb) (f : FleetState) (r : Record)
    (R : StationState → NodeSpec → Type 0) → StandsFor t lines f r →
    ((x : StationState) (n : NodeSpec) → NodeStands t (world_of t r) n.id x.controller x.desk → R x n) →
    AllZip R f.stations t.nodes
stations-along t lines f r R s each =
    stations_zip t lines r s.wires R each t.nodes f.stations s.stations.each

-- What isn't acknowledged

abbrev AllOver : ℕ → List ℕ → Type 0
AllOver x xs = AllByRecursion (λ y. x < y) xs

over : (x : ℕ) (xs : List ℕ) → Rises nat_lt (x ∷ xs) → AllOver x xs
over x [] r = tt
over x (y ∷ ys) r = (less x y (r.pairs 0 1 y (omega arith) (omega arith)), over x ys (without x y ys r))
  where
    less : (a b : ℕ) → IsTrue (nat_lt a b) → a < b
    less a b h = grind arith

    lower : (a b c : ℕ) → IsTrue (nat_lt a b) → IsTrue (nat_lt b c) → IsTrue (nat_lt a c)
    lower a b c h k = grind arith

    without : (a b : ℕ) (cs : List ℕ) → Rises nat_lt (a ∷ b ∷ cs) → Rises nat_lt (a ∷ cs)
    without a b cs q = record {
      pairs = λ i j d before within. go i j d before within;
    }
      where
        go : (i j d : ℕ) → i < j → j < suc (length cs) → IsTrue (nat_lt (get_or (a ∷ cs) i d) (get_or (a ∷ cs) j d))
        go zero zero d before within = absurd (omega arith)
        go zero (suc j) d before within = q.pairs 0 (suc (suc j)) d (omega arith) (omega arith)
        go (suc i) zero d before within = absurd (omega arith)
        go (suc i) (suc j) d before within = q.pairs (suc (suc i)) (suc (suc j)) d (omega arith) (omega arith)

sum-same : (f g : ℕ → ℕ) (x : ℕ) (xs : List ℕ) → AllOver x xs → ((y : ℕ) → nat_eq x y ≡ false → f y ≡ g y) →
    sum_by f xs ≡ sum_by g xs
sum-same f g x [] all same = refl
sum-same f g x (y ∷ ys) all same =
    sum_by-cons f y ys ∙ ap (λ k. k + sum_by f ys) (same y (other x y all.0))
    ∙ ap (λ k. g y + k) (sum-same f g x ys all.1 same) ∙ sym (sum_by-cons g y ys)
  where
    other : (a b : ℕ) → a < b → nat_eq a b ≡ false
    other a b h = grind arith

unacked-sum : (xs : List Adjacency) → Rises nat_lt (peer_numbers xs) →
    unacknowledged xs ≡ sum_by (λ d. length (hop_at xs d).unacked) (peer_numbers xs)
unacked-sum [] rises = refl
unacked-sum (a ∷ xs) rises =
    ap (λ k. length a.hop.state.unacked + k) (unacked-sum xs (tail-rises a.peer.0 (peer_numbers xs) rises)
    ∙ sum-same (λ d. length (hop_at xs d).unacked) (λ d. length (hop_at (a ∷ xs) d).unacked) a.peer.0 (peer_numbers xs)
    (over a.peer.0 (peer_numbers xs) rises) elsewhere)
    ∙ ap (λ k. k + sum_by (λ d. length (hop_at (a ∷ xs) d).unacked) (peer_numbers xs)) (sym here)
    ∙ sym (sum_by-cons (λ d. length (hop_at (a ∷ xs) d).unacked) a.peer.0 (peer_numbers xs))
  where
    elsewhere : (d : ℕ) → nat_eq a.peer.0 d ≡ false →
        length (hop_at xs d).unacked ≡ length (hop_at (a ∷ xs) d).unacked
    elsewhere d e = sym (ap (λ b. length (hop_of (cond b (Some a) (find (is_adjacency_to d) xs))).state.unacked) e)

    here : length (hop_at (a ∷ xs) a.peer.0).unacked ≡ length a.hop.state.unacked
    here = ap (λ b. length (hop_of (cond b (Some a) (find (is_adjacency_to a.peer.0) xs))).state.unacked)
        (self-number a.peer.0)

sum-each : (f g : ℕ → ℕ) (xs : List ℕ) → ((x : ℕ) → f x ≡ g x) → sum_by f xs ≡ sum_by g xs
sum-each f g [] same = refl
sum-each f g (x ∷ xs) same = sum_by-cons f x xs ∙ ap (λ k. k + sum_by f xs) (same x)
    ∙ ap (λ k. g x + k) (sum-each f g xs same) ∙ sym (sum_by-cons g x xs)

unacked-node : (t : Network) (w : World) (n : NodeId) (s : StationState) → NodeStands t w n s.controller s.desk →
    unacked_of s ≡ unacked_at t w n
unacked-node t w n s is =
    unacked-sum s.controller.adjacencies (subst (λ ns. Rises nat_lt ns) (sym is.hops)
    (in_order-rises nat_lt nat_order (map (λ l. (other_end l n).0) (local_node t n).own)))
    ∙ ap (sum_by (λ d. length (hop_at s.controller.adjacencies d).unacked)) is.hops
    ∙ sum-each (λ d. length (hop_at s.controller.adjacencies d).unacked) (λ d. length (w.ends n.0 d).hop.unacked)
    (neighbours (local_node t n)) (λ d. ap (λ x. length x.unacked) (is.stands.hops d))

-- The fleet

pub quiet-stands : (t : Network) (lines : List Disturb) (f : FleetState) (r : Record) → StandsFor t lines f r →
    list_all has_nothing f.stations ≡ is_world_quiet t (world_of t r)
quiet-stands t lines f r s =
    all-along has_nothing _ f.stations t.nodes
    (stations-along t lines f r (λ x n. has_nothing x ≡ is_quiet_at t (world_of t r) n.id) s
    (λ x n is. ap (λ items. nat_eq (length items) 0 && nat_eq (unacked_of x) 0 && nat_eq (rows_due_of x) 0) is.desk
    ∙ ap (λ k. nat_eq (length ((world_of t r).desks n.id.0)) 0 && nat_eq k 0 && nat_eq (rows_due_of x) 0)
    (unacked-node t (world_of t r) n.id x is)
    ∙ ap (λ k. nat_eq (length ((world_of t r).desks n.id.0)) 0
    && nat_eq (unacked_at t (world_of t r) n.id) 0 && nat_eq k 0) (ap pending_count is.flood)))

pub items-stand : (t : Network) (lines : List Disturb) (f : FleetState) (r : Record) → StandsFor t lines f r →
    sum_by (λ (x : StationState). length x.desk) f.stations ≡ items_waiting t (world_of t r)
items-stand t lines f r s =
    sum-along (λ (x : StationState). length x.desk) _ f.stations t.nodes
    (stations-along t lines f r (λ x n. length x.desk ≡ length ((world_of t r).desks n.id.0)) s
    (λ x n is. ap length is.desk))

pub unacked-stands : (t : Network) (lines : List Disturb) (f : FleetState) (r : Record) → StandsFor t lines f r →
    sum_by unacked_of f.stations ≡ unacked_waiting t (world_of t r)
unacked-stands t lines f r s =
    sum-along unacked_of _ f.stations t.nodes
    (stations-along t lines f r (λ x n. unacked_of x ≡ unacked_at t (world_of t r) n.id) s
    (λ x n is. unacked-node t (world_of t r) n.id x is))

pub rows-stand : (t : Network) (lines : List Disturb) (f : FleetState) (r : Record) → StandsFor t lines f r →
    sum_by rows_due_of f.stations ≡ rows_waiting t (world_of t r)
rows-stand t lines f r s =
    sum-along rows_due_of _ f.stations t.nodes
    (stations-along t lines f r (λ x n. rows_due_of x ≡ rows_due_at (world_of t r) n.id) s
    (λ x n is. ap pending_count is.flood))

-- the rows of each node
node_rows : {X : Type 0} (f : NodeId → NodeState → List X) (t : Network) (lines : List Disturb) (fleet : FleetState)
    (r : Record) → StandsFor t lines fleet r → (xs : List StationState) → xs ≡ fleet.stations →
    flat_map (λ (x : StationState). f x.controller.node.place.id x.controller.node.state) xs ≡
    flat_map (λ (n : NodeSpec). f n.id ((world_of t r).nodes n.id.0)) t.nodes
node_rows f t lines fleet r s xs same =
    ap (flat_map (λ (x : StationState). f x.controller.node.place.id x.controller.node.state)) same
    ∙ rows-along _ _ fleet.stations t.nodes
    (stations-along t lines fleet r
    (λ x n. f x.controller.node.place.id x.controller.node.state ≡ f n.id ((world_of t r).nodes n.id.0)) s
    (λ x n is. ap (λ (p : LocalNode). f p.id x.controller.node.state) is.place ∙ ap (f n.id) is.stands.state))

pub calls-stand : (t : Network) (lines : List Disturb) (f : FleetState) (r : Record) → StandsFor t lines f r →
    (xs : List StationState) → xs ≡ f.stations →
    flat_map call_rows_of xs ≡ all_call_rows t (image (world_of t r))
calls-stand = node_rows call_rows

pub legs-stand : (t : Network) (lines : List Disturb) (f : FleetState) (r : Record) → StandsFor t lines f r →
    (xs : List StationState) → xs ≡ f.stations →
    flat_map leg_rows_of xs ≡ all_leg_rows t (image (world_of t r))
legs-stand = node_rows leg_rows
