-- What is read of a replay is what the world shows.
use Rattle.std.proofs.{Common.{◌≡◌, ℕ, Bool, true, false, cond, nat_eq, List, [], ◌∷◌, ◌++◌, length, map, refl, sym, ap, ◌∙◌, subst, arith, eqb-true}, lemmas.List.nil_from_length}
use Rattle.std.specs.{Prelude.{◌&&◌, Option, Some, None, find, flat_map, is_some}, List.{AllByRecursion, list_all}}
use Rattle.ason_base.specs.{declared.commands.DeskItem.DeskItem, declared.ids.NodeId.NodeId, declared.network.NodeSpec.NodeSpec, Network.Network}
use Rattle.ason_base.proofs.Bools.{and-left, and-right}
use Rattle.flood.specs.State.{FloodState, pending_count}
use Rattle.hop_reliable.specs.Hop.{HopState}
use Rattle.mesh_rules.specs.{LocalNodes.{LocalNode, local_node}, State.NodeState}
use Rattle.control_channels.specs.{declared.adjacencies.Adjacency.Adjacency, Adjacencies.{hop_at, hop_of, is_adjacency_to}, ReadyControllers.unacknowledged}
use Rattle.control_channels.proofs.Reaching.{each-to_neighbour}
use Rattle.world_rules.specs.{Images.IsQuietWorld, Worlds.World}
use Rattle.world_core.specs.{Replays.{StateStandsFor, WorldState}, Seats.{SeatStands, SeatState, is_seat_at, is_quiet}}
use Rattle.world_core.proofs.{Finding.found-has, Places.{seat_nodes, seat-there}}

-- Tables

pub rows-are : {R : Type 0} (F : NodeId → NodeState → List R) (t : Network) (w : World) (seats : List SeatState)
    (nodes : List NodeSpec) → seat_nodes seats ≡ map (λ (m : NodeSpec). m.id) nodes →
    AllByRecursion (SeatStands t w) seats →
    flat_map (λ (s : SeatState). F s.controller.node.place.id s.controller.node.state) seats
    ≡ flat_map (λ (m : NodeSpec). F m.id (w.nodes m.id.0)) nodes
rows-are F t w [] [] e all = refl
rows-are F t w [] (m ∷ ms) e all = absurd (cc (e))
rows-are F t w (s ∷ ss) [] e all = absurd (cc (e))
rows-are {R} F t w (s ∷ ss) (m ∷ ms) e all =
    ap (λ xs. xs ++ flat_map (λ (x : SeatState). F x.controller.node.place.id x.controller.node.state) ss) here
    ∙ ap (λ xs. F m.id (w.nodes m.id.0) ++ xs) (rows-are F t w ss ms rest all.1)
  where
    node : s.node ≡ m.id
    node = cc (e)

    rest : seat_nodes ss ≡ map (λ (k : NodeSpec). k.id) ms
    rest = cc (e)

    here : F s.controller.node.place.id s.controller.node.state ≡ F m.id (w.nodes m.id.0)
    here =
        ap (λ n. F n s.controller.node.state) (ap (λ (p : LocalNode). p.id) all.0.place ∙ node)
        ∙ ap (F m.id) (all.0.stands.state ∙ ap (λ (n : NodeId). w.nodes n.0) node)

-- the rows of a world's seats are those of its nodes
pub rows-stand : {R : Type 0} (F : NodeId → NodeState → List R) (t : Network) (w : World) (k : WorldState)
    (seats : List SeatState) → seats ≡ k.seats → StateStandsFor t k w →
    flat_map (λ (s : SeatState). F s.controller.node.place.id s.controller.node.state) seats
    ≡ flat_map (λ (m : NodeSpec). F m.id (w.nodes m.id.0)) t.nodes
rows-stand F t w k seats same stands =
    ap (flat_map (λ (s : SeatState). F s.controller.node.place.id s.controller.node.state)) same
    ∙ rows-are F t w k.seats t.nodes stands.nodes stands.seats

-- Quiet

all_pass : (p : SeatState → Bool) (seats : List SeatState) → list_all p seats ≡ true →
    AllByRecursion (λ (s : SeatState). p s ≡ true) seats
all_pass p [] h = tt
all_pass p (s ∷ ss) h =
    (and-left (p s) (list_all p ss) h, all_pass p ss (and-right (p s) (list_all p ss) h))

pass_all : (p : SeatState → Bool) (seats : List SeatState) → AllByRecursion (λ (s : SeatState). p s ≡ true) seats →
    list_all p seats ≡ true
pass_all p [] all = refl
pass_all p (s ∷ ss) all = rw all.0 (pass_all p ss all.1)

no-unacked : (xs : List Adjacency) → unacknowledged xs ≡ 0 → (d : ℕ) → (hop_at xs d).unacked ≡ []
no-unacked [] none d = refl
no-unacked (a ∷ xs) none d = go (nat_eq a.peer.0 d) (no-unacked xs (omega arith) d)
  where
    go : (b : Bool) → (hop_at xs d).unacked ≡ [] →
        (hop_of (cond b (Some a) (find (is_adjacency_to d) xs))).state.unacked ≡ []
    go true later = nil_from_length a.hop.state.unacked (omega arith)
    go false later = later

all-acked : (xs : List Adjacency) → AllByRecursion (λ (a : Adjacency). a.hop.state.unacked ≡ []) xs →
    unacknowledged xs ≡ 0
all-acked [] all = refl
all-acked (a ∷ xs) all =
    let none : length a.hop.state.unacked ≡ 0 = ap length all.0 in
    let rest : unacknowledged xs ≡ 0 = all-acked xs all.1 in
    omega arith

zero_is : (n : ℕ) → nat_eq n 0 ≡ true → n ≡ 0
zero_is n h = grind arith

-- nothing waits at this number
pub record IsNodeStill (w : World) (n : ℕ) : Type 0 where
  pub desk : w.desks n ≡ []
  pub hops : (d : ℕ) → (w.ends n d).hop.unacked ≡ []
  pub flood : pending_count (w.floods n) ≡ 0

-- whoever has the node's desk, its hops and what it floods finds nothing waiting there
pub nothing-waits : (w : World) (n : ℕ) (items : List DeskItem) (xs : List Adjacency) (f : FloodState) →
    items ≡ w.desks n → ((d : ℕ) → hop_at xs d ≡ (w.ends n d).hop) → f ≡ w.floods n →
    (nat_eq (length items) 0 && nat_eq (unacknowledged xs) 0 && nat_eq (pending_count f) 0) ≡ true → IsNodeStill w n
nothing-waits w n items xs f desk hops flood quiet =
    let none : Bool = nat_eq (length items) 0 in
    let acked : Bool = nat_eq (unacknowledged xs) 0 in
    let rows : Bool = nat_eq (pending_count f) 0 in
    let both = and-left (none && acked) rows quiet in
    record {
      desk = sym desk ∙ nil_from_length items (zero_is (length items) (and-left none acked both));
      hops = λ d. ap (λ (h : HopState). h.unacked) (sym (hops d))
          ∙ no-unacked xs (zero_is (unacknowledged xs) (and-right none acked both)) d;
      flood = ap pending_count (sym flood)
          ∙ zero_is (pending_count f) (and-right (none && acked) rows quiet);
    }

seat_still : (t : Network) (w : World) (s : SeatState) → is_quiet s ≡ true → SeatStands t w s → IsNodeStill w s.node.0
seat_still t w s quiet stands =
    nothing-waits w s.node.0 s.desk s.controller.adjacencies s.controller.flood stands.desk stands.stands.hops
    stands.flood quiet

still_at : (t : Network) (k : WorldState) (w : World) → StateStandsFor t k w → list_all is_quiet k.seats ≡ true →
    (n : NodeId) →
    IsNodeStill w n.0
still_at t k w stands quiet n = go (find (is_seat_at n.0) k.seats) refl
  where
    go : (o : Option SeatState) → find (is_seat_at n.0) k.seats ≡ o → IsNodeStill w n.0
    go None e =
        let is = stands.nowhere n (sym (seat-there k.seats t.nodes n stands.nodes) ∙ ap is_some e) in
        record { desk = is.desk; hops = is.hops; flood = is.flood }
    go (Some s) e =
        let sits = found-has (is_seat_at n.0) (SeatStands t w) k.seats s stands.seats e in
        let rests = found-has (is_seat_at n.0) (λ (x : SeatState). is_quiet x ≡ true) k.seats s
        (all_pass is_quiet k.seats quiet) e in
        subst (IsNodeStill w) (eqb-true s.node.0 n.0 sits.0) (seat_still t w s rests.1 sits.1)

pub quiet-is : (t : Network) (k : WorldState) (w : World) → StateStandsFor t k w → list_all is_quiet k.seats ≡ true →
    IsQuietWorld w
quiet-is t k w stands quiet = record {
  desks = λ n. (still_at t k w stands quiet (record { 0 = n })).desk;
  hops = λ u d. (still_at t k w stands quiet (record { 0 = u })).hops d;
  floods = λ n. (still_at t k w stands quiet (record { 0 = n })).flood;
}

seat_quiet : (t : Network) (w : World) (s : SeatState) → IsQuietWorld w → SeatStands t w s → is_quiet s ≡ true
seat_quiet t w s quiet stands =
    both (nat_eq (length s.desk) 0 && nat_eq (unacknowledged s.controller.adjacencies) 0)
    (nat_eq (pending_count s.controller.flood) 0)
    (both (nat_eq (length s.desk) 0) (nat_eq (unacknowledged s.controller.adjacencies) 0)
    (ap (λ items. nat_eq (length items) 0) (stands.desk ∙ quiet.desks s.node.0))
    (ap (λ n. nat_eq n 0) (all-acked s.controller.adjacencies acked)))
    (ap (λ n. nat_eq n 0) (ap pending_count stands.flood ∙ quiet.floods s.node.0))
  where
    both : (b c : Bool) → b ≡ true → c ≡ true → (b && c) ≡ true
    both b c p q = grind arith

    acked : AllByRecursion (λ (a : Adjacency). a.hop.state.unacked ≡ []) s.controller.adjacencies
    acked =
        each-to_neighbour (λ h. h.unacked ≡ []) (local_node t s.node) s.controller.adjacencies stands.hops refl
        (λ d. ap (λ (h : HopState). h.unacked) (stands.stands.hops d) ∙ quiet.hops s.node.0 d)

pub is-quiet : (t : Network) (k : WorldState) (w : World) → StateStandsFor t k w → IsQuietWorld w →
    list_all is_quiet k.seats ≡ true
is-quiet t k w stands quiet = pass_all is_quiet k.seats (go k.seats stands.seats)
  where
    go : (seats : List SeatState) → AllByRecursion (SeatStands t w) seats →
        AllByRecursion (λ (s : SeatState). is_quiet s ≡ true) seats
    go [] all = tt
    go (s ∷ ss) all = (seat_quiet t w s quiet all.0, go ss all.1)
