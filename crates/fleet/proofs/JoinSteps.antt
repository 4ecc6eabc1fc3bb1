-- One pair of stations more is joined.
use Rattle.std.proofs.{Common.{◌≡◌, ◌<◌, ◌+◌, ℕ, true, false, nat_eq, List, [], ◌∷◌, ◌++◌, length, map, refl, sym, ap, ◌∙◌, subst, arith}, lemmas.List.length-map, lemmas.Option.slice_get_within}
use Rattle.std.specs.{Prelude.{IsTrue, Some, slice_get}, List.AllByRecursion}
use Rattle.ason_base.specs.{declared.ids.NodeId.NodeId, declared.network.NodeSpec.NodeSpec, Network.{IsTopology, Network}}
use Rattle.ason_base.proofs.Places.{there-at}
use Rattle.mesh_nodes.specs.LocalNodes.{is_neighbour}
use Rattle.mesh_rules.specs.LocalNodes.{local_node}
use Rattle.world_rules.specs.WorldRuns.{is_world_channel}
use Rattle.world_rules.proofs.Untouched.{channels-join-neighbours}
use Rattle.round_rules.specs.{OneWorker.ids_of, Entered.me_of, Moves.peers_of, States.StationState, Fleets.Wires}
use Rattle.station_rings.specs.LinkStates.{LinkState}
use Rattle.station.specs.Joined.{with_link}
use Rattle.round_rules.proofs.Nodes.{channel-back}
use Rattle.fleet.specs.Joining.{AreNewUpTo, IsNewUpTo, MayBeJoined, joined_up_to, near_among}
use Rattle.fleet.proofs.{JoinPlaces.{joined-high, joined-low}, Near.{near-apart, near-next}, Wires.same-map}

-- The pair may be joined

station_there : (t : Network) (joined : ℕ → ℕ) (xs : List StationState) (place : ℕ) (n : NodeId) →
    AreNewUpTo t joined xs → slice_get (ids_of t) place ≡ Some n →
    (s : StationState) × (slice_get xs place ≡ Some s)
station_there t joined xs place n new at =
    there-at xs place (less place (length (ids_of t)) (length t.nodes) (length xs) (slice_get_within (ids_of t) place n at)
    (length-map t.nodes (λ (m : NodeSpec). m.id)) new.count)
  where
    less : (a b c d : ℕ) → a < b → b ≡ c → d ≡ c → a < d
    less a b c d p q r = omega (arith, p, q, r)

pub me-is : (t : Network) (w : Wires) (count : ℕ) (n : NodeId) (s : StationState) → IsNewUpTo t w count n s →
    me_of s ≡ n
me-is t w count n s new = ap (λ c. c.node.place.id) new.controller

near_to : (t : Network) (w : Wires) (i j : ℕ) (n m : NodeId) (a b : StationState) → IsNewUpTo t w i n a →
    IsNewUpTo t w j m b → is_world_channel t m n ≡ true → IsTrue (is_neighbour a.controller.node.place (me_of b))
near_to t w i j n m a b new other channel =
    subst (λ c. IsTrue (is_neighbour c.node.place (me_of b))) (sym new.controller)
    (subst (λ (k : NodeId). IsTrue (is_neighbour (local_node t n) k)) (sym (me-is t w j m b other))
    (channels-join-neighbours t m n channel))

apart_from : (t : Network) (w : Wires) (count j : ℕ) (n m : NodeId) (a b : StationState) → IsTopology t →
    IsNewUpTo t w count n a → IsNewUpTo t w j m b → slice_get (ids_of t) count ≡ Some m →
    AllByRecursion (λ (k : NodeId). nat_eq k.0 (me_of b).0 ≡ false) (peers_of a.links)
apart_from t w count j n m a b valid new other at =
    subst (λ ks. AllByRecursion (λ (k : NodeId). nat_eq k.0 (me_of b).0 ≡ false) ks) (sym new.peers)
    (subst (λ (x : NodeId). AllByRecursion (λ (k : NodeId). nat_eq k.0 x.0 ≡ false) (near_among t count n))
    (sym (me-is t w j m b other)) (near-apart t n m count valid at))

-- Two stations of neighbours that come next may be joined.
pub may-be-joined : (t : Network) (xs : List StationState) (low high : ℕ) (n m : NodeId) → low < high →
    AreNewUpTo t (joined_up_to high low) xs → slice_get (ids_of t) low ≡ Some n →
    slice_get (ids_of t) high ≡ Some m → is_world_channel t n m ≡ true → MayBeJoined xs low high
may-be-joined t xs low high n m below all at there channel = record {
  here = a.0;
  there = b.0;
  is_here = a.1;
  is_there = b.1;
  near = near_to t w high low n m a.0 b.0 new new_back (channel-back t n m channel);
  near_back = near_to t w low high m n b.0 a.0 new_back new channel;
  apart = apart_from t w high low n m a.0 b.0 all.valid new new_back there;
  apart_back = apart_from t w low high m n b.0 a.0 all.valid new_back new at;
}
  where
    w : Wires
    w = all.wires

    a : (s : StationState) × (slice_get xs low ≡ Some s)
    a = station_there t (joined_up_to high low) xs low n all at

    b : (s : StationState) × (slice_get xs high ≡ Some s)
    b = station_there t (joined_up_to high low) xs high m all there

    new : IsNewUpTo t w high n a.0
    new = subst (λ k. IsNewUpTo t w k n a.0) (joined-low high low below) (all.each low n a.0 at a.1)

    new_back : IsNewUpTo t w low m b.0
    new_back = subst (λ k. IsNewUpTo t w k m b.0) (joined-high high low (omega (arith, below)))
        (all.each high m b.0 there b.1)

-- One link more

map_more : {X Y : Type 0} (f : X → Y) (xs : List X) (x : X) → map f (xs ++ x ∷ []) ≡ map f xs ++ f x ∷ []
map_more f [] x = refl
map_more f (y ∷ xs) x = ap (λ zs. f y ∷ zs) (map_more f xs x)

pub one-more : (t : Network) (w v : Wires) (count : ℕ) (n u : NodeId) (s : StationState) (l : LinkState) →
    IsNewUpTo t w count n s → slice_get (ids_of t) count ≡ Some u → is_world_channel t u n ≡ true → l.peer ≡ u →
    v n.0 u.0 ≡ l →
    AllByRecursion (λ (k : NodeId). w n.0 k.0 ≡ v n.0 k.0) (near_among t count n) →
    IsNewUpTo t v (count + 1) n (with_link s l)
one-more t w v count n u s l new at channel peer is same = record {
  controller = new.controller;
  desk = new.desk;
  links =
      ap (λ ls. ls ++ l ∷ [])
      (new.links ∙ same-map (λ (k : NodeId). w n.0 k.0) (λ (k : NodeId). v n.0 k.0) (near_among t count n) same)
      ∙ ap (λ k. map (λ (x : NodeId). v n.0 x.0) (near_among t count n) ++ k ∷ []) (sym is)
      ∙ sym (map_more (λ (k : NodeId). v n.0 k.0) (near_among t count n) u)
      ∙ ap (map (λ (k : NodeId). v n.0 k.0)) (sym next);
  peers =
      map_more (λ (k : LinkState). k.peer) s.links l
      ∙ ap (λ ks. ks ++ l.peer ∷ []) new.peers
      ∙ ap (λ (k : NodeId). near_among t count n ++ k ∷ []) peer
      ∙ sym next;
  clock = new.clock;
  log = new.log;
  held = new.held;
  lines = new.lines;
}
  where
    next : near_among t (count + 1) n ≡ near_among t count n ++ u ∷ []
    next = near-next t n u count at channel

same_all : {X : Type 0} (f g : NodeId → X) (us : List NodeId) → ((u : NodeId) → f u ≡ g u) →
    AllByRecursion (λ (u : NodeId). f u ≡ g u) us
same_all f g [] all = tt
same_all f g (u ∷ us) all = (all u, same_all f g us all)

-- by other names of its links, and where as many nodes are its neighbours
pub as-before : (t : Network) (w v : Wires) (i j : ℕ) (n : NodeId) (s : StationState) → IsNewUpTo t w i n s →
    near_among t j n ≡ near_among t i n → ((k : ℕ) → w n.0 k ≡ v n.0 k) → IsNewUpTo t v j n s
as-before t w v i j n s new near same = record {
  controller = new.controller;
  desk = new.desk;
  links =
      new.links
      ∙ same-map (λ (k : NodeId). w n.0 k.0) (λ (k : NodeId). v n.0 k.0) (near_among t i n)
      (same_all (λ (k : NodeId). w n.0 k.0) (λ (k : NodeId). v n.0 k.0) (near_among t i n) (λ k. same k.0))
      ∙ ap (map (λ (k : NodeId). v n.0 k.0)) (sym near);
  peers = new.peers ∙ sym near;
  clock = new.clock;
  log = new.log;
  held = new.held;
  lines = new.lines;
}
