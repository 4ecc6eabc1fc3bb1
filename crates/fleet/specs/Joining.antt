-- The stations of a network that are made and joined, before anything was done.
use Rattle.std.specs.{Prelude.{◌≡◌, ◌<◌, ◌+◌, ◌==◌, ℕ, nat_lt, true, List, [], ◌∷◌, ◌++◌, filter, length, map, take, Some, slice_get, slice_set, IsTrue, if◌then◌else◌}, List.AllZip}
use Rattle.ason_base.specs.{declared.ids.NodeId.NodeId, Network.{IsTopology, Network}}
use Rattle.control_channels.specs.ReadyControllers.{new_controller}
use Rattle.mesh_nodes.specs.LocalNodes.{is_neighbour}
use Rattle.world_rules.specs.WorldRuns.{is_world_channel}
use Rattle.round_rules.specs.{OneWorker.ids_of, Entered.me_of, Moves.peers_of, States.StationState, Commands.{IsNewAt, IsNewRing}, Fleets.Wires}
use Rattle.station.specs.Joined.{AreStationsConnected, IsApartFrom, IsNewStation}

-- a new station for each node, and over each channel the two ends of a new ring
pub record AreNew (t : Network) (stations : List StationState) : Type 0 where
  pub valid : IsTopology t
  pub wires : Wires
  pub each : AllZip (IsNewAt t wires) (ids_of t) stations
  pub rings : (u d : NodeId) → is_world_channel t u d ≡ true → IsNewRing wires u d

-- the new station of a node stands at the end
pub record HasMore (t : Network) (id : NodeId) (old new : List StationState) : Type 0 where
  pub station : StationState
  pub is_new : IsNewStation t id station
  pub stations : new ≡ old ++ station ∷ []

-- Two stations

-- two stations of neighbours that aren't joined yet
pub record MayBeJoined (stations : List StationState) (low high : ℕ) : Type 0 where
  pub here : StationState
  pub there : StationState
  pub is_here : slice_get stations low ≡ Some here
  pub is_there : slice_get stations high ≡ Some there
  pub near : IsTrue (is_neighbour here.controller.node.place (me_of there))
  pub near_back : IsTrue (is_neighbour there.controller.node.place (me_of here))
  pub apart : IsApartFrom (me_of there) here
  pub apart_back : IsApartFrom (me_of here) there

-- they have the ends of two new rings, and no other station has changed
pub record AreJoinedAt (low high : ℕ) (old new : List StationState) : Type 0 where
  pub here : StationState
  pub there : StationState
  pub is_here : slice_get old low ≡ Some here
  pub is_there : slice_get old high ≡ Some there
  pub here_now : StationState
  pub there_now : StationState
  pub connected : AreStationsConnected here here_now there there_now
  pub stations : new ≡ slice_set (slice_set old low here_now) high there_now

-- All stations, one pair after the other

-- the neighbours among the first so many nodes
abbrev pub near_among : Network → ℕ → NodeId → List NodeId
near_among t count n = map (λ m. m.id) (filter (λ m. is_world_channel t m.id n) (take count t.nodes))

-- nothing was done at the station, and it has links to its neighbours among the first so many nodes
pub record IsNewUpTo (t : Network) (wires : Wires) (count : ℕ) (n : NodeId) (s : StationState) : Type 0 where
  pub controller : s.controller ≡ new_controller t n
  pub desk : s.desk ≡ []
  pub links : s.links ≡ map (λ (u : NodeId). wires n.0 u.0) (near_among t count n)
  pub peers : peers_of s.links ≡ near_among t count n
  pub clock : s.clock ≡ 0
  pub log : s.log ≡ []
  pub held : s.held ≡ []
  pub lines : s.lines ≡ []

-- Each station has links to its neighbours among so many of the first nodes as its place tells.
pub record AreNewUpTo (t : Network) (joined : ℕ → ℕ) (stations : List StationState) : Type 0 where
  pub valid : IsTopology t
  pub wires : Wires
  pub count : length stations ≡ length t.nodes
  pub each : (place : ℕ) (n : NodeId) (s : StationState) → slice_get (ids_of t) place ≡ Some n →
      slice_get stations place ≡ Some s → IsNewUpTo t wires (joined place) n s
  pub rings : (p q : ℕ) (u d : NodeId) → slice_get (ids_of t) p ≡ Some u → slice_get (ids_of t) q ≡ Some d →
      is_world_channel t u d ≡ true → q < joined p → IsNewRing wires u d

-- The stations before the high place are joined to each other, and the one there to those before the low place: to so
-- many of the first nodes the station at a place is joined, where they are its neighbours.
abbrev pub joined_up_to : ℕ → ℕ → ℕ → ℕ
joined_up_to high low place =
    if nat_lt place low then high + 1 else if nat_lt place high then high else if place == high then low else 0
