-- Looks at the rings of a fleet.
use Rattle.std.specs.{Prelude.{◌≡◌, ◌<◌, ◌==◌, ◌⊎◌, ℕ, Bool, true, false, List, Some, slice_get, slice_set}, List.{AllZip, list_any}}
use Rattle.ason_base.specs.{declared.ids.NodeId.NodeId, Network.Network}
use Rattle.world_rules.specs.WorldRuns.{is_world_channel, neighbours_of}
use Rattle.station_rings.specs.LinkStates.{AreEnds, AreFew, LinkState}
use Rattle.round_rules.specs.{OneWorker.ids_of, States.StationState, Fleets.Wires, Looks.{AreLooked, AreStill, HasKept, HasLinks}}
use Rattle.station.specs.Joined.{AreTwoLooked as StationsAreLooked}
use Rattle.fleet.specs.{declared.seats.End.End, declared.seats.Seat.Seat, Connections.AreConnected}

-- Of two stations

-- two stations, and at each the link to the other
pub record AreStationsJoined (stations : List StationState) (place link : ℕ) (e : End) : Type 0 where
  pub apart : (place == e.station) ≡ false
  pub here : StationState
  pub there : StationState
  pub is_here : slice_get stations place ≡ Some here
  pub is_there : slice_get stations e.station ≡ Some there
  pub near : LinkState
  pub far : LinkState
  pub is_near : slice_get here.links link ≡ Some near
  pub is_far : slice_get there.links e.link ≡ Some far
  pub ends : AreEnds near far
  pub few : AreFew near far

-- they looked at the rings between them, and no other station did anything
pub record HaveMet (place link : ℕ) (e : End) (old new : List StationState) : Type 0 where
  pub here : StationState
  pub there : StationState
  pub is_here : slice_get old place ≡ Some here
  pub is_there : slice_get old e.station ≡ Some there
  pub here_now : StationState
  pub there_now : StationState
  pub looked : StationsAreLooked link here here_now e.link there there_now
  pub stations : new ≡ slice_set (slice_set old place here_now) e.station there_now

-- whether some link of the station was used since it was looked at
abbrev pub has_used_link : StationState → Bool
has_used_link s = list_any (λ (l : LinkState). l.used) s.links

-- Of a fleet

-- whether the rings between two nodes are among those that were looked at
abbrev pub Pairs : Type 1
Pairs = NodeId → NodeId → Type 0

-- The stations after looks at the rings between these pairs of neighbours. Every other ring was looked at, or is as it
-- was.
pub record HaveLooked (t : Network) (wires : Wires) (old new : List StationState) (Seen : Pairs) : Type 0 where
  pub wires_now : Wires
  pub kept : AllZip HasKept old new
  pub links : AllZip (HasLinks t wires_now) (ids_of t) new
  pub ways : (u d : NodeId) → is_world_channel t u d ≡ true →
      AreStill wires wires_now u d ⊎ AreLooked wires wires_now u d
  pub seen : (u d : NodeId) → is_world_channel t u d ≡ true → Seen u d → AreLooked wires wires_now u d

-- whatever network the stations are those of, and whatever their links are called
abbrev pub LooksOver : List Seat → (Network → Pairs) → List StationState → List StationState → Type 0
LooksOver seats Seen old new =
    (t : Network) → AreConnected t seats old → (wires : Wires) → AllZip (HasLinks t wires) (ids_of t) old →
    HaveLooked t wires old new (Seen t)

-- the link at this place of the station at this place leads from u to d
pub record IsLinkOfStation (place link : ℕ) (t : Network) (u d : NodeId) : Type 0 where
  pub node : slice_get (ids_of t) place ≡ Some u
  pub near : slice_get (neighbours_of t u) link ≡ Some d

-- it is one of the first so many links
abbrev pub IsLinkBefore : ℕ → ℕ → Network → Pairs
IsLinkBefore place count t u d = (link : ℕ) × (link < count) × IsLinkOfStation place link t u d

-- the node at this place is one of both
abbrev pub IsAround : ℕ → Network → Pairs
IsAround place t u d = (slice_get (ids_of t) place ≡ Some u) ⊎ (slice_get (ids_of t) place ≡ Some d)

-- the first node is one of the first so many
abbrev pub IsNodeBefore : ℕ → Network → Pairs
IsNodeBefore count t u d = (place : ℕ) × (place < count) × (slice_get (ids_of t) place ≡ Some u)

abbrev pub IsAny : Network → Pairs
IsAny t u d = is_world_channel t u d ≡ true
