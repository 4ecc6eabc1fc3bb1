-- Looks at the rings of a fleet.
use Rattle.std.specs.{Prelude.{◌≡◌, ◌⊎◌, true, List, map}, List.AllZip}
use Rattle.ason_base.specs.{declared.ids.NodeId.NodeId, declared.commands.Disturb.Disturb, Network.Network}
use Rattle.world_rules.specs.WorldRuns.{is_world_channel, neighbours_of}
use Rattle.station_rings.specs.LinkStates.{AreEnds, IsLooked}
use Rattle.round_rules.specs.{OneWorker.ids_of, Records.Record, States.StationState, Fleets.{AreStanding, HasBegun, IsKnown, Wires}}

-- but for its links, and the room on its desk, the station is as it was
pub record HasKept (old new : StationState) : Type 0 where
  pub controller : new.controller ≡ old.controller
  pub desk : new.desk ≡ old.desk
  pub clock : new.clock ≡ old.clock
  pub log : new.log ≡ old.log
  pub held : new.held ≡ old.held
  pub lines : new.lines ≡ old.lines

-- the links between two nodes are as they were
pub record AreStill (w v : Wires) (u d : NodeId) : Type 0 where
  pub there : v u.0 d.0 ≡ w u.0 d.0
  pub back : v d.0 u.0 ≡ w d.0 u.0

-- both rings between them were looked at
pub record AreLooked (w v : Wires) (u d : NodeId) : Type 0 where
  pub ends : AreEnds (v u.0 d.0) (v d.0 u.0)
  pub there : IsLooked (w u.0 d.0) (v u.0 d.0) (w d.0 u.0) (v d.0 u.0)
  pub back : IsLooked (w d.0 u.0) (v d.0 u.0) (w u.0 d.0) (v u.0 d.0)

-- the station of the node has these links
abbrev pub HasLinks : Network → Wires → NodeId → StationState → Type 0
HasLinks t v n s = s.links ≡ map (λ (u : NodeId). v n.0 u.0) (neighbours_of t n)

-- after looks at some rings or all the stations stand for the same record
abbrev pub LooksStand : Type 0
LooksStand =
    (t : Network) (lines : List Disturb) (r : Record) (w v : Wires) (xs ys : List StationState) →
    AreStanding t lines r w xs → AllZip HasKept xs ys → AllZip (HasLinks t v) (ids_of t) ys →
    ((u d : NodeId) → is_world_channel t u d ≡ true → AreStill w v u d ⊎ AreLooked w v u d) → AreStanding t lines r v ys

-- and where it was looked all is known
abbrev pub LooksTell : Type 0
LooksTell = (w v : Wires) (u d : NodeId) → AreLooked w v u d → IsKnown v u d

abbrev pub KnownHaveBegun : Type 0
KnownHaveBegun = (w : Wires) (u d : NodeId) → IsKnown w u d → HasBegun w u d
