-- A round with one worker: the stations make their turns one after the other.
use Rattle.std.specs.{Prelude.{◌≡◌, ◌==◌, ◌⊎◌, ℕ, Bool, true, false, List, [], ◌∷◌, ◌++◌, None, Some, slice_get, slice_set}, List.{AllZip, list_any, AllByRecursion}}
use Rattle.ason_base.specs.{declared.ids.NodeId.NodeId, declared.commands.Disturb.Disturb, Network.{Network, is_node_id}}
use Rattle.world_rules.specs.WorldRuns.{is_world_channel}
use Rattle.round_rules.specs.{OneWorker.{ids_of, nodes_round}, Records.Record, Rings.{is_number_in, standing}, Rounds.{DropsAt, WasSentTo, numbers_by}, Unfinished.{IsRoundBy, IsUnfinishedBy}, States.StationState, Turned.{comes_to_end, is_at_limit}, Fleets.{AreStanding, HasBegun, HasGrown, IsKnown, IsStationAt, Wires, AllBegun}, Looks.{AreLooked, AreStill, HasKept, HasLinks}, Rounding.HasHaltedFull, FleetTurns.{AfterTurns, HasMadeRound}, Functions.{AreHeldAs, Popped, tick_if}, Held.due_in, Limits.{going, turn_to}}

-- the number is that of one of these nodes
abbrev pub is_node_among : List NodeId → ℕ → Bool
is_node_among ns m = list_any (λ n. n.0 == m) ns

-- the node made its part of a round, of frames that were sent to it
pub record IsPartAt (t : Network) (lines : List Disturb) (before after : Record) (n : NodeId) : Type 0 where
  pub due : List Popped
  pub pops : List Popped
  pub held : AreHeldAs (due_in (tick_if true (before.doings n.0))) due
  pub sent : AllByRecursion (WasSentTo t after n) (due ++ pops)
  pub turn : turn_to t lines n true (before.doings n.0) due pops ≡ going (after.doings n.0)
  pub taken : (u : NodeId) (k : ℕ) → is_world_channel t u n ≡ true → is_number_in (standing t before u n) k ≡ true →
      is_number_in (numbers_by u pops) k ≡ true

-- these nodes made their parts, and the others did nothing
pub record IsPartRound (t : Network) (lines : List Disturb) (before after : Record) (ns : List NodeId) : Type 0 where
  pub known : (n : NodeId) → is_node_among ns n.0 ≡ true → is_node_id t.nodes n ≡ true
  pub nodes : (n : NodeId) → is_node_among ns n.0 ≡ true → IsPartAt t lines before after n
  pub others : (m : ℕ) → is_node_among ns m ≡ false → after.doings m ≡ before.doings m
  pub drops : (u d : NodeId) → DropsAt t before after u d
  pub still : (u d : NodeId) → is_node_among ns u.0 ≡ false → after.dropped u.0 d.0 ≡ before.dropped u.0 d.0

-- The stations after the turns of these nodes: they stand for the record that the function of a round tells.
pub record IsUnderWay (t : Network) (lines : List Disturb) (before : Record) (ns : List NodeId) (q : Record) (w : Wires)
    (xs : List StationState) : Type 0 where
  pub stands : AreStanding t lines q w xs
  pub begun : AllBegun t w
  pub part : IsPartRound t lines before q ns
  pub exact : nodes_round t lines ns before ≡ record { made = q; stopped = None }

-- at the start no node made its part
abbrev pub RoundsBegin : Type 0
RoundsBegin =
    (t : Network) (lines : List Disturb) (r : Record) (w : Wires) (xs : List StationState) →
    AreStanding t lines r w xs → AllBegun t w → IsUnderWay t lines r [] r w xs

-- One station makes its turns

-- the station of the node n is this now, the others are as they were
abbrev pub IsPlaced : Network → List Disturb → Record → Wires → NodeId → StationState → NodeId → StationState → Type 0
IsPlaced t lines r w n new m s =
    ((m.0 == n.0) ≡ true → s ≡ new) × ((m.0 == n.0) ≡ false → IsStationAt t lines r w m s)

-- all that stands in its rings and in those from it is known
pub record IsKnownAround (t : Network) (w : Wires) (n : NodeId) : Type 0 where
  pub into : (u : NodeId) → is_world_channel t u n ≡ true → IsKnown w u n
  pub out : (d : NodeId) → is_world_channel t n d ≡ true → IsKnown w n d

-- The stations stand for a record after the turns of the node. A look at its rings after them shows that nothing more
-- came than was known; then, where all turns came to their end, the round goes on, and where they ended at the limit it
-- is over, at this node, since the nodes before it, which are those of lower number, came to their end.
pub record HasTurnedAlone (t : Network) (lines : List Disturb) (before q : Record) (ns : List NodeId) (n : NodeId)
    (y : AfterTurns) (ys : List StationState) : Type 0 where
  pub after : Record
  pub wires_after : Wires
  pub stands : AreStanding t lines after wires_after ys
  pub grown : (m : ℕ) → HasGrown q after m
  pub goes_on : ((u : NodeId) → is_world_channel t u n ≡ true → HasBegun wires_after u n) → comes_to_end y.end ≡ true →
      IsUnderWay t lines before (ns ++ n ∷ []) after wires_after ys
  pub ends : ((u : NodeId) → is_world_channel t u n ≡ true → HasBegun wires_after u n) → HasHaltedFull y →
      is_at_limit y.end ≡ true → IsUnfinishedBy t lines 1 before after n

-- the node is the next one of the topology after these, in order of number
abbrev pub AreNext : Network → List NodeId → NodeId → Type 0
AreNext t ns n = (later : List NodeId) × (ids_of t ≡ ns ++ n ∷ later)

abbrev pub NodesGoOn : Type 0
NodesGoOn =
    (t : Network) (lines : List Disturb) (before : Record) (ns : List NodeId) (q : Record) (w : Wires)
    (xs : List StationState) (n : NodeId) (x : StationState) (many : ℕ) (y : AfterTurns) (ys : List StationState) →
    IsUnderWay t lines before ns q w xs → AreNext t ns n →
    IsKnownAround t w n → IsStationAt t lines q w n x → HasMadeRound many x y →
    AllZip (IsPlaced t lines q w n y.station) (ids_of t) ys → HasTurnedAlone t lines before q ns n y ys

-- looks between the turns change nothing
abbrev pub LooksGoOn : Type 0
LooksGoOn =
    (t : Network) (lines : List Disturb) (before : Record) (ns : List NodeId) (q : Record) (w v : Wires)
    (xs ys : List StationState) → IsUnderWay t lines before ns q w xs → AllZip HasKept xs ys →
    AllZip (HasLinks t v) (ids_of t) ys →
    ((u d : NodeId) → is_world_channel t u d ≡ true → AreStill w v u d ⊎ AreLooked w v u d) →
    IsUnderWay t lines before ns q v ys

-- a look shows that what had come out of a ring before it was handed to it
abbrev pub LooksHadBegun : Type 0
LooksHadBegun = (w v : Wires) (u d : NodeId) → AreLooked w v u d → HasBegun w u d

-- one station of the list is another
abbrev pub StationsArePlaced : Type 0
StationsArePlaced =
    (t : Network) (lines : List Disturb) (r : Record) (w : Wires) (xs : List StationState) (place : ℕ) (n : NodeId)
    (new : StationState) → AreStanding t lines r w xs → slice_get (ids_of t) place ≡ Some n →
    AllZip (IsPlaced t lines r w n new) (ids_of t) (slice_set xs place new)

-- once all nodes made their parts it is a round of one worker
abbrev pub RoundsEnd : Type 0
RoundsEnd =
    (t : Network) (lines : List Disturb) (before q : Record) (w : Wires) (xs : List StationState) →
    IsUnderWay t lines before (ids_of t) q w xs → IsRoundBy t lines 1 before q
