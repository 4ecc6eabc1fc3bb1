-- The stations of a fleet stand for a record of what their nodes did.
use Rattle.std.specs.{Prelude.{◌≡◌, ◌≤◌, ◌+◌, ℕ, true, false, List, [], ◌++◌, filter, length, map}, List.{AllByRecursion, AllZip}}
use Rattle.ason_base.specs.{declared.limits.TheConstants.MOST_FRAMES, declared.ids.NodeId.NodeId, declared.commands.Disturb.Disturb, Network.{IsTopology, Network, is_node_id}}
use mathlib.Core.List.{IsPrefix}
use Rattle.rtrb.specs.Ring.{known_items, received}
use Rattle.world_rules.specs.WorldRuns.{is_world_channel, neighbours_of}
use Rattle.world_merge.specs.{Histories.at, Logs.{RisesAbove, is_posted, posts_of}}
use Rattle.station_rings.specs.{Joins.HasPosts, LinkStates.{AreEnds, LinkState, gone_of}}
use Rattle.round_rules.specs.{Doings.{Doing, deeds_in}, Lines.says, OneWorker.ids_of, Records.{Record, deeds_at, posts_in}, Rings.{got_from, handed}, States.{IsStationOf, StationState, parcel_numbers}}

-- at the first node, its link to the second
abbrev pub Wires : Type 0
Wires = ℕ → ℕ → LinkState

-- It is the station of what the node did, its links lead to the neighbours, and its fault lines say of the frames to
-- its node what the lines of the script say.
pub record IsStationAt (t : Network) (lines : List Disturb) (r : Record) (wires : Wires) (n : NodeId)
    (s : StationState) : Type 0 where
  pub station : IsStationOf t n (r.doings n.0) s
  pub links : s.links ≡ map (λ (u : NodeId). wires n.0 u.0) (neighbours_of t n)
  pub told : (u : NodeId) (k : ℕ) → says s.lines u n k ≡ says lines u n k

-- The ring from u to d: the links have its ends, the frames that were handed to it have the numbers that the record
-- tells, and at most so many stand there as the sender counts, which are 256 at most.
pub record IsRingOf (t : Network) (r : Record) (wires : Wires) (u d : NodeId) : Type 0 where
  pub ends : AreEnds (wires u.0 d.0) (wires d.0 u.0)
  pub handed_over : parcel_numbers (gone_of (wires u.0 d.0)) ≡ handed t r u d
  pub room : length (gone_of (wires u.0 d.0)) ≤ (wires u.0 d.0).standing + length (got_from u (r.doings d.0))
  pub most : (wires u.0 d.0).standing ≤ MOST_FRAMES
  pub past : AllByRecursion (λ (k : ℕ). k ≤ (wires u.0 d.0).sent) (r.dropped u.0 d.0)

-- at a number that is no node's there are posts alone
pub record IsRecordNowhere (t : Network) (r : Record) (n : ℕ) : Type 0 where
  pub posts : HasPosts t (deeds_at r) n
  pub rises : RisesAbove 0 (deeds_at r n)

-- a station for each node, in order of number
pub record AreStanding (t : Network) (lines : List Disturb) (r : Record) (wires : Wires)
    (stations : List StationState) : Type 0 where
  pub valid : IsTopology t
  pub each : AllZip (IsStationAt t lines r wires) (ids_of t) stations
  pub rings : (u d : NodeId) → is_world_channel t u d ≡ true → IsRingOf t r wires u d
  pub nowhere : (n : ℕ) → is_node_id t.nodes (at n) ≡ false → IsRecordNowhere t r n
  pub posts : (n : ℕ) → posts_of (at n) (deeds_at r n) ≡ posts_in r

-- After a look: all that was handed to the ring from u to d is known at d, and u knows how many frames stand there.
pub record IsKnown (wires : Wires) (u d : NodeId) : Type 0 where
  pub whole : received (wires d.0 u.0).into ++ known_items (wires d.0 u.0).into ≡ gone_of (wires u.0 d.0)
  pub standing : (wires u.0 d.0).standing ≡
      length (wires d.0 u.0).early + length (known_items (wires d.0 u.0).into)

abbrev pub AreKnown : Network → Wires → Type 0
AreKnown t wires = (u d : NodeId) → is_world_channel t u d ≡ true → IsKnown wires u d

-- what came out of a ring is a first part of what was handed to it
abbrev pub HasBegun : Wires → NodeId → NodeId → Type 0
HasBegun wires u d = IsPrefix (received (wires d.0 u.0).into) (gone_of (wires u.0 d.0))

abbrev pub AllBegun : Network → Wires → Type 0
AllBegun t w = (u d : NodeId) → is_world_channel t u d ≡ true → HasBegun w u d

-- at this number more was done, and nothing was posted
pub record HasGrown (before after : Record) (m : ℕ) : Type 0 where
  pub added : List Doing
  pub all : after.doings m ≡ before.doings m ++ added
  pub no_post : filter is_posted (deeds_in added) ≡ []
