-- A round in which no frame is lost, and what it makes of what stands in the rings.
use Rattle.std.specs.{Prelude.{◌+◌, length, ◌⊎◌, ◌≡◌, ◌≤◌, ℕ, true, List, Option, Some, None}, List.AllByRecursion}
use Rattle.ason_base.specs.{declared.ids.NodeId.NodeId, declared.commands.Disturb.Disturb, declared.commands.Entry.Entry, Network.{IsTopology, Network}, declared.commands.Event.Event, declared.limits.TheConstants.MOST_FRAMES}
use Rattle.world_rules.specs.{Images.{image, mesh_events}, WorldRuns.{IsWorldRun, world_after, is_world_channel}, Worlds.{World, numbered_at, world_start}}
use Rattle.world_merge.specs.Merges.{events_of}
use Rattle.round_rules.specs.{Lines.says, Records.{Record, world_of}, Rings.{count_of, standing}, Rounds.IsRound, PossibleRecords.IsRecord, Takings.IsDelivered}
use Rattle.round_laws.specs.{GoingOn.GoesOn, Rings.{RingsHaveAll, StandInOrder, channel_of, climb_one, handed_up_at, last_sent_to}}
use Rattle.mesh_laws.specs.{HomeLaw.StaysAtHome, SoonLaw.PostsNothing, Sweeps.IsSweep}
use Rattle.flood.specs.declared.frames.Content.{Content}

-- The frame of this number on the channel from u to d is old: to a hop that handed up as much as d's had before the round
-- it is no next message.
abbrev pub IsOldMessage : Network → Record → Record → NodeId → NodeId → ℕ → Type 0
IsOldMessage t old new u d k =
    (x : Content) → numbered_at (channel_of t new u d) k ≡ Some x → (h : ℕ) → handed_up_at t old d u ≤ h →
    climb_one h x ≡ h

-- no frame is dropped, and none is lost or held back but old ones
pub record IsWholeRound (t : Network) (lines : List Disturb) (old new : Record) : Type 0 where
  pub round : IsRound t lines old new
  pub kept : (u d : ℕ) → new.dropped u d ≡ old.dropped u d
  pub delivered : (u d : NodeId) (k : ℕ) → is_world_channel t u d ≡ true →
      IsDelivered (says lines u d k) ⊎ IsOldMessage t old new u d k

-- no frame is dropped where those that stood in the ring as the round began and those sent in it are 256 at most
abbrev pub RoomDropsNone : Type 0
RoomDropsNone =
    (t : Network) (lines : List Disturb) (old new : Record) (u d : NodeId) → IsRound t lines old new →
    length (standing t old u d) + count_of t new u d ≤ MOST_FRAMES + count_of t old u d →
    new.dropped u.0 d.0 ≡ old.dropped u.0 d.0

-- all that was sent before the round is handed up in it
abbrev pub WholeRoundsHandUpAll : Type 0
WholeRoundsHandUpAll =
    (t : Network) (lines : List Disturb) (old new : Record) → IsRecord t new →
    IsWholeRound t lines old new → RingsHaveAll t old → (u d : NodeId) → is_world_channel t u d ≡ true →
    last_sent_to t old u d ≤ handed_up_at t new d u

-- a round passes over no frame
abbrev pub RoundsEndInOrder : Type 0
RoundsEndInOrder =
    (t : Network) (lines : List Disturb) (old new : Record) → IsRound t lines old new → StandInOrder t new

-- rings have all after a whole round too
abbrev pub WholeRoundsKeepRings : Type 0
WholeRoundsKeepRings =
    (t : Network) (lines : List Disturb) (old new : Record) → IsRecord t new →
    IsWholeRound t lines old new → RingsHaveAll t old → RingsHaveAll t new

-- Sweeps

-- these events lead to this world
pub record LeadsTo (t : Network) (es : List Event) (w : World) : Type 0 where
  pub run : IsWorldRun t (world_start t) es
  pub leads : world_after t (world_start t) es ≡ w

-- what happens between the two records, as a run of worlds, and that it gives a sweep of the mesh
pub record IsSweepTo (t : Network) (old new : Record) : Type 0 where
  pub lines : List Entry
  pub on : GoesOn t old new lines
  pub sweep : IsSweep (image (world_of t old)) (mesh_events t (world_of t old) (events_of lines))
  pub only : AllByRecursion PostsNothing (mesh_events t (world_of t old) (events_of lines))

abbrev pub WholeRoundsAreSweeps : Type 0
WholeRoundsAreSweeps =
    (t : Network) (lines : List Disturb) (old new : Record) (es : List Event) → IsTopology t → IsRecord t old →
    IsRecord t new → LeadsTo t es (world_of t old) → IsWholeRound t lines old new → RingsHaveAll t old →
    StaysAtHome t (image (world_of t old)) → IsSweepTo t old new
