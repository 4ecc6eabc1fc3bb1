-- Records whose runs have the laws of the mesh.
use Rattle.std.specs.Prelude.{◌≡◌, ℕ, All, IsTrue, List, ◌++◌}
use Rattle.ason_base.specs.{declared.commands.Entry.Entry, declared.commands.Event.Event, declared.commands.Group.Group, Network.Network}
use Rattle.mesh_rules.specs.{Machine.Mesh, declared.events.MeshEvent.MeshEvent}
use Rattle.mesh_rules.specs.Quiet as mesh_quiet
use Rattle.mesh_laws.specs.{AloneLaw.Alone, StateLaws.LawsHold, RestorationLaw.{IsRestored, is_guarded}}
use Rattle.world_rules.specs.{Worlds.world_start, WorldRuns.{IsWorldRun, world_after}, Images.{IsQuietWorld, image, mesh_events}, WorldLaws.{IsShown, KnowTheLinks, KnowTheSame}}
use Rattle.world_merge.specs.{Merges.events_of, Orders.IsMerge}
use Rattle.round_rules.specs.{Records.{Record, log_at, posts_in, world_of}, PossibleRecords.IsRecord}

-- each call with a reserved backup is carried over fibres that are up, at each node of this mesh
abbrev pub AreRestored : Network → List MeshEvent → Mesh → Type 0
AreRestored t events s =
    (n : ℕ) → All (λ c. IsTrue (is_guarded (s.nodes n) c) → IsRestored t events c) (s.nodes n).calls

-- what holds beside the laws where nothing waits in the world to which these events lead
pub record QuietLawsHold (t : Network) (events : List Event) : Type 0 where
  -- nothing waits in the mesh that it shows
  pub shown : mesh_quiet.IsQuiet (image (world_after t (world_start t) events))
  -- where since a calm state one group alone failed, each guarded call is restored
  pub restored : (g : Group) → Alone t (mesh_events t (world_start t) events) g →
      AreRestored t (mesh_events t (world_start t) events) (image (world_after t (world_start t) events))
  -- nodes that a walk joins know the same links, those of each of them among these
  pub same : KnowTheSame t (world_after t (world_start t) events)
  pub links : KnowTheLinks t (world_after t (world_start t) events)

-- what these events of a world show is a run of the machine to the mesh that the last world shows, and the laws hold
-- of it, where nothing waits those of quiet too
pub record IsLawful (t : Network) (events : List Event) : Type 0 where
  pub shown : IsShown t events
  pub laws : LawsHold t (mesh_events t (world_start t) events)
  pub quiet : IsQuietWorld (world_after t (world_start t) events) → QuietLawsHold t events

-- the events of this merge are a run of a world, which leads to the record's world, and each first part of it is lawful
pub record IsLawfulRun (t : Network) (r : Record) (m : List Entry) : Type 0 where
  pub run : IsWorldRun t (world_start t) (events_of m)
  pub leads : world_after t (world_start t) (events_of m) ≡ world_of t r
  pub laws : (first left : List Event) → first ++ left ≡ events_of m → IsLawful t first

-- what the nodes did could happen; its logs and posts have a merge, and each merge of them is a lawful run
pub record IsLawfulRecord (t : Network) (r : Record) : Type 0 where
  pub possible : IsRecord t r
  pub merges : (m : List Entry) × IsMerge (log_at r) (posts_in r) m
  pub runs : (m : List Entry) → IsMerge (log_at r) (posts_in r) m → IsLawfulRun t r m
