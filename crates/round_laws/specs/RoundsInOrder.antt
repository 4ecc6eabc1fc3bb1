-- Whole rounds in which the nodes take their turns in order of number, as they do with one worker: they restore the calls
-- that a failure hits as soon as sweeps in order do.
use Rattle.std.specs.{Prelude.{◌≡◌, ◌≤◌, ◌<◌, ℕ, zero, suc, true, List, [], ◌∷◌, ◌++◌, Some, IsTrue}, List.AllByRecursion}
use Rattle.ason_base.specs.{declared.ids.CallNo.CallNo, declared.ids.NodeId.NodeId, declared.commands.Command.TheVariants.Fail, declared.commands.Disturb.Disturb, declared.commands.Event.Event, declared.commands.Event.TheVariants.Post, declared.commands.Group.Group, declared.tables.CallRec.CallRec, Network.{IsTopology, Network}}
use Rattle.mesh_rules.specs.Calls.{find_call}
use Rattle.mesh_laws.specs.{AloneLaw.Calm, InOrderLaw.sweeps_in_order, RestorationLaw.{is_guarded, is_lsp_hit}, SoonLaw.{IsRestoredAt, PostsNothing}, Sweeps.IsSweepInOrder}
use Rattle.world_rules.specs.{Images.{image, mesh_events}, WorldLaws.IsWithoutMessages, WorldRuns.{IsWorldRun, world_after, is_world_channel}, Worlds.world_start}
use Rattle.round_rules.specs.{Doings.{Did, Doing, Freed, Got, Left, Lost}, Records.{Record, world_of}, Rings.{count_of, standing}, Unfinished.IsRoundBy, PossibleRecords.IsRecord}
use Rattle.round_laws.specs.{FleetLaw.{IsPostOf, IsWholeSince}, Rings.RingsHaveAll, WholeRounds.{IsWholeRound, LeadsTo}}

-- Rounds

-- a frame that the node took from a later one was sent before this record was made
abbrev pub IsFromBefore : Network → Record → NodeId → Doing → Type 0
IsFromBefore t old n (Got u k says) = is_world_channel t u n ≡ true → n.0 < u.0 → k ≤ count_of t old u n
IsFromBefore t old n (Did d) = Unit {0}
IsFromBefore t old n Freed = Unit {0}
IsFromBefore t old n (Lost u k) = Unit {0}
IsFromBefore t old n (Left i) = Unit {0}

-- A round in order of number: of what an earlier node sends nothing is left in a later one's ring, and of what a later node
-- sends in it an earlier one takes nothing.
pub record IsRoundInOrder (t : Network) (old new : Record) : Type 0 where
  pub earlier : (u d : NodeId) → is_world_channel t u d ≡ true → u.0 < d.0 → standing t new u d ≡ []
  pub later : (n : NodeId) → AllByRecursion (IsFromBefore t old n) (new.doings n.0)

-- so many rounds in order that are whole since a record
abbrev pub AreInOrderSince : Network → Record → ℕ → Record → Record → Type 0
AreInOrderSince t since zero old new = old ≡ new
AreInOrderSince t since (suc k) old new =
    (lines : List Disturb) × (mid : Record) × IsWholeSince t lines since old mid × IsRoundInOrder t old mid
    × IsRecord t mid
    × AreInOrderSince t since k mid new

-- Sweeps

-- events that lead from the one record's world to the other's, of which those of the mesh are a sweep in order
pub record IsOrderedTo (t : Network) (old new : Record) : Type 0 where
  pub events : List Event
  pub run : IsWorldRun t (world_of t old) events
  pub leads : world_after t (world_of t old) events ≡ world_of t new
  pub sweep : IsSweepInOrder t (image (world_of t old)) (mesh_events t (world_of t old) events)
  pub only : AllByRecursion PostsNothing (mesh_events t (world_of t old) events)

abbrev pub RoundsInOrderAreSweeps : Type 0
RoundsInOrderAreSweeps =
    (t : Network) (lines : List Disturb) (old new : Record) (es : List Event) → IsTopology t → IsRecord t old →
    IsRecord t new → LeadsTo t es (world_of t old) → IsWholeRound t lines old new → RingsHaveAll t old →
    IsRoundInOrder t old new → IsOrderedTo t old new

-- The law

-- These rounds are a run, and the calls that the group hits are restored at its end.
pub record RestoresInOrder (t : Network) (es : List Event) (g : Group) (k : ℕ) (old new : Record) : Type 0 where
  pub later : List Event
  pub leads : LeadsTo t (es ++ Post (Fail g) ∷ later) (world_of t new)
  pub restored : (n : ℕ) (m : CallNo) (c : CallRec) → find_call m ((world_of t old).nodes n).calls ≡ Some c →
      IsTrue (is_guarded ((world_of t old).nodes n) c) →
      IsTrue (is_lsp_hit t (mesh_events t (world_start t) (es ++ Post (Fail g) ∷ [])) c.work) →
      sweeps_in_order t (mesh_events t (world_start t) (es ++ Post (Fail g) ∷ [])) c ≤ k →
      IsRestoredAt t (mesh_events t (world_start t) (es ++ Post (Fail g) ∷ later)) n m

abbrev pub FleetsRestoreInOrder : Type 0
FleetsRestoreInOrder =
    (t : Network) (es : List Event) (old posted new : Record) (g : Group) (k : ℕ) → IsTopology t → IsRecord t old →
    LeadsTo t es (world_of t old) → IsWithoutMessages (world_of t old) → Calm (image (world_of t old)) →
    IsPostOf t (Fail g) old posted → IsRecord t posted → AreInOrderSince t old k posted new →
    RestoresInOrder t es g k old new

-- With one worker

-- the nodes take their turns in order of number
abbrev pub OneWorkerGoesInOrder : Type 0
OneWorkerGoesInOrder =
    (t : Network) (lines : List Disturb) (old new : Record) → IsTopology t → IsRecord t old →
    IsRoundBy t lines 1 old new → IsRoundInOrder t old new

-- so many rounds with one worker that are whole since a record
abbrev pub AreByOneSince : Network → Record → ℕ → Record → Record → Type 0
AreByOneSince t since zero old new = old ≡ new
AreByOneSince t since (suc k) old new =
    (lines : List Disturb) × (mid : Record) × IsWholeSince t lines since old mid × IsRoundBy t lines 1 old mid
    × IsRecord t mid × AreByOneSince t since k mid new

abbrev pub OneWorkerRestoresInOrder : Type 0
OneWorkerRestoresInOrder =
    (t : Network) (es : List Event) (old posted new : Record) (g : Group) (k : ℕ) → IsTopology t → IsRecord t old →
    LeadsTo t es (world_of t old) → IsWithoutMessages (world_of t old) → Calm (image (world_of t old)) →
    IsPostOf t (Fail g) old posted → IsRecord t posted → AreByOneSince t old k posted new →
    RestoresInOrder t es g k old new
