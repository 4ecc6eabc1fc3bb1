-- After a failure of one group in a calm and quiet fleet, whole rounds restore each guarded call that it hits, in as many
-- rounds as its routes are long.
use Rattle.std.specs.Prelude.{◌≡◌, ◌≤◌, ◌<◌, ℕ, zero, suc, List, [], ◌∷◌, ◌++◌, Some, IsTrue}
use Rattle.ason_base.specs.{declared.ids.NodeId.NodeId, declared.ids.CallNo.CallNo, declared.commands.Command.Command, declared.commands.Command.TheVariants.Fail, declared.commands.Disturb.Disturb, declared.commands.Event.Event, declared.commands.Event.TheVariants.Post, declared.commands.Group.Group, declared.tables.CallRec.CallRec, Network.{IsTopology, Network}}
use Rattle.mesh_rules.specs.Calls.{find_call}
use Rattle.mesh_laws.specs.{AloneLaw.Calm, RestorationLaw.{is_guarded, is_lsp_hit}, SoonLaw.{IsRestoredAt, sweeps_for}}
use Rattle.world_rules.specs.{Images.{image, mesh_events}, WorldLaws.IsWithoutMessages, Worlds.world_start}
use Rattle.world_merge.specs.Deeds.{Posted}
use Rattle.round_rules.specs.{Doings.Did, Records.{Record, world_of}, Rounds.IsRound, Rings.count_of, Lines.says, PossibleRecords.IsRecord, Takings.IsDelivered}
use Rattle.round_laws.specs.{Rings.RingsHaveAll, WholeRounds.{IsWholeRound, LeadsTo}}

-- Records

-- no message is unacknowledged
abbrev pub AllAcknowledged : Network → Record → Type 0
AllAcknowledged t r = (u d : ℕ) → ((world_of t r).ends u d).hop.unacked ≡ []

-- then nothing is missing, whatever stands in the rings
abbrev pub QuietHasAll : Type 0
QuietHasAll =
    (t : Network) (r : Record) (es : List Event) → IsRecord t r → LeadsTo t es (world_of t r) → AllAcknowledged t r →
    RingsHaveAll t r

-- the command is posted: at every number, with one stamp
pub record IsPostOf (t : Network) (c : Command) (old new : Record) : Type 0 where
  pub stamp : ℕ
  pub doings : (n : ℕ) → new.doings n ≡ old.doings n ++ Did (Posted stamp c) ∷ []
  pub dropped : (u d : ℕ) → new.dropped u d ≡ old.dropped u d

-- the world of every record is that to which some run leads
abbrev pub RecordsAreReached : Type 0
RecordsAreReached =
    (t : Network) (r : Record) → IsTopology t → IsRecord t r → (es : List Event) × LeadsTo t es (world_of t r)

-- so many whole rounds, one after the other
abbrev pub AreWholeRounds : Network → ℕ → Record → Record → Type 0
AreWholeRounds t zero old new = old ≡ new
AreWholeRounds t (suc k) old new =
    (lines : List Disturb) × (mid : Record) × IsWholeRound t lines old mid × IsRecord t mid
    × AreWholeRounds t k mid new

-- A round in which no frame is dropped; and lines that say `lose` or `hold` name none of the frames that were sent since
-- this record was made, up to the round's end.
pub record IsWholeSince (t : Network) (lines : List Disturb) (since old new : Record) : Type 0 where
  pub round : IsRound t lines old new
  pub kept : (u d : ℕ) → new.dropped u d ≡ old.dropped u d
  pub delivered : (u d : NodeId) (k : ℕ) → count_of t since u d < k → k ≤ count_of t new u d →
      IsDelivered (says lines u d k)

-- so many of these
abbrev pub AreWholeSince : Network → Record → ℕ → Record → Record → Type 0
AreWholeSince t since zero old new = old ≡ new
AreWholeSince t since (suc k) old new =
    (lines : List Disturb) × (mid : Record) × IsWholeSince t lines since old mid × IsRecord t mid
    × AreWholeSince t since k mid new

-- they are whole rounds, where no message was unacknowledged in that record, and posts alone were made since
abbrev pub SinceAreWhole : Type 0
SinceAreWhole =
    (t : Network) (es : List Event) (c : Command) (since old new : Record) (k : ℕ) → LeadsTo t es (world_of t since) →
    AllAcknowledged t since → IsPostOf t c since old → AreWholeSince t since k old new → AreWholeRounds t k old new

-- The law

-- These rounds are a run, and the calls that the group hits are restored at its end.
pub record RestoresSoon (t : Network) (es : List Event) (g : Group) (k : ℕ) (old new : Record) : Type 0 where
  pub later : List Event
  pub leads : LeadsTo t (es ++ Post (Fail g) ∷ later) (world_of t new)
  pub restored : (n : ℕ) (m : CallNo) (c : CallRec) → find_call m ((world_of t old).nodes n).calls ≡ Some c →
      IsTrue (is_guarded ((world_of t old).nodes n) c) →
      IsTrue (is_lsp_hit t (mesh_events t (world_start t) (es ++ Post (Fail g) ∷ [])) c.work) →
      sweeps_for t (mesh_events t (world_start t) (es ++ Post (Fail g) ∷ [])) c ≤ k →
      IsRestoredAt t (mesh_events t (world_start t) (es ++ Post (Fail g) ∷ later)) n m

abbrev pub FleetsRestoreSoon : Type 0
FleetsRestoreSoon =
    (t : Network) (es : List Event) (old posted new : Record) (g : Group) (k : ℕ) → IsTopology t → IsRecord t old →
    LeadsTo t es (world_of t old) → IsWithoutMessages (world_of t old) → Calm (image (world_of t old)) →
    IsPostOf t (Fail g) old posted → IsRecord t posted → AreWholeSince t old k posted new →
    RestoresSoon t es g k old new
