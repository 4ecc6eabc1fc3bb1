-- What a round makes of a fleet.
use Rattle.std.specs.Prelude.{◌≡◌, ◌+◌, ℕ, List, length, sum_by, Result, Ok, Err}
use Rattle.ason_base.specs.{declared.ids.NodeId.NodeId, declared.commands.Disturb.Disturb, declared.commands.Entry.Entry, Network.Network}
use Rattle.world_merge.specs.{Merges.IsRunOf, Orders.IsMerge}
use Rattle.round_rules.specs.{OneWorker.ids_of, Records.{Record, deeds_at, log_at, posts_in}, Unfinished.{IsRoundBy, IsUnfinishedBy}, States.StationState, Fleets.HasGrown}
use Rattle.fleet.specs.{declared.fleet.RoundFault.RoundFault, Standing.{FleetState, StandsFor}}
use Rattle.fleet.specs.declared.fleet.RoundFault.TheVariants as fault

-- how many lines all logs have
abbrev pub record_lines : Network → Record → ℕ
record_lines t r = sum_by (λ (n : NodeId). length (log_at r n.0)) (ids_of t)

-- a round was made, and so many lines were written
pub record MakesRound (t : Network) (lines : List Disturb) (workers : ℕ) (before : Record) (new : FleetState)
    (count : ℕ) : Type 0 where
  pub after : Record
  pub stands : StandsFor t lines new after
  pub round : IsRoundBy t lines workers before after
  pub written : record_lines t after ≡ record_lines t before + count

-- the round ends at the limit of this node
pub record CutsRound (t : Network) (lines : List Disturb) (workers : ℕ) (before : Record) (new : FleetState)
    (n : NodeId) : Type 0 where
  pub after : Record
  pub stands : StandsFor t lines new after
  pub unfinished : IsUnfinishedBy t lines workers before after n

-- memory was wanting: what was done before stays, more may have been done, and nothing was posted
pub record StarvesRound (t : Network) (lines : List Disturb) (before : Record) (new : FleetState) : Type 0 where
  pub after : Record
  pub stands : StandsFor t lines new after
  pub grown : (m : ℕ) → HasGrown before after m

abbrev pub EndsRound : Network → List Disturb → ℕ → Record → FleetState → Result ℕ RoundFault → Type 0
EndsRound t lines workers before new (Ok count) = MakesRound t lines workers before new count
EndsRound t lines workers before new (Err (fault.AtLimit n)) = CutsRound t lines workers before new n
EndsRound t lines workers before new (Err fault.Starved) = StarvesRound t lines before new

-- for whatever record the fleet stands
abbrev pub Rounds : ℕ → FleetState → FleetState → Result ℕ RoundFault → Type 0
Rounds workers old new answer =
    (t : Network) (lines : List Disturb) (r : Record) → StandsFor t lines old r → EndsRound t lines workers r new answer

-- The merge

-- how many lines its logs have, and how many were posted
abbrev pub entries_in : FleetState → ℕ
entries_in f = sum_by (λ (s : StationState). length s.log) f.stations + length f.posts

-- the logs and the posts in one order, which is a run of a world
pub record IsMerged (t : Network) (r : Record) (m : List Entry) : Type 0 where
  pub merge : IsMerge (log_at r) (posts_in r) m
  pub run : IsRunOf t (deeds_at r) m

abbrev pub Merges : FleetState → List Entry → Type 0
Merges f m = (t : Network) (lines : List Disturb) (r : Record) → StandsFor t lines f r → IsMerged t r m
