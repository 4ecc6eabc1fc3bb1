-- What the runner does for the lines of a script.
use Rattle.std.specs.{Prelude.{◌≡◌, ◌<◌, ◌≤◌, ◌⊎◌, ℕ, zero, suc, Bool, true, false, List, [], ◌∷◌, ◌++◌, Option, None, Some, Result, length, take}, List.AllByRecursion, Io.KnownBytes.Appends}
use Rattle.ason_io.specs.Faults.{Rose}
use Rattle.ason_base.specs.{declared.calls.TableRows.TableRows, declared.commands.Disturb.Disturb, declared.ids.NodeId.NodeId, Network.Network}
use Rattle.round_rules.specs.Records.{Record, world_of}
use Rattle.fleet.specs.{declared.fleet.RoundFault.RoundFault, Rounds.{Rounds, StarvesRound}, Standing.{FleetState, StandsFor}, Views.Publishes}
use Rattle.fleet.specs.declared.fleet.RoundFault.TheVariants as round
use Rattle.plan_reader.specs.{declared.lines.Line.Line, declared.plan.Plan.Plan, Plans.{ArePostable, IsPostable}}
use Rattle.plan_reader.specs.declared.lines.Line.TheVariants as said
use Rattle.script_rules.specs.{Outputs.{How, Prints, PrintsFirst, Shows}, Stages.{IsNextRound, LineMakes, Stage, is_settled, is_stopped, last_stage_of, world_at}, Tables.{IsTable, IsUnsettledLine}}
use Rattle.world_rules.specs.Images.{image}
use Rattle.ason_main.specs.declared.runner.stops.Stop.{Stop}

-- Rounds

-- what a round makes of the fleet, and what is published of it
pub record MakesRound (workers : ℕ) (answer : Result ℕ RoundFault) (old new : FleetState) : Type 0 where
  pub rounds : Rounds workers old new answer
  pub publishes : Publishes answer old new

-- Standing

-- the stations stand for this stage, and the run isn't stopped
pub record StandsAtStage (t : Network) (f : FleetState) (s : Stage) : Type 0 where
  pub stands : StandsFor t s.lines f s.made
  pub going : s.stopped ≡ None

-- some stations stood for the stage
pub record HasStood (t : Network) (s : Stage) : Type 0 where
  pub fleet : FleetState
  pub stands : StandsFor t s.lines fleet s.made

-- Stations stood for each of these stages, and these stand for the last one, which is stopped so.
pub record AreLed (t : Network) (new : FleetState) (stop : Option NodeId) (s : Stage) (more : List Stage) : Type 0 where
  pub stands : StandsFor t (last_stage_of s more).lines new (last_stage_of s more).made
  pub stopped : (last_stage_of s more).stopped ≡ stop
  pub stood : AllByRecursion (HasStood t) more

-- in some stage in which the stations stand the line can be posted
pub record CanDo (f : FleetState) (line : Line) : Type 0 where
  pub network : Network
  pub stage : Stage
  pub stands : StandsAtStage network f stage
  pub can : IsPostable network (world_at network stage).posted line

-- the same of these lines, one after the other
pub record CanDoAll (t : Network) (f : FleetState) (lines : List Line) : Type 0 where
  pub stage : Stage
  pub stands : StandsAtStage t f stage
  pub can : ArePostable t (world_at t stage).posted lines

-- Want of memory

-- these rounds were made, each to its end, fewer than so many, and one more begins
abbrev pub HaveBegunRounds : (Stage → Bool) → Network → ℕ → ℕ → Stage → List Stage → Type 0
HaveBegunRounds over t workers zero s more = ⊥
HaveBegunRounds over t workers (suc rounds) s [] = over s ≡ false
HaveBegunRounds over t workers (suc rounds) s (a ∷ more) =
    (over s ≡ false) × IsNextRound t workers s a × HaveBegunRounds over t workers rounds a more

-- these are rounds of the line, and one more of it begins
abbrev pub AreRoundsOf : Network → ℕ → Line → Stage → List Stage → Type 0
AreRoundsOf t workers (said.Post c) s more = ⊥
AreRoundsOf t workers (said.Disturb d) s more = ⊥
AreRoundsOf t workers (said.Noise u d bytes) s more = ⊥
AreRoundsOf t workers (said.Settle rounds) s more = HaveBegunRounds (is_settled t) t workers rounds s more
AreRoundsOf t workers (said.Wait rounds) s more = HaveBegunRounds is_stopped t workers rounds s more
AreRoundsOf t workers said.Show s more = ⊥

-- the stations stand for this stage, and no other was made
abbrev pub IsStill : Network → FleetState → Stage → List Stage → Type 0
IsStill t f s more = (more ≡ []) × StandsFor t s.lines f s.made

-- the line made these rounds, and memory was wanting in the next one: of that one the nodes did a part
abbrev pub IsInRound : Network → ℕ → Line → FleetState → Stage → List Stage → Type 0
IsInRound t workers line f s more =
    AreRoundsOf t workers line s more
    × StarvesRound t (last_stage_of s more).lines (last_stage_of s more).made f

-- memory was wanting for the line, of which these stages were made: none, or rounds
pub record IsLeftAt (t : Network) (workers : ℕ) (line : Line) (f : FleetState) (s : Stage) : Type 0 where
  pub more : List Stage
  pub left : IsStill t f s more ⊎ IsInRound t workers line f s more
  pub stood : AllByRecursion (HasStood t) more

-- the line made these stages, and the stations stand for the last one
abbrev pub HasMadeLine : Network → ℕ → Line → FleetState → Stage → List Stage → Type 0
HasMadeLine t workers line f s more =
    LineMakes t workers line s more × StandsFor t (last_stage_of s more).lines f (last_stage_of s more).made

-- What was done of these lines beyond what is told of them: nothing; or their first one was done, and memory was wanting
-- for its text; or in a round of it.
abbrev pub GoesOn : Network → ℕ → List Line → FleetState → Stage → List Stage → Type 0
GoesOn t workers [] f s more = IsStill t f s more
GoesOn t workers (line ∷ lines) f s more =
    IsStill t f s more ⊎ (HasMadeLine t workers line f s more ⊎ IsInRound t workers line f s more)

-- One line

-- the line makes stages of this one, up to one that is stopped so
pub record IsDone (t : Network) (workers : ℕ) (line : Line) (new : FleetState) (stop : Option NodeId)
    (s : Stage) : Type 0 where
  pub more : List Stage
  pub makes : LineMakes t workers line s more
  pub led : AreLed t new stop s more

-- in whatever stage the stations stand, where the line can be posted
abbrev pub Does : Network → ℕ → Line → FleetState → FleetState → Option NodeId → Type 0
Does t workers line old new stop =
    (s : Stage) → StandsAtStage t old s → IsPostable t (world_at t s).posted line → IsDone t workers line new stop s

-- why a line isn't done; nothing is printed of it, so no sink fails
abbrev pub Stops : Network → ℕ → Line → FleetState → FleetState → Stop → Type 0
Stops t workers line old new (Stop.AtLimit n) = Does t workers line old new (Some n)
Stops t workers line old new Stop.Failed = ⊥
Stops t workers line old new Stop.OutOfMemory = (s : Stage) → StandsAtStage t old s → IsLeftAt t workers line new s

abbrev pub stop_of : RoundFault → Stop
stop_of (round.AtLimit n) = Stop.AtLimit n
stop_of round.Starved = Stop.OutOfMemory

-- this is the line of what is unsettled, for whatever record the stations stand
pub record TellsUnsettled (f : FleetState) (text : List ℕ) : Type 0 where
  pub tells : (t : Network) (lines : List Disturb) (r : Record) → StandsFor t lines f r →
      IsUnsettledLine t (world_of t r) text

-- these rows are the table, for whatever record the stations stand
abbrev pub IsFleetTable : FleetState → TableRows → Type 0
IsFleetTable f rows =
    (t : Network) (lines : List Disturb) (r : Record) → StandsFor t lines f r → IsTable t (image (world_of t r)) rows

-- this is what a line prints that leads to the record for which the stations stand
pub record LineTells (p : Plan) (line : Line) (f : FleetState) (text : List ℕ) : Type 0 where
  pub tells : (lines : List Disturb) (r : Record) → StandsFor p.topology lines f r →
      Shows p line (world_of p.topology r) text

-- the line that makes so many rounds, until all is quiet or whether it is or not
abbrev pub rounds_line : Bool → ℕ → Line
rounds_line true rounds = said.Settle rounds
rounds_line false rounds = said.Wait rounds

-- Lines

-- the stations, what the sink took, where it tells that, and how often it failed
pub record RunState : Type 0 where
  pub fleet : FleetState
  pub written : Option (List ℕ)
  pub faults : ℕ

abbrev pub running_at : FleetState → Option (List ℕ) → ℕ → RunState
running_at f w n = record { fleet = f; written = w; faults = n }

-- in whatever stage the stations stand before, where the lines can be posted
abbrev pub Wherever : Plan → List Line → FleetState → (Stage → Type 0) → Type 0
Wherever p lines old holds =
    (s : Stage) → StandsAtStage p.topology old s → ArePostable p.topology (world_at p.topology s).posted lines → holds s

-- The lines make stages of this one, up to one that is stopped so, and what they print was written.
pub record AreDone (p : Plan) (how : How) (lines : List Line) (old new : RunState) (stop : Option NodeId)
    (s : Stage) : Type 0 where
  pub more : List Stage
  pub text : List ℕ
  pub printed : Prints p how lines s more text
  pub led : AreLed p.topology new.fleet stop s more
  pub written : Appends old.written new.written text

-- Some first lines make these stages and print this text, and these others were made beyond them, with the lines to do
-- that are left.
pub record AreUnderWay (p : Plan) (how : How) (lines : List Line) (new : FleetState) (s : Stage)
    (more since : List Stage) (text : List ℕ) : Type 0 where
  pub printed : PrintsFirst p how lines s more text
  pub goes_on : GoesOn p.topology how.workers printed.1 new (last_stage_of s more) since

-- for each of these stages stations stood
pub record AreBegun (p : Plan) (how : How) (lines : List Line) (new : FleetState) (s : Stage)
    (text : List ℕ) : Type 0 where
  pub more : List Stage
  pub since : List Stage
  pub under : AreUnderWay p how lines new s more since text
  pub stood : AllByRecursion (HasStood p.topology) (more ++ since)

-- this is the first text, and of the other one, which comes behind it, a part, and not all
abbrev pub IsPartBehind : List ℕ → List ℕ → List ℕ → Type 0
IsPartBehind told whole text = (n : ℕ) × (n < length whole) × (text ≡ told ++ take n whole)

-- Of what one of the lines prints the sink took this part, behind all that those before it print. The stations stand for
-- the stage to which it leads.
pub record AreBrokenOff (p : Plan) (how : How) (lines : List Line) (new : FleetState) (s : Stage)
    (text : List ℕ) : Type 0 where
  pub before : List Line
  pub line : Line
  pub left : List Line
  pub parts : before ++ line ∷ left ≡ lines
  pub earlier : List Stage
  pub told : List ℕ
  pub begun : Prints p how before s earlier told
  pub more : List Stage
  pub whole : List ℕ
  pub printed : Prints p how (line ∷ []) (last_stage_of s earlier) more whole
  pub led : AreLed p.topology new None s (earlier ++ more)
  pub part : IsPartBehind told whole text

-- a text of this kind was written
abbrev pub HasWritten : Option (List ℕ) → Option (List ℕ) → (List ℕ → Type 0) → Type 0
HasWritten old new is = (text : List ℕ) × is text × Appends old new text

-- the first bytes of a text of this kind were written, and not all
abbrev pub HasWrittenPart : Option (List ℕ) → Option (List ℕ) → (List ℕ → Type 0) → Type 0
HasWrittenPart old new is =
    (text : List ℕ) × is text × ((n : ℕ) × (n < length text) × Appends old new (take n text))

-- all lines are done, up to a stage that is stopped so
pub record DoesAll (p : Plan) (how : How) (lines : List Line) (old new : RunState) (stop : Option NodeId) : Type 0 where
  pub done : Wherever p lines old.fleet (AreDone p how lines old new stop)
  pub rises : old.faults ≤ new.faults

-- the sink failed while it took what one of the lines prints
pub record FailsIn (p : Plan) (how : How) (lines : List Line) (old new : RunState) : Type 0 where
  pub rose : Rose old.faults new.faults
  pub part : Wherever p lines old.fleet (λ s. HasWritten old.written new.written (AreBrokenOff p how lines new.fleet s))

-- memory was wanting when what some first lines print was written
pub record EndsIn (p : Plan) (how : How) (lines : List Line) (old new : RunState) : Type 0 where
  pub part : Wherever p lines old.fleet (λ s. HasWritten old.written new.written (AreBegun p how lines new.fleet s))
  pub rises : old.faults ≤ new.faults

-- why not all lines are done
abbrev pub StopsAll : Plan → How → List Line → RunState → RunState → Stop → Type 0
StopsAll p how lines old new (Stop.AtLimit n) = DoesAll p how lines old new (Some n)
StopsAll p how lines old new Stop.Failed = FailsIn p how lines old new
StopsAll p how lines old new Stop.OutOfMemory = EndsIn p how lines old new
