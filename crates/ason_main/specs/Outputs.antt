-- What the program makes and prints of a plan.
use Rattle.std.specs.{Prelude.{◌≡◌, ◌≤◌, ℕ, false, List, [], ◌∷◌, ◌++◌, Option, Some, None, Result, Ok, Err, length}, List.AllByRecursion, Io.KnownBytes.Appends}
use Rattle.ason_io.specs.Faults.{Rose}
use Rattle.ason_base.specs.{declared.commands.Disturb.Disturb, declared.ids.NodeId.NodeId, Network.IsTopology, declared.limits.TheConstants.MOST_EVENTS}
use Rattle.round_rules.specs.Records.{Record, log_at}
use Rattle.fleet.specs.Standing.{FleetState, HasMade, StandsFor}
use Rattle.plan_reader.specs.{declared.lines.Line.Line, declared.plan.Plan.Plan}
use Rattle.table_text.specs.TableText.{stopped_text}
use Rattle.script_rules.specs.{Growing.AreGrowing, ScriptLaws.AreSame, Lawful.IsLawfulRecord, Outputs.{How, Prints, script_of}, Restoring.RestoresInRounds, Stages.{Stage, last_stage_of, new_stage}}
use Rattle.ason_main.specs.{declared.runner.run.Ran.Ran, declared.runner.stops.Stop.Stop, Running.{AreBrokenOff, AreUnderWay, HasWritten}}

-- The run

-- the last of these stages
abbrev pub end_stage : List Stage → Stage
end_stage more = last_stage_of new_stage more

-- Over the plan's network, which is a topology, each of these stages is a record whose merges are lawful runs, from stage
-- to stage logs and posts grow at their ends, and after a failure calls are restored in as many rounds as their routes are
-- long.
pub record IsOneRun (p : Plan) (more : List Stage) : Type 0 where
  pub topology : IsTopology p.topology
  pub laws : AllByRecursion (λ (s : Stage). IsLawfulRecord p.topology s.made) (new_stage ∷ more)
  pub grows : AreGrowing new_stage more
  pub restores : RestoresInRounds p more

-- what is made and printed by a run that comes to the script's end
pub record IsOutput (p : Plan) (how : How) (more : List Stage) (text : List ℕ) : Type 0 where
  pub one_run : IsOneRun p more
  pub ended : (end_stage more).stopped ≡ None
  pub printed : Prints p how (script_of p) new_stage more text

-- what is made and printed by a run that is stopped at the limit of this node, whose log has 50,000 lines
pub record IsRunCutShort (p : Plan) (how : How) (n : NodeId) (more : List Stage) (text : List ℕ) : Type 0 where
  pub one_run : IsOneRun p more
  pub stopped : (end_stage more).stopped ≡ Some n
  pub full : length (log_at (end_stage more).made n.0) ≡ MOST_EVENTS
  pub printed : Prints p how (script_of p) new_stage more text

-- The one output of a plan

-- this is an output of the plan; with one worker there is no other one, and the run is never stopped
pub record IsTheOutput (p : Plan) (how : How) (more : List Stage) (text : List ℕ) : Type 0 where
  pub output : IsOutput p how more text
  pub only : how.workers ≡ 1 → (others : List Stage) (other : List ℕ) → IsOutput p how others other →
      AreSame others more other text
  pub never_stopped : how.workers ≡ 1 → (n : NodeId) (others : List Stage) (other : List ℕ) →
      ¬ IsRunCutShort p how n others other

-- the same of a run that is stopped
pub record IsTheCut (p : Plan) (how : How) (n : NodeId) (more : List Stage) (text : List ℕ) : Type 0 where
  pub output : IsRunCutShort p how n more text
  pub only : how.workers ≡ 1 → (m : NodeId) (others : List Stage) (other : List ℕ) →
      IsRunCutShort p how m others other →
      (m ≡ n) × AreSame others more other text
  pub never_ended : how.workers ≡ 1 → (others : List Stage) (other : List ℕ) → ¬ IsOutput p how others other

-- and the line of the stop
pub record IsTheStoppedOutput (p : Plan) (how : How) (n : NodeId) (more : List Stage) (text : List ℕ) : Type 0 where
  pub told : List ℕ
  pub cut : IsTheCut p how n more told
  pub all : text ≡ told ++ stopped_text p n

-- Runs of which nothing is printed

abbrev pub silent_on : ℕ → How
silent_on workers = record { workers = workers; tables = false }

-- of a run that is stopped at the limit of this node the line of the stop is told alone
pub record IsStoppedSilently (p : Plan) (workers : ℕ) (n : NodeId) (more : List Stage) (text : List ℕ) : Type 0 where
  pub cut : IsTheCut p (silent_on workers) n more []
  pub told : text ≡ stopped_text p n

-- What a run leaves

-- the fleet stands for this stage, and its logs and posts are those of it
pub record IsFleetKept (p : Plan) (f : FleetState) (s : Stage) : Type 0 where
  pub stands : StandsFor p.topology s.lines f s.made
  pub made : HasMade p.topology f s.made

-- Memory was wanting in a run of these lines: the text is what some first ones print, up to the end of a line, and the
-- fleet stands for their last stage, or has gone on from there within the next line. All these stages are of one run, and
-- whatever record the fleet stands for is lawful, and its logs and posts are those of it.
pub record IsBegun (p : Plan) (how : How) (lines : List Line) (f : FleetState) (text : List ℕ) : Type 0 where
  pub more : List Stage
  pub since : List Stage
  pub under : AreUnderWay p how lines f new_stage more since text
  pub one_run : IsOneRun p (more ++ since)
  pub lawful : (named : List Disturb) (r : Record) → StandsFor p.topology named f r → IsLawfulRecord p.topology r
  pub made : (named : List Disturb) (r : Record) → StandsFor p.topology named f r → HasMade p.topology f r

-- The sink failed in what a line of the script prints: the text is what it took, and the fleet stands for the stage to
-- which the line leads.
pub record IsBrokenOff (p : Plan) (how : How) (f : FleetState) (text : List ℕ) : Type 0 where
  pub broken : AreBrokenOff p how (script_of p) f new_stage text
  pub one_run : IsOneRun p (broken.earlier ++ broken.more)
  pub kept : IsFleetKept p f (end_stage (broken.earlier ++ broken.more))

-- the plan's output was written, and the fleet made it
pub record HasEnded (p : Plan) (how : How) (f : FleetState) (old new : Option (List ℕ)) : Type 0 where
  pub more : List Stage
  pub text : List ℕ
  pub output : IsTheOutput p how more text
  pub kept : IsFleetKept p f (end_stage more)
  pub written : Appends old new text

-- the same of a run that is stopped at this node
pub record HasBeenCut (p : Plan) (how : How) (n : NodeId) (f : FleetState) (old new : Option (List ℕ)) : Type 0 where
  pub more : List Stage
  pub text : List ℕ
  pub output : IsTheCut p how n more text
  pub kept : IsFleetKept p f (end_stage more)
  pub written : Appends old new text

-- what the runner answers of a plan, by what the sink took before and after, and how often it failed
abbrev pub IsRan : {K : Type 0} → (K → Option (List ℕ)) → (K → ℕ) → Plan → How → FleetState → K → K → Ran → Type 0
IsRan written faults p how f old new Ran.Ended =
    (faults old ≤ faults new) × HasEnded p how f (written old) (written new)
IsRan written faults p how f old new (Ran.AtLimit n) =
    (faults old ≤ faults new) × HasBeenCut p how n f (written old) (written new)
IsRan written faults p how f old new Ran.Failed =
    Rose (faults old) (faults new) × HasWritten (written old) (written new) (IsBrokenOff p how f)
IsRan written faults p how f old new Ran.OutOfMemory =
    (faults old ≤ faults new) × HasWritten (written old) (written new) (IsBegun p how (script_of p) f)

-- how a run ended whose script was done, or stopped so
abbrev pub ran_of : {T : Type 0} → Result T Stop → Ran
ran_of (Ok x) = Ran.Ended
ran_of (Err (Stop.AtLimit n)) = Ran.AtLimit n
ran_of (Err Stop.Failed) = Ran.Failed
ran_of (Err Stop.OutOfMemory) = Ran.OutOfMemory
