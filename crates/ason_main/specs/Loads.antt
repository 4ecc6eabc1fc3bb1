-- What the program makes of a generated plan, and tells of it: how many calls are in each state after each part.
use Rattle.std.specs.{Prelude.{◌≡◌, ℕ, List, [], ◌∷◌, ◌++◌, None, Option, Some, length}, List.flat_map}
use Rattle.ason_base.specs.{declared.limits.TheConstants.MOST_EVENTS, declared.calls.TableRows.TableRows, declared.commands.Disturb.Disturb, declared.ids.NodeId.NodeId}
use Rattle.world_rules.specs.{Images.image, Worlds.World}
use Rattle.round_rules.specs.Records.{Record, log_at, world_of}
use Rattle.fleet.specs.Standing.{FleetState, StandsFor}
use Rattle.plan_reader.specs.{declared.lines.Line.Line, declared.lines.Line.TheVariants.Settle, declared.plan.Plan.Plan, Plans.ArePostable}
use Rattle.load_plan.specs.{LoadParts.AreAlwaysPostable, PhaseTexts.phase_text, declared.parts.LoadParts.LoadParts, declared.phases.LoadPhase.LoadPhase, declared.phases.LoadPhase.TheVariants.{Built, Failed, Repaired, Reverted}}
use Rattle.table_text.specs.TableText.{stopped_text}
use Rattle.script_rules.specs.{ScriptLaws.AreSame, OneWorker.lines_end, Outputs.{Prints, UnlessStopped}, Stages.{Stage, last_stage_of, new_stage, world_at}, Tables.IsTable}
use Rattle.ason_main.specs.{declared.runner.stops.Stop.Stop, Outputs.{IsOneRun, end_stage, silent_on}, Running.{AreBegun, AreLed}}

-- Parts

-- lines of the script, and the phase of which a line is printed behind them, if one is
pub record LoadPart : Type 0 where
  pub lines : List Line
  pub phase : Option LoadPhase

abbrev pub phase_part : List Line → LoadPhase → LoadPart
phase_part lines phase = record { lines = lines; phase = Some phase }

-- the network settles
abbrev pub settling : List Line
settling = Settle 1000 ∷ []

-- the network settles, and all calls are set up; the group fails; it is repaired; the calls go back; and the network
-- settles again
abbrev pub parts_of_load : LoadParts → List LoadPart
parts_of_load l =
    phase_part (settling ++ l.plan.lines) Built ∷ phase_part l.failed Failed ∷ phase_part l.repaired Repaired
    ∷ phase_part l.reverted Reverted ∷ record { lines = settling; phase = None } ∷ []

abbrev pub lines_in_parts : List LoadPart → List Line
lines_in_parts parts = flat_map (λ x. x.lines) parts

-- The lines of the first part can be posted one after the other, those of the others after whatever was posted.
pub record CanBeRun (l : LoadParts) : Type 0 where
  pub built : ArePostable l.plan.topology [] l.plan.lines
  pub failed : AreAlwaysPostable l.plan.topology l.failed
  pub repaired : AreAlwaysPostable l.plan.topology l.repaired
  pub reverted : AreAlwaysPostable l.plan.topology l.reverted

-- where the script leads
abbrev pub load_end : LoadParts → Stage
load_end l = lines_end l.plan.topology (lines_in_parts (parts_of_load l)) new_stage

-- What is printed

-- the line of a phase tells of the table of the mesh which the world shows
abbrev pub ShowsPhase : Plan → LoadPhase → World → List ℕ → Type 0
ShowsPhase p phase w text =
    (rows : TableRows) × IsTable p.topology (image w) rows × (text ≡ phase_text phase rows.calls)

-- nothing is printed once the run is stopped
abbrev pub PhasePrints : Plan → Option LoadPhase → Stage → List ℕ → Type 0
PhasePrints p None s text = text ≡ []
PhasePrints p (Some phase) s text = UnlessStopped s.stopped (ShowsPhase p phase (world_at p.topology s) text) text

-- These parts make these stages of this one, on one worker, and print this text: nothing is printed of their lines.
abbrev pub PartsPrint : Plan → List LoadPart → Stage → List Stage → List ℕ → Type 0
PartsPrint p [] s more text = (more ≡ []) × (text ≡ [])
PartsPrint p (x ∷ parts) s more text =
    (first others : List Stage) × (here later : List ℕ) × Prints p (silent_on 1) x.lines s first []
    × PhasePrints p x.phase (last_stage_of s first) here × PartsPrint p parts (last_stage_of s first) others later
    × (more ≡ first ++ others) × (text ≡ here ++ later)

-- this is the line of the phase, for whatever record the stations stand
pub record TellsPhase (p : Plan) (phase : LoadPhase) (f : FleetState) (text : List ℕ) : Type 0 where
  pub tells : (lines : List Disturb) (r : Record) → StandsFor p.topology lines f r →
      ShowsPhase p phase (world_of p.topology r) text

-- and it was told behind what was told before
pub record TellsMore (p : Plan) (phase : LoadPhase) (f : FleetState) (before after : List ℕ) : Type 0 where
  pub line : List ℕ
  pub tells : TellsPhase p phase f line
  pub behind : after ≡ before ++ line

-- these parts were done from the start on, up to a stage that is stopped so, and this was told
pub record AreLoaded (p : Plan) (parts : List LoadPart) (f : FleetState) (stop : Option NodeId) (text : List ℕ)
    : Type 0 where
  pub more : List Stage
  pub printed : PartsPrint p parts new_stage more text
  pub led : AreLed p.topology f stop new_stage more

-- why not all of them were done
abbrev pub StopsLoad : Plan → List LoadPart → FleetState → List ℕ → Stop → Type 0
StopsLoad p parts f text (Stop.AtLimit n) = AreLoaded p parts f (Some n) text
StopsLoad p parts f text Stop.Failed = ⊥
StopsLoad p parts f text Stop.OutOfMemory = AreBegun p (silent_on 1) (lines_in_parts parts) f new_stage []

-- The run

-- what is made and printed of a generated plan by a run that comes to the script's end
pub record IsLoaded (l : LoadParts) (more : List Stage) (text : List ℕ) : Type 0 where
  pub one_run : IsOneRun l.plan more
  pub ended : (end_stage more).stopped ≡ None
  pub printed : PartsPrint l.plan (parts_of_load l) new_stage more text

-- what is made and printed by a run that is stopped at the limit of this node, whose log has 50,000 lines
pub record IsLoadCut (l : LoadParts) (n : NodeId) (more : List Stage) (text : List ℕ) : Type 0 where
  pub one_run : IsOneRun l.plan more
  pub stopped : (end_stage more).stopped ≡ Some n
  pub full : length (log_at (end_stage more).made n.0) ≡ MOST_EVENTS
  pub printed : PartsPrint l.plan (parts_of_load l) new_stage more text

-- of the generated plan there is no other one, and the run is never stopped
pub record IsTheLoad (l : LoadParts) (more : List Stage) (text : List ℕ) : Type 0 where
  pub is : IsLoaded l more text
  pub only : (others : List Stage) (other : List ℕ) → IsLoaded l others other → AreSame others more other text
  pub never_stopped : (n : NodeId) (others : List Stage) (other : List ℕ) → ¬ IsLoadCut l n others other

-- the same of a run that is stopped
pub record IsTheLoadCut (l : LoadParts) (n : NodeId) (more : List Stage) (text : List ℕ) : Type 0 where
  pub is : IsLoadCut l n more text
  pub only : (m : NodeId) (others : List Stage) (other : List ℕ) → IsLoadCut l m others other →
      (m ≡ n) × AreSame others more other text
  pub never_ended : (others : List Stage) (other : List ℕ) → ¬ IsLoaded l others other

-- and the line of the stop
pub record IsTheStoppedLoad (l : LoadParts) (n : NodeId) (more : List Stage) (text : List ℕ) : Type 0 where
  pub told : List ℕ
  pub cut : IsTheLoadCut l n more told
  pub all : text ≡ told ++ stopped_text l.plan n
