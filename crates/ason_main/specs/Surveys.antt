-- What the program tells of the last table of a plan's run: what fails together, and which calls would contend.
use Rattle.std.specs.{Prelude.{◌≡◌, ◌≢◌, ◌↔◌, ℕ, Bool, List, [], ◌∷◌, ◌++◌, IsTrue}, List.{AllByRecursion, list_all}}
use Rattle.ason_base.specs.{declared.calls.LegRow.LegRow, declared.calls.TableRows.TableRows, declared.commands.Group.Group, declared.ids.NodeId.NodeId, Network.Network, declared.commands.Disturb.Disturb, declared.commands.Entry.Entry}
use Rattle.mesh_rules.specs.Events as mesh_runs
use Rattle.mesh_rules.specs.Machine as mesh
use Rattle.mesh_rules.specs.Quiet as mesh_quiet
use Rattle.mesh_rules.specs.declared.events.MeshEvent.{MeshEvent}
use Rattle.mesh_laws.specs.{AloneLaw.{Calm, NoneRefused}, ContendLaw.GoesOnWith, Survey.{contends_of, hits_of}, SurveyLaw.{NoneListed, is_reserved_row}}
use Rattle.world_rules.specs.{Images.{IsQuietWorld, image, mesh_events}, Worlds.{World, world_start}}
use Rattle.world_merge.specs.{Merges.events_of, Orders.IsMerge}
use Rattle.round_rules.specs.Records.{Record, log_at, posts_in, world_of}
use Rattle.script_rules.specs.{ScriptLaws.AreSame, Outputs.{How, script_of}, Stages.{Stage, world_at}, Tables.IsTable}
use Rattle.fleet.specs.Standing.{FleetState, StandsFor}
use Rattle.plan_reader.specs.declared.plan.Plan.{Plan}
use Rattle.table_text.specs.{SurveyText.survey_text, TableText.stopped_text}
use Rattle.ason_main.specs.{declared.runner.stops.Stop.Stop, Outputs.{IsBegun, IsRunCutShort, IsFleetKept, IsOutput, IsStoppedSilently, end_stage, silent_on}}

-- The text

-- nothing waits in the world, no group has failed, and by its rows each backup's leg is Asked or Held
pub record IsCalmWorld (w : World) (legs : List LegRow) : Type 0 where
  pub quiet : IsQuietWorld w
  pub failed : w.failed ≡ []
  pub backups : IsTrue (list_all is_reserved_row legs)

-- the survey of the world's table: whether it is calm, what each group would hit, and which calls would contend
pub record IsSurveyOf (p : Plan) (w : World) (text : List ℕ) : Type 0 where
  pub rows : TableRows
  pub table : IsTable p.topology (image w) rows
  pub calm : Bool
  pub exact : IsTrue calm ↔ IsCalmWorld w rows.legs
  pub told : text
      ≡ survey_text p calm (hits_of p.topology rows.calls rows.legs) (contends_of p.topology rows.calls rows.legs)

-- this is the survey of the table, for whatever record the stations stand
pub record TellsSurvey (p : Plan) (f : FleetState) (text : List ℕ) : Type 0 where
  pub tells : (lines : List Disturb) (r : Record) → StandsFor p.topology lines f r →
      IsSurveyOf p (world_of p.topology r) text

-- What it says of all that may follow

-- However the run of the mesh goes on, while these two groups alone fail and are repaired, in any order, and nothing is
-- set up, released or protected: no activation is refused.
abbrev pub AreAdmittedSince : Network → List MeshEvent → Group → Group → Type 0
AreAdmittedSince t events g h =
    (since : List MeshEvent) → mesh_runs.IsRun t mesh.start (events ++ since) →
    AllByRecursion (GoesOnWith (g ∷ h ∷ [])) since → NoneRefused t (mesh_runs.after t mesh.start events) since

-- In the mesh to which these events lead nothing is under way and nothing of an earlier failure is left; and where two
-- groups fail for which no row tells that calls would contend, no activation is refused.
pub record CalmHolds (t : Network) (events : List MeshEvent) (rows : TableRows) : Type 0 where
  pub quiet : mesh_quiet.IsQuiet (mesh_runs.after t mesh.start events)
  pub calm : Calm (mesh_runs.after t mesh.start events)
  pub admitted : (g h : Group) → g ≢ h → NoneListed t rows.calls rows.legs g h → AreAdmittedSince t events g h

-- The run and its survey

-- a run of which nothing is printed, with one worker
abbrev pub silent : How
silent = silent_on 1

-- however its logs and posts are merged, the mesh to which the record's run leads has these rows, and this holds of it
abbrev pub HoldsOf : Network → Record → TableRows → Type 0
HoldsOf t r rows =
    (m : List Entry) → IsMerge (log_at r) (posts_in r) m →
    CalmHolds t (mesh_events t (world_start t) (events_of m)) rows

-- the survey of the run's last table; where it is told to be calm, this is what it says
pub record IsSurveyed (p : Plan) (more : List Stage) (text : List ℕ) : Type 0 where
  pub output : IsOutput p silent more []
  pub survey : IsSurveyOf p (world_at p.topology (end_stage more)) text
  pub holds : IsTrue survey.calm → HoldsOf p.topology (end_stage more).made survey.rows

-- it is the plan's one survey
pub record IsTheSurvey (p : Plan) (more : List Stage) (text : List ℕ) : Type 0 where
  pub is : IsSurveyed p more text
  pub only : (others : List Stage) (other : List ℕ) → IsSurveyed p others other → AreSame others more other text
  pub never_stopped : (n : NodeId) (others : List Stage) → ¬ IsRunCutShort p silent n others []

-- why there is no survey
abbrev pub StopsSurvey : Plan → FleetState → Stop → Type 0
StopsSurvey p f (Stop.AtLimit n) =
    (more : List Stage) × IsStoppedSilently p 1 n more (stopped_text p n) × IsFleetKept p f (end_stage more)
StopsSurvey p f Stop.Failed = ⊥
StopsSurvey p f Stop.OutOfMemory = IsBegun p silent (script_of p) f []

-- the fleet made the run of which this is the survey
pub record TellsTheSurvey (p : Plan) (f : FleetState) (text : List ℕ) : Type 0 where
  pub more : List Stage
  pub survey : IsTheSurvey p more text
  pub kept : IsFleetKept p f (end_stage more)
