-- What holds of every script.
use Rattle.std.specs.{Prelude.{◌≡◌, ◌⊎◌, ℕ, false, List, ◌∷◌, ◌++◌}, List.AllByRecursion}
use Rattle.ason_base.specs.{declared.commands.Command.TheVariants.Fail, declared.commands.Group.Group, Network.{IsTopology, Network}}
use Rattle.round_rules.specs.{Commands.{CutRoundsPostNothing, RoundsPostNothing}, Records.Record, PossibleRecords.IsRecord}
use Rattle.plan_reader.specs.{declared.lines.Line.Line, declared.lines.Line.TheVariants.Post, declared.plan.Plan.Plan, Plans.calls_after_lines}
use Rattle.script_rules.specs.{Growing.AreGrowing, Lawful.IsLawfulRecord, OneWorker.lines_end, Outputs.{How, Prints}, Restoring.{FailsLast, IsStoppedBefore, MakesRounds, RestoresInRounds}, Stages.{IsFull, Stage, is_stopped, last_stage_of, new_stage, world_at}}

-- over a topology each merge of a record's logs and posts is a lawful run, and there is one
abbrev pub RecordsAreLawful : Type 0
RecordsAreLawful = (t : Network) (r : Record) → IsTopology t → IsRecord t r → IsLawfulRecord t r

-- lines after lines
abbrev pub LinesFollow : Type 0
LinesFollow =
    (p : Plan) (how : How) (xs ys : List Line) (s : Stage) (first others : List Stage) (here later : List ℕ) →
    Prints p how xs s first here → Prints p how ys (last_stage_of s first) others later →
    Prints p how (xs ++ ys) s (first ++ others) (here ++ later)

-- With one worker lawful stages and their text are the only ones.
pub record AreSame (xs ys : List Stage) (a b : List ℕ) : Type 0 where
  pub stages : xs ≡ ys
  pub text : a ≡ b

abbrev pub OneWorkerIsAlone : Type 0
OneWorkerIsAlone =
    (p : Plan) (how : How) (lines : List Line) (s : Stage) (xs ys : List Stage) (a b : List ℕ) → how.workers ≡ 1 →
    AllByRecursion (λ (z : Stage). IsLawfulRecord p.topology z.made) (s ∷ xs) → Prints p how lines s xs a →
    Prints p how lines s ys b → AreSame xs ys a b

-- and the last one is that of the function
abbrev pub OneWorkerIsAFunction : Type 0
OneWorkerIsAFunction =
    (p : Plan) (how : How) (lines : List Line) (s : Stage) (more : List Stage) (text : List ℕ) → how.workers ≡ 1 →
    Prints p how lines s more text → last_stage_of s more ≡ lines_end p.topology lines s

-- nothing is posted in rounds
pub record ScriptRoundLaws : Type 0 where
  pub whole : RoundsPostNothing
  pub cut : CutRoundsPostNothing

-- logs and posts grow at their ends
abbrev pub ScriptsGrow : Type 0
ScriptsGrow =
    ScriptRoundLaws → (p : Plan) (how : How) (lines : List Line) (s : Stage) (more : List Stage) (text : List ℕ) →
    Prints p how lines s more text → AreGrowing s more

-- while the run isn't stopped the setups that were posted are those of the lines
abbrev pub PostsFollowLines : Type 0
PostsFollowLines =
    ScriptRoundLaws → (p : Plan) (how : How) (lines : List Line) (s : Stage) (more : List Stage) (text : List ℕ) →
    Prints p how lines s more text → is_stopped (last_stage_of s more) ≡ false →
    (world_at p.topology (last_stage_of s more)).posted ≡ calls_after_lines (world_at p.topology s).posted lines

-- a run is stopped at a node whose log is full
abbrev pub StopsAreFull : Type 0
StopsAreFull =
    (p : Plan) (how : How) (lines : List Line) (s : Stage) (more : List Stage) (text : List ℕ) →
    IsFull s.made s.stopped → Prints p how lines s more text →
    IsFull (last_stage_of s more).made (last_stage_of s more).stopped

-- of stages that are lawful records: after a failure behind which rounds alone are made, calls are restored in rounds
abbrev pub FailuresAreRestored : Type 0
FailuresAreRestored =
    (p : Plan) (more : List Stage) → IsTopology p.topology →
    AllByRecursion (λ (s : Stage). IsLawfulRecord p.topology s.made) (new_stage ∷ more) → RestoresInRounds p more

-- each `fail` line with such lines behind it makes such a failure, unless the run was stopped before it
abbrev pub FailLinesFail : Type 0
FailLinesFail =
    (p : Plan) (how : How) (first behind : List Line) (g : Group) (more : List Stage) (text : List ℕ) →
    Prints p how (first ++ Post (Fail g) ∷ behind) new_stage more text → AllByRecursion MakesRounds behind →
    FailsLast p how more g ⊎ IsStoppedBefore p how first more
