-- Restored within how many rounds: after a `fail` line behind which rounds alone are made, each guarded call that the group
-- hits is restored once as many rounds are over as its routes are long, if no frame of them is lost, held back or dropped.
use Rattle.std.specs.{Prelude.{◌≡◌, ◌<◌, ◌≤◌, ℕ, true, List, [], ◌∷◌, ◌++◌, length, None}, List.AllByRecursion}
use Rattle.ason_base.specs.{declared.commands.Command.TheVariants.Fail, declared.commands.Event.Event, declared.commands.Group.Group, declared.ids.NodeId.NodeId, Network.Network}
use Rattle.mesh_laws.specs.AloneLaw.{Calm}
use Rattle.world_rules.specs.{Images.image, WorldLaws.IsWithoutMessages}
use Rattle.round_rules.specs.{Lines.says, Records.Record, Rings.count_of, Takings.IsDelivered}
use Rattle.round_laws.specs.{FleetLaw.RestoresSoon, RoundsInOrder.RestoresInOrder, WholeRounds.LeadsTo}
use Rattle.plan_reader.specs.{declared.lines.Line.Line, declared.lines.Line.TheVariants.{Noise, Post, Settle, Wait, Show}, declared.plan.Plan.Plan}
use Rattle.plan_reader.specs.declared.lines.Line.TheVariants as said
use Rattle.script_rules.specs.{Outputs.{How, Prints}, Stages.{Stage, is_stopped, last_stage_of, new_stage, with_post, world_at}}

-- The failure

-- a line that makes rounds, or no stage at all
abbrev pub MakesRounds : Line → Type 0
MakesRounds (Post c) = ⊥
MakesRounds (said.Disturb d) = ⊥
MakesRounds (Noise u d bytes) = ⊥
MakesRounds (Settle rounds) = Unit {0}
MakesRounds (Wait rounds) = Unit {0}
MakesRounds Show = Unit {0}

-- the group fails
abbrev pub with_failure : Network → Group → Stage → Stage
with_failure t g s = with_post t (Fail g) s

-- These stages have the failure of the group, as a `fail` line makes it, and behind it nothing but rounds.
pub record FailsLast (p : Plan) (how : How) (more : List Stage) (g : Group) : Type 0 where
  -- the lines before it, and their stages
  pub first : List Line
  pub before : List Stage
  pub here : List ℕ
  pub begun : Prints p how first new_stage before here
  -- the lines behind it, which are `settle`, `wait` and `show`, and their stages
  pub behind : List Line
  pub only : AllByRecursion MakesRounds behind
  pub rounds : List Stage
  pub later : List ℕ
  pub ended : Prints p how behind (with_failure p.topology g (last_stage_of new_stage before)) rounds later
  pub parts : before ++ with_failure p.topology g (last_stage_of new_stage before) ∷ rounds ≡ more

-- the stage at which the line is posted
abbrev pub failing : {p : Plan} {how : How} {more : List Stage} {g : Group} → FailsLast p how more g → Stage
failing f = last_stage_of new_stage f.before

-- nothing of an earlier failure is left, each desk is empty, and no message is unacknowledged
pub record IsCalmAndQuiet (t : Network) (s : Stage) : Type 0 where
  pub calm : Calm (image (world_at t s))
  pub quiet : IsWithoutMessages (world_at t s)

-- Rounds

-- The round from s to a comes to its end, drops no frame, and no line loses or holds back one that was sent since the
-- failure.
pub record IsWholeNext (t : Network) (since s a : Stage) : Type 0 where
  pub ended : a.stopped ≡ None
  pub dropped : (u d : ℕ) → a.made.dropped u d ≡ s.made.dropped u d
  pub delivered : (u d : NodeId) (k : ℕ) → count_of t since.made u d < k → k ≤ count_of t a.made u d →
      IsDelivered (says s.lines u d k)

-- each of these rounds does, the first of them from s
abbrev pub AreWhole : Network → Stage → Stage → List Stage → Type 0
AreWhole t since s [] = Unit {0}
AreWhole t since s (a ∷ rounds) = IsWholeNext t since s a × AreWhole t since a rounds

-- Restored

-- So many rounds on so many workers are a run, and of the calls that the group hits these are restored at its end:
pub record RestoresOn (t : Network) (workers : ℕ) (es : List Event) (g : Group) (k : ℕ)
    (old new : Record) : Type 0 where
  -- each whose routes take at most so many rounds (`sweeps_for`)
  pub soon : RestoresSoon t es g k old new
  -- and with one worker each whose routes take at most so many in which nodes go in order of number (`sweeps_in_order`)
  pub in_order : workers ≡ 1 → RestoresInOrder t es g k old new

-- Where the group fails in a calm and quiet network, and the rounds from then up to some stage are whole: whatever run led
-- to the failure goes on to a run that leads to that stage, and there each call that was guarded at the failure and is hit
-- is restored, if there are as many rounds as its routes take.
abbrev pub RestoresInRounds : Plan → List Stage → Type 0
RestoresInRounds p more =
    (how : How) (g : Group) (f : FailsLast p how more g) → IsCalmAndQuiet p.topology (failing f) →
    (rounds left : List Stage) → rounds ++ left ≡ f.rounds →
    AreWhole p.topology (failing f) (with_failure p.topology g (failing f)) rounds →
    (es : List Event) → LeadsTo p.topology es (world_at p.topology (failing f)) →
    RestoresOn p.topology how.workers es g (length rounds) (failing f).made
    (last_stage_of (with_failure p.topology g (failing f)) rounds).made

-- these are the stages of the lines before it, and the run was stopped in them
pub record IsStoppedBefore (p : Plan) (how : How) (first : List Line) (more : List Stage) : Type 0 where
  pub here : List ℕ
  pub printed : Prints p how first new_stage more here
  pub stopped : is_stopped (last_stage_of new_stage more) ≡ true
