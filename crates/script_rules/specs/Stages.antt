-- What a script makes of the nodes of a network, stage by stage, on any number of workers.
use Rattle.std.specs.Prelude.{◌≡◌, ◌==◌, ◌||◌, ℕ, zero, suc, Bool, true, false, List, [], ◌∷◌, ◌++◌, length, Option, None, Some, is_some, if◌then◌else◌}
use Rattle.ason_base.specs.{declared.limits.TheConstants.MOST_EVENTS, declared.commands.Command.Command, declared.commands.Disturb.Disturb, declared.ids.NodeId.NodeId, Network.Network}
use Rattle.world_rules.specs.Worlds.{World}
use Rattle.round_rules.specs.{Records.{Record, log_at, new_record, world_of}, Unfinished.{IsRoundBy, IsUnfinishedBy}, Commands.{named, noised, record_posted}, Waiting.is_world_quiet}
use Rattle.plan_reader.specs.{declared.lines.Line.Line, declared.lines.Line.TheVariants.{Noise, Post, Settle, Wait, Show}}
use Rattle.plan_reader.specs.declared.lines.Line.TheVariants as said

-- Stages

-- what the nodes did so far, the lines that name a frame by its number, and the node at whose limit the run is stopped
pub record Stage : Type 0 where
  pub made : Record
  pub lines : List Disturb
  pub stopped : Option NodeId

-- nothing was done yet
abbrev pub new_stage : Stage
new_stage = record { made = new_record; lines = []; stopped = None }

abbrev pub is_stopped : Stage → Bool
is_stopped s = is_some s.stopped

abbrev pub world_at : Network → Stage → World
world_at t s = world_of t s.made

-- the last of these stages, which come after this one
abbrev pub last_stage_of : Stage → List Stage → Stage
last_stage_of s [] = s
last_stage_of s (a ∷ more) = last_stage_of a more

-- Rounds

-- a round on so many workers, or one that ends at the limit of a node
abbrev pub ComesTo : Network → List Disturb → ℕ → Record → Record → Option NodeId → Type 0
ComesTo t lines workers before after None = IsRoundBy t lines workers before after
ComesTo t lines workers before after (Some n) = IsUnfinishedBy t lines workers before after n

-- the stage a comes from s by a round
pub record IsNextRound (t : Network) (workers : ℕ) (s a : Stage) : Type 0 where
  pub comes : ComesTo t s.lines workers s.made a.made a.stopped
  pub lines : a.lines ≡ s.lines

-- the log of the node at which the run is stopped has 50,000 lines
abbrev pub IsFull : Record → Option NodeId → Type 0
IsFull r None = Unit {0}
IsFull r (Some n) = length (log_at r n.0) ≡ MOST_EVENTS

-- it is stopped, or nothing waits at its nodes
abbrev pub is_settled : Network → Stage → Bool
is_settled t s = is_stopped s || is_world_quiet t (world_at t s)

-- rounds until it is quiet, at most so many; none once it is stopped
abbrev pub Settles : Network → ℕ → ℕ → Stage → List Stage → Type 0
Settles t workers zero s [] = Unit {0}
Settles t workers zero s (a ∷ more) = ⊥
Settles t workers (suc rounds) s [] = is_settled t s ≡ true
Settles t workers (suc rounds) s (a ∷ more) =
    (is_settled t s ≡ false) × IsNextRound t workers s a × Settles t workers rounds a more

-- just so many rounds; none once it is stopped
abbrev pub WaitsRounds : Network → ℕ → ℕ → Stage → List Stage → Type 0
WaitsRounds t workers zero s [] = Unit {0}
WaitsRounds t workers zero s (a ∷ more) = ⊥
WaitsRounds t workers (suc rounds) s [] = is_stopped s ≡ true
WaitsRounds t workers (suc rounds) s (a ∷ more) =
    (is_stopped s ≡ false) × IsNextRound t workers s a × WaitsRounds t workers rounds a more

-- Lines

-- the command is posted
abbrev pub with_post : Network → Command → Stage → Stage
with_post t c s = record s { made = record_posted t c s.made }

-- a line names a frame, by its number on the channel
abbrev pub with_line : Network → Disturb → Stage → Stage
with_line t d s = record s { lines = s.lines ++ named t s.made d ∷ [] }

-- bytes that spell nothing came to d over the channel from u; where its log is full the run is stopped there
abbrev pub with_noise : NodeId → NodeId → List ℕ → Stage → Stage
with_noise u d bytes s =
    if length (log_at s.made d.0) == MOST_EVENTS
    then record s { stopped = Some d }
    else record s { made = noised u d bytes s.made }

-- this stage comes next, unless the run is stopped
abbrev pub unless_stopped : Stage → Stage → List Stage
unless_stopped s a = if is_stopped s then [] else a ∷ []

-- the stages that a line makes of this one, one after the other
abbrev pub LineMakes : Network → ℕ → Line → Stage → List Stage → Type 0
LineMakes t workers (Post c) s more = more ≡ unless_stopped s (with_post t c s)
LineMakes t workers (said.Disturb d) s more = more ≡ unless_stopped s (with_line t d s)
LineMakes t workers (Noise u d bytes) s more = more ≡ unless_stopped s (with_noise u d bytes s)
LineMakes t workers (Settle rounds) s more = Settles t workers rounds s more
LineMakes t workers (Wait rounds) s more = WaitsRounds t workers rounds s more
LineMakes t workers Show s more = more ≡ []
