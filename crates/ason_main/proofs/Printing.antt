-- What the lines of a script print, one after the other.
use Rattle.std.proofs.Common.{◌≡◌, ℕ, Bool, true, false, List, [], ◌∷◌, ◌++◌, refl, sym, ap, subst, append-nil}
use Rattle.std.specs.Prelude.{None, Some, is_some}
use Rattle.ason_base.specs.{declared.ids.NodeId.NodeId, Network.Network}
use Rattle.plan_reader.specs.{declared.lines.Line.Line, declared.lines.Line.TheVariants.{Noise, Post, Settle, Show, Wait}, declared.plan.Plan.Plan}
use Rattle.plan_reader.specs.declared.lines.Line.TheVariants as said
use Rattle.script_rules.specs.{Outputs.{How, LinePrints, Prints, Shows, UnlessStopped}, Stages.{LineMakes, Stage, is_stopped, last_stage_of, world_at}}
use Rattle.script_rules.proofs.Follows.{lines_follow}
use Rattle.ason_main.specs.Outputs.{silent_on}
use Rattle.ason_main.proofs.RoundLines.{rounds_stay}

-- One line

pub prints_one : (p : Plan) (how : How) (line : Line) (s : Stage) (more : List Stage) (text : List ℕ) →
    LineMakes p.topology how.workers line s more → LinePrints how.tables p line (last_stage_of s more) text →
    Prints p how (line ∷ []) s more text
prints_one p how line s more text makes prints =
    (more, [], text, [], makes, prints, (refl, refl), sym (append-nil more), sym (append-nil text))

-- a stage at which the run isn't stopped
pub shown : (tables : Bool) (p : Plan) (line : Line) (s : Stage) (text : List ℕ) → tables ≡ true → s.stopped ≡ None →
    Shows p line (world_at p.topology s) text → LinePrints tables p line s text
shown tables p line s text is going shows =
    subst (λ b. LinePrints b p line s text) (sym is)
    (subst (λ o. UnlessStopped o (Shows p line (world_at p.topology s) text) text) (sym going) shows)

pub not_shown : (tables : Bool) (p : Plan) (line : Line) (s : Stage) → tables ≡ false → LinePrints tables p line s []
not_shown tables p line s is = subst (λ b. LinePrints b p line s []) (sym is) refl

-- nothing is printed of one at which it is
pub stopped_shows : (tables : Bool) (p : Plan) (line : Line) (s : Stage) (k : NodeId) → s.stopped ≡ Some k →
    LinePrints tables p line s []
stopped_shows false p line s k stopped = refl
stopped_shows true p line s k stopped =
    subst (λ o. UnlessStopped o (Shows p line (world_at p.topology s) []) []) (sym stopped) refl

-- nor is a stage made after it
stopped_makes : (t : Network) (workers : ℕ) (line : Line) (s : Stage) → is_stopped s ≡ true →
    LineMakes t workers line s []
stopped_makes t workers (Post c) s stop = rw stop refl
stopped_makes t workers (said.Disturb d) s stop = rw stop refl
stopped_makes t workers (Noise u d bytes) s stop = rw stop refl
stopped_makes t workers (Settle rounds) s stop = rounds_stay true t workers rounds s stop
stopped_makes t workers (Wait rounds) s stop = rounds_stay false t workers rounds s stop
stopped_makes t workers Show s stop = refl

pub prints_nothing : (p : Plan) (how : How) (lines : List Line) (s : Stage) (k : NodeId) → s.stopped ≡ Some k →
    Prints p how lines s [] []
prints_nothing p how [] s k stopped = (refl, refl)
prints_nothing p how (line ∷ lines) s k stopped = (
  [],
  [],
  [],
  [],
  stopped_makes p.topology how.workers line s (ap is_some stopped),
  stopped_shows how.tables p line s k stopped,
  prints_nothing p how lines s k stopped,
  refl,
  refl,
)

-- where the first lines come to a stop, all lines do
pub prints_stopped : (p : Plan) (how : How) (xs ys : List Line) (s : Stage) (more : List Stage) (text : List ℕ)
    (k : NodeId) → (last_stage_of s more).stopped ≡ Some k → Prints p how xs s more text →
    Prints p how (xs ++ ys) s more text
prints_stopped p how xs ys s more text k stopped prints =
    subst (λ ss. Prints p how (xs ++ ys) s ss text) (append-nil more)
    (subst (λ zs. Prints p how (xs ++ ys) s (more ++ []) zs) (append-nil text)
    (lines_follow p how xs ys s more [] text [] prints (prints_nothing p how ys (last_stage_of s more) k stopped)))

-- the same stages where nothing is to be printed
pub silenced : (p : Plan) (how : How) (lines : List Line) (s : Stage) (more : List Stage) (text : List ℕ) →
    Prints p how lines s more text → Prints p (silent_on how.workers) lines s more []
silenced p how [] s more text prints = (prints.0, refl)
silenced p how (line ∷ lines) s more text prints = (
  prints.0,
  prints.1,
  [],
  [],
  prints.4,
  refl,
  silenced p how lines (last_stage_of s prints.0) prints.1 prints.3 prints.6,
  prints.7,
  refl,
)
