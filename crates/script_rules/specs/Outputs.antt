-- What a script makes and prints.
use Rattle.std.specs.Prelude.{◌≡◌, ℕ, Bool, true, false, List, [], ◌∷◌, ◌++◌, Option, None, Some}
use Rattle.ason_base.specs.{declared.calls.TableRows.TableRows, declared.ids.NodeId.NodeId}
use Rattle.world_rules.specs.{Images.image, Worlds.World}
use Rattle.plan_reader.specs.{declared.lines.Line.Line, declared.lines.Line.TheVariants.{Noise, Post, Settle, Wait, Show}, declared.plan.Plan.Plan}
use Rattle.plan_reader.specs.declared.lines.Line.TheVariants as said
use Rattle.table_text.specs.TableText.{table_text}
use Rattle.script_rules.specs.{Stages.{LineMakes, Stage, last_stage_of, world_at}, Tables.{IsTable, IsUnsettledLine}}

-- Scripts

-- the network settles before the plan's lines and after them, and the table comes last
abbrev pub settling_script : ℕ → Plan → List Line
settling_script rounds p = Settle rounds ∷ (p.lines ++ (Settle rounds ∷ (Show ∷ [])))

abbrev pub script_of : Plan → List Line
script_of p = settling_script 1000 p

-- on how many workers rounds are made, and whether tables and what is unsettled are printed
pub record How : Type 0 where
  pub workers : ℕ
  pub tables : Bool

-- What is printed

-- what a line prints of the world that it leads to; a table is that of the mesh which this world shows
abbrev pub Shows : Plan → Line → World → List ℕ → Type 0
Shows p (Post c) w text = text ≡ []
Shows p (said.Disturb d) w text = text ≡ []
Shows p (Noise u d bytes) w text = text ≡ []
Shows p (Settle rounds) w text = IsUnsettledLine p.topology w text
Shows p (Wait rounds) w text = text ≡ []
Shows p Show w text = (rows : TableRows) × IsTable p.topology (image w) rows × (text ≡ table_text p rows)

-- nothing is printed once the run is stopped
abbrev pub UnlessStopped : Option NodeId → Type 0 → List ℕ → Type 0
UnlessStopped None shows text = shows
UnlessStopped (Some n) shows text = text ≡ []

-- what a line prints that leads to this stage; nothing where no tables are asked for
abbrev pub LinePrints : Bool → Plan → Line → Stage → List ℕ → Type 0
LinePrints true p line s text = UnlessStopped s.stopped (Shows p line (world_at p.topology s) text) text
LinePrints false p line s text = text ≡ []

-- these lines make these stages of this one, and print this text
abbrev pub Prints : Plan → How → List Line → Stage → List Stage → List ℕ → Type 0
Prints p how [] s more text = (more ≡ []) × (text ≡ [])
Prints p how (line ∷ lines) s more text =
    (first others : List Stage) × (here later : List ℕ) × LineMakes p.topology how.workers line s first
    × LinePrints how.tables p line (last_stage_of s first) here
    × Prints p how lines (last_stage_of s first) others later
    × (more ≡ first ++ others) × (text ≡ here ++ later)

-- some first ones of these lines do
abbrev pub PrintsFirst : Plan → How → List Line → Stage → List Stage → List ℕ → Type 0
PrintsFirst p how lines s more text =
    (first left : List Line) × (first ++ left ≡ lines) × Prints p how first s more text
