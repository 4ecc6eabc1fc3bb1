-- The lines of a generated script that set its calls up.
use Rattle.std.specs.Prelude.{ℕ, zero, suc, ◌+◌, ◌-◌, ◌%◌, ◌==◌, ◌||◌, true, false, List, [], ◌∷◌, ◌++◌, None, if◌then◌else◌}
use Rattle.ason_base.specs.declared.commands.Command.TheVariants.{Setup}
use Rattle.plan_reader.specs.{declared.lines.Line.Line, declared.lines.Line.TheVariants.{Post, Settle}}
use Rattle.load_plan.specs.Draws.{drawn, next}

-- A call draws twice: from which node, and to which other one. Both are counted from 0.

abbrev pub from_of : ℕ → ℕ → ℕ
from_of n x = drawn x % n

abbrev pub to_of : ℕ → ℕ → ℕ
to_of n x = (from_of n x + 1 + drawn (next x) % (n - 1)) % n

-- the setup of a protected call between two of n nodes, its routes to be searched for
abbrev pub setup_at : ℕ → ℕ → ℕ → Line
setup_at n i x = Post (Setup (record { 0 = i }) (record { 0 = from_of n x + 1 }) (record { 0 = to_of n x + 1 })
    true false None None)

-- a settle after every 16 setups and after the last
abbrev pub settles_after : ℕ → ℕ → List Line
settles_after calls i = if ((i + 1) % 16 == 0) || (i + 1 == calls) then Settle 1000 ∷ [] else []

-- so many setups from this place on, each with the settle that follows it, from this state
abbrev pub setups_from : ℕ → ℕ → ℕ → ℕ → ℕ → List Line
setups_from n calls i zero x = []
setups_from n calls i (suc k) x =
    setup_at n i x ∷ (settles_after calls i ++ setups_from n calls (i + 1) k (next (next x)))
