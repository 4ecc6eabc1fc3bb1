-- The names of generated nodes and calls.
use Rattle.std.specs.{Prelude.{ℕ, zero, suc, ◌+◌, List, [], ◌∷◌, ◌++◌, codes}, Fmt.decimal}
use Rattle.load_plan.specs.{declared.names.Named.Named, declared.names.Named.TheVariants.{Node, Call}}

-- m for a node, q for a call
abbrev pub letter : Named → List ℕ
letter Node = codes "m"
letter Call = codes "q"

-- the letter, and the number from 1
abbrev pub name_at : Named → ℕ → List ℕ
name_at named i = letter named ++ decimal (i + 1)

-- so many names from this place on
abbrev pub names_from : Named → ℕ → ℕ → List (List ℕ)
names_from named i zero = []
names_from named i (suc k) = name_at named i ∷ names_from named (i + 1) k
