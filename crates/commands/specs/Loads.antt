-- What is generated of a plan.
use Rattle.std.specs.Prelude.{◌≡◌, ◌≤◌, ◌%◌, ◌==◌, ℕ, List, [], ◌∷◌, Option, Some, None, if◌then◌else◌}
use Rattle.ason_base.specs.declared.limits.TheConstants.{MOST_CALLS, MOST_NODES}
use Rattle.commands.specs.Numbers.{number_in}

-- from which seed, and how many nodes and calls
pub record LoadView : Type 0 where
  pub seed : ℕ
  pub nodes : ℕ
  pub calls : ℕ

-- an even number of nodes from 4 to 64, and from 1 to 4,096 calls
pub record CanBeLoaded (l : LoadView) : Type 0 where
  pub even : l.nodes % 2 ≡ 0
  pub least : 4 ≤ l.nodes
  pub most : l.nodes ≤ MOST_NODES
  pub some : 1 ≤ l.calls
  pub few : l.calls ≤ MOST_CALLS

abbrev pub load_with : Option ℕ → Option ℕ → Option ℕ → Option LoadView
load_with None nodes calls = None
load_with (Some seed) None calls = None
load_with (Some seed) (Some nodes) None = None
load_with (Some seed) (Some nodes) (Some calls) =
    if nodes % 2 == 0 then Some (record { seed = seed; nodes = nodes; calls = calls }) else None

-- a seed below 2^64, an even number of nodes, and a number of calls
abbrev pub load_of : List (List ℕ) → Option LoadView
load_of [] = None
load_of (s ∷ []) = None
load_of (s ∷ n ∷ []) = None
load_of (s ∷ n ∷ c ∷ []) =
    load_with (number_in 0 18446744073709551615 s) (number_in 4 MOST_NODES n) (number_in 1 MOST_CALLS c)
load_of (s ∷ n ∷ c ∷ w ∷ ws) = None
