-- The desk of a node.
use Rattle.std.specs.Prelude.{◌≡◌, ℕ, List, ◌∷◌, Result, Ok, Err}
use Rattle.ason_base.specs.declared.commands.DeskItem.{DeskItem}
use Rattle.station.specs.declared.halts.Halt.{Halt}

-- the items that wait, the oldest first, and for how many more there is room
pub record DeskState : Type 0 where
  pub items : List DeskItem
  pub spare : ℕ

-- an item that was taken is back in its place, the first, if it was refused
abbrev pub DeskSettles : Result (Unit {0}) Halt → DeskItem → DeskState → DeskState → Type 0
DeskSettles (Ok x) i old new = new ≡ old
DeskSettles (Err e) i old new = new.items ≡ i ∷ old.items
