-- Texts that are written piece by piece.
use Rattle.std.specs.{Prelude.{◌≡◌, ℕ, List, ◌++◌, String, string_bytes}, Global.Global}

-- the new text is the old one with this part at its end
abbrev pub Appends : String Global → String Global → List ℕ → Type 0
Appends old new part = string_bytes new ≡ string_bytes old ++ part
