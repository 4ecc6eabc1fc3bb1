-- Items one after the other, as the objects of a message, the TLVs of an object or the steps of a route.
use Rattle.std.specs.Prelude.{◌≡◌, ℕ, List, [], ◌∷◌, drop}

-- The items stand one after the other, to the end of the bytes. Begins tells with which item bytes begin, and size how
-- many bytes it takes.
abbrev pub AreItems : {X : Type 0} → (List ℕ → X → Type 0) → (X → ℕ) → List ℕ → List X → Type 0
AreItems Begins size bytes [] = bytes ≡ []
AreItems Begins size bytes (x ∷ xs) = Begins bytes x × AreItems Begins size (drop (size x) bytes) xs
