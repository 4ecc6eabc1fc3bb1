-- Lists in order of a key, and an item at a place of one.
use Rattle.std.specs.Prelude.{Bool, false, not, List, Option, Some, None}
use Rattle.ason_base.specs.InOrder.{RisesBy}

-- each key is before all later ones
abbrev pub KeysRise : {X K : Type 0} → (K → K → Bool) → (X → K) → List X → Type 0
KeysRise before key xs = RisesBy (λ x y. before (key x) (key y)) xs

abbrev pub has_key : {X K : Type 0} → (K → K → Bool) → (X → K) → K → X → Bool
has_key same key k x = same (key x) k

-- its key isn't before this one
abbrev pub is_from : {X K : Type 0} → (K → K → Bool) → (X → K) → K → X → Bool
is_from before key k x = not (before (key x) k)

-- there is one, and it passes
abbrev pub passes_there : {X : Type 0} → (X → Bool) → Option X → Bool
passes_there p None = false
passes_there p (Some x) = p x
