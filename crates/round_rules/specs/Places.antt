-- What a turn came to from one of its links on.
use Rattle.std.specs.{Prelude.{◌≡◌, ◌⊎◌, ℕ, zero, suc, Bool, true, List, [], ◌∷◌}, List.AllZip}
use Rattle.round_rules.specs.{Functions.Popped, Moves.{HasMoved, IsDrained, TakesNone}, Turned.{AreUntouched, HaveComeTo, IsCutShort, IsPoppedAs}}
use Rattle.station_rings.specs.LinkStates.{LinkState}

-- links before and after, and what was popped of each
abbrev pub OfLinks : Type 1
OfLinks = List LinkState → List LinkState → List (List Popped) → Type 0

-- the frames that were taken are what was popped
pub record HasPopped (old new : LinkState) (pops : List Popped) : Type 0 where
  pub moved : HasMoved old new
  pub are : AllZip (IsPoppedAs old.peer) moved.takes pops

-- In the midst of the first ring, which was this one before: frames are taken of it until it is emptied, and the rings
-- after it are; or the turn halts at it.
abbrev pub HaveComeOn : LinkState → Bool → List LinkState → List LinkState → List (List Popped) → Type 0
HaveComeOn first halted (l ∷ links) (m ∷ after) (ps ∷ pops) =
    (HasPopped l m ps × IsDrained first m × HaveComeTo halted links after pops)
    ⊎ ((halted ≡ true) × IsCutShort l m ps × AreUntouched links after pops)
HaveComeOn first halted [] after pops = ⊥
HaveComeOn first halted (l ∷ links) [] pops = ⊥
HaveComeOn first halted (l ∷ links) (m ∷ after) [] = ⊥

-- nothing is taken of the links before this place, and of those from it on this is so
abbrev pub FromPlace : OfLinks → ℕ → List LinkState → List LinkState → List (List Popped) → Type 0
FromPlace R zero links after pops = R links after pops
FromPlace R (suc i) [] [] [] = Unit {0}
FromPlace R (suc i) (l ∷ links) (m ∷ after) (ps ∷ pops) = TakesNone l m × (ps ≡ []) × FromPlace R i links after pops
FromPlace R (suc i) [] (m ∷ after) pops = ⊥
FromPlace R (suc i) [] [] (ps ∷ pops) = ⊥
FromPlace R (suc i) (l ∷ links) [] pops = ⊥
FromPlace R (suc i) (l ∷ links) (m ∷ after) [] = ⊥
