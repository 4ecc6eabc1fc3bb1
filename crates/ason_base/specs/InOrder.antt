-- Orders, lists that rise by a test, each member once, and lists in order of a key, each key once.
use Rattle.std.specs.{Prelude.{◌≡◌, Bool, true, false, List, [], ◌∷◌, Option, Some, None, IsTrue, if◌then◌else◌}, List.{AllByRecursion, AllPairs}}

-- x put into a rising list at its place, unless it is there
abbrev pub put_in : {X : Type 0} → (X → X → Bool) → X → List X → List X
put_in below x [] = x ∷ []
put_in below x (y ∷ ys) = if below x y then x ∷ y ∷ ys else (if below y x then y ∷ put_in below x ys else y ∷ ys)

-- the members of a list, rising, each once
abbrev pub in_order : {X : Type 0} → (X → X → Bool) → List X → List X
in_order below [] = []
in_order below (x ∷ xs) = put_in below x (in_order below xs)

-- each stands so to all later ones
abbrev pub Rise : {X : Type 0} → (X → X → Type 0) → List X → Type 0
Rise R [] = Unit {0}
Rise R (x ∷ xs) = AllByRecursion (R x) xs × Rise R xs

-- each is before all later ones
abbrev pub RisesBy : {X : Type 0} → (X → X → Bool) → List X → Type 0
RisesBy before xs = AllPairs (λ x y. IsTrue (before x y)) xs

-- Orders of keys

-- what is the same is one, and of two that aren't, one is before the other
pub record IsKeyOrder {X : Type 0} (same before : X → X → Bool) : Type 0 where
  pub itself : (a : X) → same a a ≡ true
  pub one : (a b : X) → same a b ≡ true → a ≡ b
  pub never : (a : X) → before a a ≡ false
  pub through : (a b c : X) → before a b ≡ true → before b c ≡ true → before a c ≡ true
  pub total : (a b : X) → same b a ≡ false → before a b ≡ false → before b a ≡ true

-- of what may be none, which comes before all else
abbrev pub same_option : {X : Type 0} → (X → X → Bool) → Option X → Option X → Bool
same_option same None None = true
same_option same None (Some b) = false
same_option same (Some a) None = false
same_option same (Some a) (Some b) = same a b

-- Lists in order of a key

-- x put into a list in order of a key at its place, instead of the one of its key
abbrev pub put_by : {X K : Type 0} → (K → K → Bool) → (K → K → Bool) → (X → K) → X → List X → List X
put_by same before key x [] = x ∷ []
put_by same before key x (y ∷ ys) =
    if same (key y) (key x) then x ∷ ys
    else (if before (key x) (key y) then x ∷ y ∷ ys else y ∷ put_by same before key x ys)
