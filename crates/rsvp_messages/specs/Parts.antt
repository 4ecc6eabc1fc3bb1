-- How often a class stands among the objects of a message, in any order, and what its bodies mean.
use Rattle.std.specs.Prelude.{◌≡◌, ℕ, List, [], ◌∷◌, Option, None, Some}
use Rattle.rsvp_messages.specs.Objects.{Object, of_class}

-- There is just one object of this class. It has this C-Type, and its body that meaning.
pub record HasOne (class ctype : ℕ) (Means : List ℕ → Type 0) (os : List Object) : Type 0 where
  pub body : List ℕ
  pub one : of_class class os ≡ record { class = class; ctype = ctype; body = body } ∷ []
  pub means : Means body

abbrev pub HasNone : ℕ → List Object → Type 0
HasNone class os = of_class class os ≡ []

-- at most one
abbrev pub HasAtMostOne : {X : Type 0} → ℕ → ℕ → (List ℕ → X → Type 0) → List Object → Option X → Type 0
HasAtMostOne class ctype Means os None = HasNone class os
HasAtMostOne class ctype Means os (Some x) = HasOne class ctype (λ body. Means body x) os

-- each of these objects has this C-Type and the meaning beside it
abbrev pub AreEach : {X : Type 0} → ℕ → (List ℕ → X → Type 0) → List Object → List X → Type 0
AreEach ctype Means [] [] = Unit {0}
AreEach ctype Means (o ∷ os) (x ∷ xs) = (o.ctype ≡ ctype) × Means o.body x × AreEach ctype Means os xs
AreEach ctype Means [] (x ∷ xs) = ⊥
AreEach ctype Means (o ∷ os) [] = ⊥

-- any number
abbrev pub HasEach : {X : Type 0} → ℕ → ℕ → (List ℕ → X → Type 0) → List Object → List X → Type 0
HasEach class ctype Means os xs = AreEach ctype Means (of_class class os) xs
