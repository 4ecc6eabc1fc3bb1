-- Where the objects of each class stand in a message.
use Rattle.std.specs.Prelude.{◌≡◌, ◌≢◌, ◌≤◌, ◌<◌, ◌==◌, if◌then◌else◌, ℕ, ◌-◌, List, [], ◌∷◌, length, slice_index_or}
use Rattle.rsvp_messages.specs.{declared.object_table.TheConstants.NOTED, declared.raw.RawObject.RawObject, Objects.of_class, Seen.{all_seen, seen}}

-- the object at this place, which counts from 1, is the only one of the class
pub record IsOnlyOne (class : ℕ) (raws : List RawObject) (place : ℕ) : Type 0 where
  pub within : place - 1 < length raws
  pub is : (d : RawObject) → of_class class (all_seen raws) ≡ seen (slice_index_or raws (place - 1) d) ∷ []

-- 0 is the place of a class without objects, and 65,535 that of a class with several
pub record ObjectStandsAt (class : ℕ) (raws : List RawObject) (place : ℕ) : Type 0 where
  pub none : place ≡ 0 → of_class class (all_seen raws) ≡ []
  pub one : place ≢ 0 → place ≢ 65535 → IsOnlyOne class raws place
  pub many : place ≡ 65535 → 2 ≤ length (of_class class (all_seen raws))

-- of each class that is noted
abbrev pub HasPlaces : List RawObject → List ℕ → Type 0
HasPlaces raws places = (class d : ℕ) → class < NOTED → ObjectStandsAt class raws (slice_index_or places class d)

-- what is noted of a class once an object of it comes at this place
abbrev pub noted : ℕ → ℕ → ℕ
noted before place = if before == 0 then place else 65535
