-- The objects of a message, one after the other (RFC 2205, section 3.1.2).
use Rattle.std.specs.{Prelude.{◌≡◌, ◌≤◌, ℕ, ◌+◌, ◌%◌, ◌==◌, ◌||◌, nat_le, Bool, IsTrue, List, [], ◌∷◌, length, take, drop, filter}, List.list_any}
use Rattle.wire_buf.specs.{Objects.number_at, Sequences.AreItems}

pub record Object : Type 0 where
  pub class : ℕ
  pub ctype : ℕ
  pub body : List ℕ

-- how many bytes the object takes
abbrev pub size_of : Object → ℕ
size_of o = 4 + length o.body

abbrev pub is_among : List ℕ → ℕ → Bool
is_among classes class = list_any (λ c. c == class) classes

-- The classes that a message reads, or else carries: those with a meaning here, and TIME_VALUES 5, STYLE 8, FLOWSPEC 9,
-- SENDER_TSPEC 12, ADSPEC 13, POLICY_DATA 14, RECORD_ROUTE 21 and NOTIFY_REQUEST 195.
abbrev pub known_classes : List ℕ
known_classes =
    1 ∷ 3 ∷ 5 ∷ 6 ∷ 8 ∷ 9 ∷ 10 ∷ 11 ∷ 12 ∷ 13 ∷ 14 ∷ 16 ∷ 19 ∷ 20 ∷ 21 ∷ 23 ∷ 24 ∷ 35 ∷ 36 ∷ 37 ∷ 38 ∷ 195 ∷ 199 ∷ []

-- a message may have it: other classes may be there from 128 on (RFC 2205, section 3.10)
abbrev pub may_stand : ℕ → Bool
may_stand class = nat_le 128 class || is_among known_classes class

-- The bytes begin with this object. Its length counts the four bytes of its header, is a multiple of four, and doesn't
-- go past the end.
pub record BeginsWith (bytes : List ℕ) (o : Object) : Type 0 where
  pub size : size_of o ≡ number_at 0 2 bytes
  pub whole : size_of o % 4 ≡ 0
  pub within : size_of o ≤ length bytes
  pub class : o.class ≡ number_at 2 1 bytes
  pub ctype : o.ctype ≡ number_at 3 1 bytes
  pub body : o.body ≡ take (length o.body) (drop 4 bytes)
  pub stands : IsTrue (may_stand o.class)

-- objects one after the other, to the end
abbrev pub AreObjects : List ℕ → List Object → Type 0
AreObjects bytes os = AreItems BeginsWith size_of bytes os

-- the objects of a class, in order
abbrev pub of_class : ℕ → List Object → List Object
of_class class os = filter (λ o. o.class == class) os
