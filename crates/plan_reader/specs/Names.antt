-- Names of nodes and calls.
use Rattle.std.specs.{Prelude.{ℕ, ◌==◌, ◌&&◌, ◌||◌, nat_eq, nat_le, Bool, false, List, [], ◌∷◌, length, Option, position}, List.{list_all, list_any}, Char.{is_ascii_alphabetic, is_ascii_alphanumeric}}
use lib.Pointwise.{pointwise}
use Rattle.plan_reader.specs.declared.limits.TheConstants.{MOST_MORE_CHARACTERS}

-- the texts have the same bytes
abbrev pub same_text : List ℕ → List ℕ → Bool
same_text a b = pointwise nat_eq a b

-- Names

-- an ASCII letter, an ASCII digit, `_` or `-`
unfoldable pub is_name_byte : ℕ → Bool
is_name_byte b = is_ascii_alphanumeric b || (b == 95 || b == 45)

abbrev pub are_name_bytes : List ℕ → Bool
are_name_bytes bs = list_all is_name_byte bs

-- at most 15 such characters
abbrev pub is_name_rest : List ℕ → Bool
is_name_rest bs = nat_le (length bs) MOST_MORE_CHARACTERS && are_name_bytes bs

-- 1 to 16 characters, the first an ASCII letter, the others ASCII letters, digits, `_` or `-`
abbrev pub is_name : List ℕ → Bool
is_name [] = false
is_name (b ∷ bs) = is_ascii_alphabetic b && is_name_rest bs

abbrev pub has_name : List (List ℕ) → List ℕ → Bool
has_name names name = list_any (λ n. same_text n name) names

-- the place of a name
abbrev pub place_of : List (List ℕ) → List ℕ → Option ℕ
place_of names name = position (λ n. same_text n name) names
