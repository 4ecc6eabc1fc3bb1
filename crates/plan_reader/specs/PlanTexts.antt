-- Nodes by name, words and numbers in the texts of a plan.
use Rattle.std.specs.{Prelude.{ℕ, ◌==◌, Bool, true, false, not, List, [], ◌∷◌, filter, filter_map, map, Option, Some, None, Result, Ok, Err, slice_get, unwrap_or, is_some, if◌then◌else◌}, List.{list_all, slice_split}, Borrow.Bor}
use Rattle.ason_base.specs.{declared.ids.NodeId.NodeId, declared.network.NodeSpec.NodeSpec, declared.numerals.NumeralFault.NumeralFault, Numerals.{is_numeral, number_within}}
use Rattle.plan_reader.specs.{declared.faults.PlanKind.PlanKind, declared.faults.PlanKind.TheVariants.Range, declared.limits.TheConstants.MOST_NUMBER, Names.place_of}

abbrev pub id_at : Option NodeSpec → Option NodeId
id_at None = None
id_at (Some n) = Some n.id

abbrev pub id_at_place : List NodeSpec → Option ℕ → Option NodeId
id_at_place nodes None = None
id_at_place nodes (Some k) = id_at (slice_get nodes k)

-- the node of this name, where names and nodes stand in the same order
abbrev pub node_named : List (List ℕ) → List NodeSpec → List ℕ → Option NodeId
node_named names nodes name = id_at_place nodes (place_of names name)

-- Words

abbrev pub is_empty : List ℕ → Bool
is_empty [] = true
is_empty (b ∷ bs) = false

-- the words of a line, apart by one or more spaces
abbrev pub words_of : List ℕ → List (List ℕ)
words_of line = filter (λ w. not (is_empty w)) (slice_split (λ b. b == 32) line)

-- what these words are
abbrev pub texts : List (Bor (List ℕ)) → List (List ℕ)
texts words = map (λ w. w.now) words

-- the word at a place, from 0
abbrev pub word_at : List (List ℕ) → ℕ → List ℕ
word_at words k = unwrap_or (slice_get words k) []

-- Numbers

abbrev pub if_found : Result ℕ NumeralFault → Option ℕ
if_found (Ok n) = Some n
if_found (Err e) = None

-- the number that the word writes, where it is one and is at most this
abbrev pub word_up_to : ℕ → List ℕ → Option ℕ
word_up_to most word = if_found (number_within 0 most word)

abbrev pub or_range : Result ℕ NumeralFault → Result ℕ PlanKind
or_range (Ok n) = Ok n
or_range (Err e) = Err Range

-- the number of the word at this place, from 1 to the most, or the fault of its range
abbrev pub positive_at : ℕ → ℕ → List (List ℕ) → Result ℕ PlanKind
positive_at k most words = or_range (number_within 1 most (word_at words k))

-- the parts of a word between its commas
abbrev pub word_parts : List ℕ → List (List ℕ)
word_parts word = slice_split (λ b. b == 44) word

-- numbers with commas between them
abbrev pub are_numbers : List ℕ → Bool
are_numbers word = list_all is_numeral (word_parts word)

abbrev pub link_id : List ℕ → Option ℕ
link_id part = word_up_to MOST_NUMBER part

-- each number is a link id within reach
abbrev pub are_link_ids : List ℕ → Bool
are_link_ids word = list_all (λ p. is_some (link_id p)) (word_parts word)

-- the link ids that a word writes: none where one is out of reach
abbrev pub link_ids : List ℕ → Option (List ℕ)
link_ids word = if are_link_ids word then Some (filter_map link_id (word_parts word)) else None
