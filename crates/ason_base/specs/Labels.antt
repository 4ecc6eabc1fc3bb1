-- Sets of labels, each as the rising list of its members.
use Rattle.std.specs.{Prelude.{ℕ, zero, suc, ◌+◌, ◌==◌, Bool, not, ◌||◌, List, [], ◌∷◌, filter, Option, slice_get}, List.list_any, Int.bit_at}
use Rattle.ason_base.specs.declared.limits.TheConstants.{MOST_LABELS}

-- so many numbers, one after the other, from the first on
unfoldable pub numbers_from : ℕ → ℕ → List ℕ
numbers_from first zero = []
numbers_from first (suc n) = first ∷ numbers_from (first + 1) n

-- the labels from 1 to n
abbrev pub up_to : ℕ → List ℕ
up_to n = numbers_from 1 n

abbrev pub has : List ℕ → ℕ → Bool
has s l = list_any (λ x. x == l) s

-- the labels of a that are in b too
abbrev pub meet : List ℕ → List ℕ → List ℕ
meet a b = filter (has b) a

-- the labels of the set, and this one
abbrev pub with_label : List ℕ → ℕ → List ℕ
with_label s l = filter (λ x. x == l || has s x) (up_to MOST_LABELS)

-- the labels of the set, but this one
abbrev pub without : List ℕ → ℕ → List ℕ
without s l = filter (λ x. not (x == l)) s

-- the first, since they rise
abbrev pub least : List ℕ → Option ℕ
least s = slice_get s 0

-- whether the mask's bit for the label is set
abbrev pub is_label_marked : ℕ → ℕ → Bool
is_label_marked mask l = bit_at mask l == 1

-- the labels that a mask stands for
unfoldable pub members : ℕ → List ℕ
members mask = filter (is_label_marked mask) (up_to MOST_LABELS)
