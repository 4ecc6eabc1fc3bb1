-- LABEL_SET (RFC 3473, section 2.6; RFC 3471, section 3.5): action, reserved bits and label type in three bytes,
-- labels.
use Rattle.std.specs.{Prelude.{◌≡◌, ◌≤◌, ℕ, ◌%◌, ◌==◌, nat_le, ◌&&◌, ◌||◌, Bool, true, false, if◌then◌else◌, ◌⊎◌, List, [], ◌∷◌, ◌++◌, ◌-◌, length, drop, filter, replicate, take}, List.flat_map}
use Rattle.ason_base.specs.{declared.limits.TheConstants.MOST_LABELS, Labels.{has, is_label_marked, numbers_from, up_to}}
use Rattle.byteorder.specs.Endian.{big_bytes}
use Rattle.wire_buf.specs.Objects.{number_at, numbers}
use Rattle.rsvp_objects.specs.declared.label_set.LabelSetObject.{LabelSetObject}

-- the labels that are among these numbers
abbrev pub among : List ℕ → List ℕ
among ns = filter (has ns) (up_to MOST_LABELS)

-- the label isn't outside of the range; a bound of 0 is none
abbrev pub is_between : ℕ → ℕ → ℕ → Bool
is_between low high l = (low == 0 || nat_le low l) && (high == 0 || nat_le l high)

abbrev pub between : ℕ → ℕ → List ℕ
between low high = filter (is_between low high) (up_to MOST_LABELS)

-- at least one label, each of four bytes
abbrev pub HasLabels : List ℕ → Type 0
HasLabels body = (8 ≤ length body) × (length body % 4 ≡ 0)

abbrev pub listed : Bool → List ℕ → LabelSetObject
listed include body = record { include = include; labels = among (numbers (drop 4 body)) }

abbrev pub ranged : Bool → List ℕ → LabelSetObject
ranged include body = record { include = include; labels = between (number_at 4 4 body) (number_at 8 4 body) }

-- The actions: 0 includes these labels, 1 excludes them. 2 includes the range between exactly two labels, with both,
-- and 3 excludes it.
abbrev pub IsLabelSet : List ℕ → LabelSetObject → Type 0
IsLabelSet body o =
    ((number_at 0 1 body ≡ 0) × HasLabels body × (o ≡ listed true body))
    ⊎ (((number_at 0 1 body ≡ 1) × HasLabels body × (o ≡ listed false body))
    ⊎ (((number_at 0 1 body ≡ 2) × (length body ≡ 12) × (o ≡ ranged true body))
    ⊎ ((number_at 0 1 body ≡ 3) × (length body ≡ 12) × (o ≡ ranged false body))))

-- A set is written as its labels, rising. One without labels is written as 0, which is no label.
abbrev pub or_zero : List ℕ → List ℕ
or_zero [] = 0 ∷ []
or_zero (l ∷ ls) = l ∷ ls

abbrev pub labels_bytes : List ℕ → List ℕ
labels_bytes ls = flat_map (big_bytes 4) ls

-- the numbers whose bits are set: the lowest of 64 bits stands for the first
abbrev pub marked : ℕ → ℕ → List ℕ
marked first bits = filter (λ l. is_label_marked bits (l - first)) (numbers_from first 64)

-- these labels behind the eight bytes of fields, up to this end, and zeros to the end of the room
abbrev pub laid : List ℕ → ℕ → List ℕ
laid ls end = replicate 8 0 ++ labels_bytes ls ++ replicate (328 - end) 0

abbrev pub action_of : Bool → ℕ
action_of include = if include then 0 else 1

-- these labels in place of the zeros from the start on, up to this end
abbrev pub laid_from : ℕ → List ℕ → List ℕ → ℕ → List ℕ
laid_from start bytes ls end = take start bytes ++ labels_bytes ls ++ replicate (length bytes - end) 0

-- label type 2 is the generalized label
abbrev pub label_set_bytes : LabelSetObject → List ℕ
label_set_bytes o = big_bytes 1 (action_of o.include) ++ big_bytes 3 2 ++ labels_bytes (or_zero (among o.labels))
