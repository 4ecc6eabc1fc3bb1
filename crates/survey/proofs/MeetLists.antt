-- The lists of calls that meet, one for each group.
use Rattle.std.proofs.Common.{◌≡◌, ◌<◌, ℕ, zero, suc, List, [], ◌∷◌, drop, get_or, length, refl, ap, arith}
use Rattle.std.specs.Prelude.{Some, slice_get}
use Rattle.survey.specs.{Meetings.{first_meets, meet_lists}, declared.groups.GroupLinks.GroupLinks, declared.slots.Slot.Slot}

pub lists-count : (slots : List Slot) (groups : List GroupLinks) → length (meet_lists slots groups) ≡ length groups
lists-count slots [] = refl
lists-count slots (g ∷ groups) = ap suc (lists-count slots groups)

-- the list at a place is of the group there with those behind it
pub list-at : (slots : List Slot) (groups : List GroupLinks) (k : ℕ) (d : GroupLinks) → k < length groups →
    slice_get (meet_lists slots groups) k ≡ Some (first_meets slots (get_or groups k d) (drop (suc k) groups))
list-at slots [] k d below = absurd (omega (arith, below))
list-at slots (g ∷ groups) zero d below = refl
list-at slots (g ∷ groups) (suc k) d below = list-at slots groups k d (omega (arith, below))
