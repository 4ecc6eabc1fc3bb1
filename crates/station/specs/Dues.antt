-- The frames that are held and are due.
use Rattle.std.specs.Prelude.{nat_le, Bool, false, List, [], ◌∷◌}
use Rattle.round_rules.specs.declared.held.HeldParcel.{HeldParcel}

abbrev pub is_first_due : List HeldParcel → Bool
is_first_due [] = false
is_first_due (h ∷ hs) = nat_le 2 h.ticks
