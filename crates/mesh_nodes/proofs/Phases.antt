-- Phases of legs: which one a test tells, and what holds of the phase of a torn leg.
use Rattle.std.proofs.Common.{◌≡◌, true, refl}
use Rattle.ason_base.specs.{declared.calls.Phase.Phase, declared.calls.Phase.TheVariants.{Asked, Held, Armed, Live, Closing, Falling}, declared.calls.Role.Role, declared.calls.Role.TheVariants.{Work, Back}}
use Rattle.mesh_rules.specs.Legs.{closing_phase, is_armed, is_asked, is_held}

pub asked-is : (f : Phase) → is_asked f ≡ true → f ≡ Asked
asked-is Asked e = refl
asked-is _ e = absurd (cc e)

pub held-is : (f : Phase) → is_held f ≡ true → f ≡ Held
held-is Held e = refl
held-is _ e = absurd (cc e)

pub armed-is : (f : Phase) → is_armed f ≡ true → f ≡ Armed
armed-is Armed e = refl
armed-is _ e = absurd (cc e)

-- what holds of Closing and of Falling holds of the phase of a torn leg
pub of-closing : (P : Phase → Type 0) → P Closing → P Falling → (f : Phase) (r : Role) → P (closing_phase f r)
of-closing P closing falling Armed Back = falling
of-closing P closing falling Live Back = falling
of-closing P closing falling Armed Work = closing
of-closing P closing falling _ Back = closing
of-closing P closing falling _ Work = closing
