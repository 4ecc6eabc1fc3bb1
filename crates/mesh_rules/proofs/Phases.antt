-- What the phases of legs rule out.
use Rattle.std.proofs.Common.{◌≡◌, true, false, refl}
use Rattle.ason_base.specs.{declared.calls.Phase.Phase, declared.calls.Phase.TheVariants.Asked}
use Rattle.mesh_rules.specs.Legs.{is_armed, is_asked}

-- An Armed leg isn't Asked.
pub armed-unasked : (q : Phase) → is_armed q ≡ true → is_asked q ≡ false
armed-unasked Asked e = absurd (cc e)
armed-unasked q e = refl
