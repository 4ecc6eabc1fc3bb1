-- Versions of traces.
use Rattle.std.proofs.Common.{◌≡◌, ℕ, Bool, true, false, refl, arith}
use Rattle.trace_text.specs.TraceForms.{is_version_2}

-- another number than 2 isn't version 2
pub other_version : (v : ℕ) → ¬ (v ≡ 2) → is_version_2 v ≡ false
other_version v differs = go (is_version_2 v) refl
  where
    go : (b : Bool) → is_version_2 v ≡ b → b ≡ false
    go false e = refl
    go true e = absurd (differs (grind (arith, e)))
