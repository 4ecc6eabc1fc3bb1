-- What holds of both sides of a choice holds of the choice; what tests tell.
use Rattle.std.proofs.Common.{◌≡◌, Bool, true, false, cond, refl}
use Rattle.std.specs.Prelude.{◌||◌}

pub if_cases : {A : Type 0} (P : A → Type 0) (b : Bool) (x y : A) → (b ≡ true → P x) → (b ≡ false → P y) →
    P (cond b x y)
if_cases P true x y then otherwise = then refl
if_cases P false x y then otherwise = otherwise refl

pub neither_right : (a b : Bool) → (a || b) ≡ false → b ≡ false
neither_right true b e = absurd (cc e)
neither_right false b e = e
