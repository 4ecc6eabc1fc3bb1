-- Facts on options.
use Rattle.std.proofs.Common.{◌≡◌, subst, true, cond, refl, Bool, ℕ, false}
use Rattle.std.specs.Prelude.{Some, IfSome, Option, None}

-- What holds of the value of an option holds of the value that it has.
pub some-of : {X : Type 0} (P : X → Type 0) (o : Option X) (x : X) → o ≡ Some x → IfSome o P → P x
some-of P o x e here = subst (λ y. IfSome y P) e here

-- A value that is given on a condition is absent where that fails.
pub none-when : (b : Bool) (n : ℕ) → cond b (Some n) None ≡ None → b ≡ false
none-when true n e = cc
none-when false n e = refl

-- A value that is given on a condition is that value.
pub some-when : (b : Bool) (n i : ℕ) → cond b (Some n) None ≡ Some i → n ≡ i
some-when true n i e = cc
some-when false n i e = absurd (cc e)
