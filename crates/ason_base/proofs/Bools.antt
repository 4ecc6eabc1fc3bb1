-- Facts on truth values that std does not have.
use Rattle.std.proofs.{Common.{Bool, true, ◌≡◌, sym, false, refl, not, ◌∙◌}, Math.Bool.or-false}
use Rattle.std.specs.Prelude.{◌&&◌, ◌||◌}

-- The first of two that both hold.
pub and-left : (a b : Bool) → (a && b) ≡ true → a ≡ true
and-left true b h = refl
and-left false b h = h

-- The second of two that both hold.
pub and-right : (a b : Bool) → (a && b) ≡ true → b ≡ true
and-right true b h = h
and-right false b h = absurd (cc h)

-- Two truth values that follow from each other are one.
pub same-truth : (a b : Bool) → (a ≡ true → b ≡ true) → (b ≡ true → a ≡ true) → a ≡ b
same-truth true true f g = refl
same-truth true false f g = sym (f refl)
same-truth false true f g = g refl
same-truth false false f g = refl

-- Nothing is both true and false.
pub not-both : (b : Bool) → b ≡ true → b ≡ false → ⊥
not-both b h k = absurd (cc (h, k))

-- What something false follows from is false.
pub false-back : (a b : Bool) → (a ≡ true → b ≡ true) → b ≡ false → a ≡ false
false-back true b then none = absurd (let some = then refl in cc (none, some))
false-back false b then none = refl

-- The parts of a conjunction whose first is denied.
pub not-and : (b c : Bool) → (not b && c) ≡ true → (b ≡ false) × (c ≡ true)
not-and false c h = (refl, h)
not-and true c h = absurd (cc (h))

-- Of two of which one holds, the second does where the first does not.
pub or-rest : (a b : Bool) → a ≡ false → (a || b) ≡ true → b ≡ true
or-rest true b e h = absurd (cc e)
or-rest false b e h = h

-- Nothing is its own opposite.
pub not-self : (b : Bool) → b ≡ not b → ⊥
not-self true e = cc e
not-self false e = cc e

-- What holds or is false holds.
pub or-first : (b : Bool) → (b || false) ≡ true → b ≡ true
or-first b e = sym (or-false b) ∙ e

-- Where neither holds, the first does not.
pub neither-left : (a b : Bool) → (a || b) ≡ false → a ≡ false
neither-left true b e = e
neither-left false b e = refl

-- What cannot hold is denied.
pub not-from : (b : Bool) → (b ≡ true → ⊥) → not b ≡ true
not-from true f = absurd (f refl)
not-from false f = refl

-- What is denied does not hold.
pub not-holds : (b : Bool) → not b ≡ true → b ≡ true → ⊥
not-holds b h k = cc (h, k)
