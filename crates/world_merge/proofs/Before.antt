-- The order of lines.
use Rattle.std.proofs.Common.{◌≡◌, ◌<◌, ◌≤◌, ◌⊎◌, ℕ, Bool, true, false, cond, nat_eq, nat_lt, nat_le, List, [], ◌∷◌, refl, ◌∙◌, arith, inl, inr}
use Rattle.std.specs.{Prelude.{◌&&◌, ◌||◌}, List.AllByRecursion}
use Rattle.ason_base.specs.declared.commands.Entry.{Entry}
use Rattle.world_merge.specs.{Orders.{IsBefore, order_place}, Picking.is_before}

-- pairs of numbers, by the first and then the second
abbrev InOrder : ℕ → ℕ → ℕ → ℕ → Type 0
InOrder a b c d = (a < b) ⊎ ((a ≡ b) × (c ≤ d))

tells : (a b c d : ℕ) (r : Bool) → (nat_lt a b || (nat_eq a b && nat_le c d)) ≡ r →
    cond r (InOrder a b c d) (InOrder b a d c)
tells a b c d r e = go (nat_lt a b) refl (nat_eq a b) refl (nat_le c d) refl r e
  where
    go : (x : Bool) → nat_lt a b ≡ x → (y : Bool) → nat_eq a b ≡ y → (z : Bool) → nat_le c d ≡ z → (r : Bool) →
        (x || (y && z)) ≡ r → cond r (InOrder a b c d) (InOrder b a d c)
    go true h y i z j true e = inl (grind (arith, h))
    go true h y i z j false e = absurd (cc (e))
    go false h true i true j true e = inr (grind (arith, i), grind (arith, j))
    go false h true i true j false e = absurd (cc (e))
    go false h true i false j true e = absurd (cc (e))
    go false h true i false j false e = inr (grind (arith, i), grind (arith, j))
    go false h false i z j true e = absurd (cc (e))
    go false h false i z j false e = inl (grind (arith, h, i))

pub before-true : (e f : Entry) → is_before e f ≡ true → IsBefore e f
before-true e f h = tells e.stamp f.stamp (order_place e.node) (order_place f.node) true h

-- of two lines one comes before the other
pub before-false : (e f : Entry) → is_before e f ≡ false → IsBefore f e
before-false e f h = tells e.stamp f.stamp (order_place e.node) (order_place f.node) false h

then_before : (e f g : Entry) → IsBefore e f → IsBefore f g → IsBefore e g
then_before e f g a b = elim a [
  | inl h ↦ elim b [ inl k ↦ inl (omega (arith, h, k)) | inr k ↦ inl (omega (arith, h, k.0)) ]
  | inr h ↦ elim b [ inl k ↦ inl (omega (arith, h.0, k)) | inr k ↦ inr (h.0 ∙ k.0, omega (arith, h.1, k.1)) ]
]

-- what comes before a line comes before all that this one comes before
pub all-later : (e f : Entry) (m : List Entry) → IsBefore e f → AllByRecursion (IsBefore f) m →
    AllByRecursion (IsBefore e) m
all-later e f [] b all = tt
all-later e f (g ∷ m) b all = (then_before e f g b all.0, all-later e f m b all.1)
