-- Orders of keys: of numbers, of what may be none, by two parts one after the other, and by what tells all of a thing.
use Rattle.std.proofs.{Common.{◌≡◌, ℕ, Bool, true, false, nat_eq, nat_lt, refl, sym, ap, subst, ◌∙◌, arith, eqb-true}, Math.Bool.or-true, lemmas.Bool.and_parts}
use Rattle.std.specs.Prelude.{◌&&◌, ◌||◌}
use Rattle.ason_base.specs.InOrder.{IsKeyOrder}
use Rattle.ason_base.proofs.{Ordered.IsOrder, Numbers.self-number}

module _ {X : Type 0} {same before : X → X → Bool} (o : IsKeyOrder same before) where
  -- what is before another isn't the same
  pub apart : (a b : X) → before a b ≡ true → same a b ≡ false
  apart a b e = go (same a b) refl
    where
      go : (s : Bool) → same a b ≡ s → s ≡ false
      go true f = absurd (cc (subst (λ x. before x b ≡ true) (o.one a b f) e, o.never b))
      go false f = refl

  -- and the other isn't before it
  pub not-back : (a b : X) → before a b ≡ true → before b a ≡ false
  not-back a b e = go (before b a) refl
    where
      go : (s : Bool) → before b a ≡ s → s ≡ false
      go true f = absurd (cc (o.through a b a e f, o.never a))
      go false f = refl

  -- what isn't after one that is before a third is before the third
  pub before-third : (a b c : X) → before b a ≡ false → before b c ≡ true → before a c ≡ true
  before-third a b c e f = go (same a b) refl
    where
      go : (s : Bool) → same a b ≡ s → before a c ≡ true
      go true g = subst (λ x. before x c ≡ true) (sym (o.one a b g)) f
      go false g = o.through a b c (o.total b a g e) f

  -- which of two that are the same is tested doesn't matter
  pub same-by : (a b c : X) → same a b ≡ true → same a c ≡ same b c
  same-by a b c e = ap (λ x. same x c) (o.one a b e)

  -- the order without its test of sameness
  pub is_order : IsOrder before
  is_order = record {
    irreflexive = λ a e. cc (e, o.never a);
    transitive = o.through;
    total = λ a b e f. go a b e f (same b a) refl;
  }
    where
      go : (a b : X) → before a b ≡ false → before b a ≡ false → (s : Bool) → same b a ≡ s → a ≡ b
      go a b e f true g = sym (o.one b a g)
      go a b e f false g = absurd (cc (o.total a b g e, f))

-- Numbers

number-never : (a : ℕ) → nat_lt a a ≡ false
number-never a = grind arith

number-through : (a b c : ℕ) → nat_lt a b ≡ true → nat_lt b c ≡ true → nat_lt a c ≡ true
number-through a b c e f = grind arith

number-total : (a b : ℕ) → nat_eq b a ≡ false → nat_lt a b ≡ false → nat_lt b a ≡ true
number-total a b e f = grind arith

pub number_order : IsKeyOrder nat_eq nat_lt
number_order = record {
  itself = self-number;
  one = eqb-true;
  never = number-never;
  through = number-through;
  total = number-total;
}

-- What may be none

-- Two parts

-- both parts are the same
abbrev pub both_same : {X Y : Type 0} → (X → X → Bool) → (Y → Y → Bool) → X × Y → X × Y → Bool
both_same same same' a b = same a.0 b.0 && same' a.1 b.1

-- the first part decides, or it is the same and the second does
abbrev pub parts_before : {X Y : Type 0} → (X → X → Bool) → (X → X → Bool) → (Y → Y → Bool) → X × Y → X × Y → Bool
parts_before same before before' a b = before a.0 b.0 || (same a.0 b.0 && before' a.1 b.1)

module _ {X Y : Type 0} {same before : X → X → Bool} {same' before' : Y → Y → Bool} (o : IsKeyOrder same before)
    (p : IsKeyOrder same' before') where
  first : (a b : X × Y) → before a.0 b.0 ≡ true → parts_before same before before' a b ≡ true
  first a b e = ap (λ c. c || (same a.0 b.0 && before' a.1 b.1)) e

  second : (a b : X × Y) → same a.0 b.0 ≡ true → before' a.1 b.1 ≡ true → parts_before same before before' a b ≡ true
  second a b e f =
      ap (λ c. before a.0 b.0 || (c && before' a.1 b.1)) e ∙ ap (λ c. before a.0 b.0 || c) f ∙ or-true (before a.0 b.0)

  parts-one : (a b : X × Y) → both_same same same' a b ≡ true → a ≡ b
  parts-one a b e =
      let h = and_parts (same a.0 b.0) (same' a.1 b.1) e in
      let x = o.one a.0 b.0 h.0 in
      let y = p.one a.1 b.1 h.1 in
      λ i. (x i, y i)

  parts-through : (a b c : X × Y) → parts_before same before before' a b ≡ true →
      parts_before same before before' b c ≡ true → parts_before same before before' a c ≡ true
  parts-through a b c =
      go (before a.0 b.0) (before b.0 c.0) (same a.0 b.0) (same b.0 c.0) refl refl refl refl
    where
      go : (q r s t : Bool) → before a.0 b.0 ≡ q → before b.0 c.0 ≡ r → same a.0 b.0 ≡ s → same b.0 c.0 ≡ t →
          (q || (s && before' a.1 b.1)) ≡ true → (r || (t && before' b.1 c.1)) ≡ true →
          parts_before same before before' a c ≡ true
      go true true s t e f g h x y = first a c (o.through a.0 b.0 c.0 e f)
      go true false s true e f g h x y = first a c (subst (λ z. before a.0 z ≡ true) (o.one b.0 c.0 h) e)
      go true false s false e f g h x y = absurd (cc y)
      go false true true t e f g h x y = first a c (subst (λ z. before z c.0 ≡ true) (sym (o.one a.0 b.0 g)) f)
      go false true false t e f g h x y = absurd (cc x)
      go false false true true e f g h x y =
          second a c (subst (λ z. same z c.0 ≡ true) (sym (o.one a.0 b.0 g)) h) (p.through a.1 b.1 c.1 x y)
      go false false true false e f g h x y = absurd (cc y)
      go false false false t e f g h x y = absurd (cc x)

  parts-total : (a b : X × Y) → both_same same same' b a ≡ false → parts_before same before before' a b ≡ false →
      parts_before same before before' b a ≡ true
  parts-total a b = go (same b.0 a.0) (before a.0 b.0) refl refl
    where
      go : (s t : Bool) → same b.0 a.0 ≡ s → before a.0 b.0 ≡ t → (s && same' b.1 a.1) ≡ false →
          (t || (same a.0 b.0 && before' a.1 b.1)) ≡ false → parts_before same before before' b a ≡ true
      go s true f g h k = absurd (cc k)
      go true false f g h k =
          let back : same a.0 b.0 ≡ true = subst (λ z. same a.0 z ≡ true) (sym (o.one b.0 a.0 f)) (o.itself a.0) in
          second b a f (p.total a.1 b.1 h (subst (λ c. (c && before' a.1 b.1) ≡ false) back k))
      go false false f g h k = first b a (o.total a.0 b.0 f g)

  -- by two parts, one after the other
  pub by_parts : IsKeyOrder (both_same same same') (parts_before same before before')
  by_parts = record {
    itself = λ a. rw (o.itself a.0) (p.itself a.1);
    one = parts-one;
    never = λ a. rw (o.never a.0, o.itself a.0) (p.never a.1);
    through = parts-through;
    total = parts-total;
  }

-- Keys

-- an order of keys is one of what has them, where the key tells all of it
pub by_key : {X K : Type 0} {same before : K → K → Bool} (key : X → K) (of : K → X) → ((x : X) → of (key x) ≡ x) →
    IsKeyOrder same before → IsKeyOrder (λ a b. same (key a) (key b)) (λ a b. before (key a) (key b))
by_key key of back o = record {
  itself = λ a. o.itself (key a);
  one = λ a b e. sym (back a) ∙ ap of (o.one (key a) (key b) e) ∙ back b;
  never = λ a. o.never (key a);
  through = λ a b c. o.through (key a) (key b) (key c);
  total = λ a b. o.total (key a) (key b);
}
