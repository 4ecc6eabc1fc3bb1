-- What `in_order` makes of a list: the one rising list with the same members.
use Rattle.std.proofs.{Common.{◌≡◌, ◌↔◌, ◌⊎◌, inl, inr, suc, Bool, true, false, cond, IsTrue, List, [], ◌∷◌, get_or, refl, sym, subst, arith, AllPairs, Contains}, lemmas.List.Elements.Contains-get_or, lemmas.List.Kept.AllPairs-cons}
use Rattle.std.specs.{Prelude.◌||◌, List.list_any}
use Rattle.ason_base.specs.InOrder.{put_in, in_order}
use Rattle.ason_base.proofs.Members.{contains-cases, contains-tail, contains-head, contains-none}

-- Rising lists

pub record IsOrder {X : Type 0} (below : X → X → Bool) : Type 0 where
  pub irreflexive : (x : X) → below x x ≡ true → ⊥
  pub transitive : (x y z : X) → below x y ≡ true → below y z ≡ true → below x z ≡ true
  pub total : (x y : X) → below x y ≡ false → below y x ≡ false → x ≡ y

pub record Rises {X : Type 0} (below : X → X → Bool) (xs : List X) : Type 0 where
  pub pairs : AllPairs (λ x y. IsTrue (below x y)) xs

rises-none : {X : Type 0} (below : X → X → Bool) → Rises below []
rises-none below = record { pairs = λ i j d before within. absurd (omega arith) }

rises-tail : {X : Type 0} (below : X → X → Bool) (x : X) (xs : List X) → Rises below (x ∷ xs) → Rises below xs
rises-tail below x xs r = record {
  pairs = λ i j d before within. r.pairs (suc i) (suc j) d (omega arith)
      (omega arith);
}

rises-head : {X : Type 0} (below : X → X → Bool) (x z : X) (xs : List X) → Rises below (x ∷ xs) → Contains xs z →
    below x z ≡ true
rises-head below x z xs r (k, within, is) = subst (λ y. below x y ≡ true) is
    (r.pairs 0 (suc k) z (omega arith) (omega arith))

rises-cons : {X : Type 0} (below : X → X → Bool) (x : X) (xs : List X) →
    ((z : X) → Contains xs z → below x z ≡ true) → Rises below xs → Rises below (x ∷ xs)
rises-cons below x xs above r = record {
  pairs = AllPairs-cons (λ y z. IsTrue (below y z)) x xs
      (λ k d within. above (get_or xs k d) (Contains-get_or xs k d within)) r.pairs;
}

-- One more member

put-has : {X : Type 0} (below : X → X → Bool) (x z : X) (xs : List X) → Contains (put_in below x xs) z →
    (x ≡ z) ⊎ Contains xs z
put-has below x z [] h = contains-cases x z [] h
put-has {X} below x z (y ∷ ys) h = go (below x y) (below y x) (put-has below x z ys) h
  where
    go : (a b : Bool) → (Contains (put_in below x ys) z → (x ≡ z) ⊎ Contains ys z) →
        Contains (cond a (x ∷ y ∷ ys) (cond b (y ∷ put_in below x ys) (y ∷ ys))) z → (x ≡ z) ⊎ Contains (y ∷ ys) z
    go true b before there = contains-cases x z (y ∷ ys) there
    go false true before there = elim (contains-cases y z (put_in below x ys) there) [
      | inl is ↦ inr (subst (λ w. Contains (y ∷ ys) w) is (contains-head y ys))
      | inr later ↦ elim (before later) [ inl same ↦ inl same | inr kept ↦ inr (contains-tail y z ys kept) ]
    ]
    go false false before there = inr there

put-keeps : {X : Type 0} (below : X → X → Bool) (x z : X) (xs : List X) → Contains xs z → Contains (put_in below x xs) z
put-keeps below x z [] h = absurd (contains-none z h)
put-keeps {X} below x z (y ∷ ys) h = go (below x y) (below y x) (put-keeps below x z ys)
  where
    go : (a b : Bool) → (Contains ys z → Contains (put_in below x ys) z) →
        Contains (cond a (x ∷ y ∷ ys) (cond b (y ∷ put_in below x ys) (y ∷ ys))) z
    go true b before = contains-tail x z (y ∷ ys) h
    go false true before = elim (contains-cases y z ys h) [
      | inl is ↦ subst (λ w. Contains (y ∷ put_in below x ys) w) is (contains-head y (put_in below x ys))
      | inr later ↦ contains-tail y z (put_in below x ys) (before later)
    ]
    go false false before = h

put-new : {X : Type 0} (below : X → X → Bool) (o : IsOrder below) (x : X) (xs : List X) → Contains (put_in below x xs) x
put-new below o x [] = contains-head x []
put-new {X} below o x (y ∷ ys) = go (below x y) (below y x) refl refl (put-new below o x ys)
  where
    go : (a b : Bool) → below x y ≡ a → below y x ≡ b → Contains (put_in below x ys) x →
        Contains (cond a (x ∷ y ∷ ys) (cond b (y ∷ put_in below x ys) (y ∷ ys))) x
    go true b e f before = contains-head x (y ∷ ys)
    go false true e f before = contains-tail y x (put_in below x ys) before
    go false false e f before = subst (λ w. Contains (y ∷ ys) w) (sym (o.total x y e f)) (contains-head y ys)

put-rises : {X : Type 0} (below : X → X → Bool) (o : IsOrder below) (x : X) (xs : List X) → Rises below xs →
    Rises below (put_in below x xs)
put-rises below o x [] r = rises-cons below x [] (λ z there. absurd (contains-none z there)) r
put-rises {X} below o x (y ∷ ys) r = go (below x y) (below y x) refl refl
    (put-rises below o x ys (rises-tail below y ys r))
  where
    first : below x y ≡ true → (z : X) → Contains (y ∷ ys) z → below x z ≡ true
    first e z there = elim (contains-cases y z ys there) [
      | inl is ↦ subst (λ w. below x w ≡ true) is e
      | inr later ↦ o.transitive x y z e (rises-head below y z ys r later)
    ]

    later : below y x ≡ true → (z : X) → Contains (put_in below x ys) z → below y z ≡ true
    later f z there = elim (put-has below x z ys there) [
      | inl is ↦ subst (λ w. below y w ≡ true) is f
      | inr kept ↦ rises-head below y z ys r kept
    ]

    go : (a b : Bool) → below x y ≡ a → below y x ≡ b → Rises below (put_in below x ys) →
        Rises below (cond a (x ∷ y ∷ ys) (cond b (y ∷ put_in below x ys) (y ∷ ys)))
    go true b e f before = rises-cons below x (y ∷ ys) (first e) r
    go false true e f before = rises-cons below y (put_in below x ys) (later f) before
    go false false e f before = r

-- All of a list

pub in_order-has : {X : Type 0} (below : X → X → Bool) (o : IsOrder below) (xs : List X) (z : X) →
    Contains (in_order below xs) z ↔ Contains xs z
in_order-has below o [] z = ((λ h. h), (λ h. h))
in_order-has below o (x ∷ xs) z =
    let before = in_order-has below o xs z in (
      (λ h. elim (put-has below x z (in_order below xs) h) [
        | inl is ↦ subst (λ w. Contains (x ∷ xs) w) is (contains-head x xs)
        | inr kept ↦ contains-tail x z xs (before.0 kept)
      ]),
      (λ h. elim (contains-cases x z xs h) [
        | inl is ↦ subst (λ w. Contains (put_in below x (in_order below xs)) w) is
            (put-new below o x (in_order below xs))
        | inr later ↦ put-keeps below x z (in_order below xs) (before.1 later)
      ]),
    )

pub in_order-rises : {X : Type 0} (below : X → X → Bool) (o : IsOrder below) (xs : List X) →
    Rises below (in_order below xs)
in_order-rises below o [] = rises-none below
in_order-rises below o (x ∷ xs) = put-rises below o x (in_order below xs) (in_order-rises below o xs)

-- Two rising lists with the same members are the same.

same_head : {X : Type 0} (below : X → X → Bool) (o : IsOrder below) (x y : X) (xs ys : List X) →
    Rises below (x ∷ xs) → Rises below (y ∷ ys) → Contains (y ∷ ys) x → Contains (x ∷ xs) y → x ≡ y
same_head below o x y xs ys p q here there =
    elim (contains-cases y x ys here) [
      | inl same ↦ sym same
      | inr later ↦ elim (contains-cases x y xs there) [
        | inl same ↦ same
        | inr above ↦ absurd (o.irreflexive x (o.transitive x y x (rises-head below x y xs p above)
            (rises-head below y x ys q later)))
      ]
    ]

in_tail : {X : Type 0} (below : X → X → Bool) (o : IsOrder below) (x y z : X) (xs ys : List X) →
    Rises below (x ∷ xs) → x ≡ y → Contains xs z → Contains (y ∷ ys) z → Contains ys z
in_tail below o x y z xs ys p same there here =
    elim (contains-cases y z ys here) [
      | inl is ↦ absurd (o.irreflexive y (subst (λ w. below w y ≡ true) same
          (subst (λ w. below x w ≡ true) (sym is) (rises-head below x z xs p there))))
      | inr later ↦ later
    ]

pub rising_once : {X : Type 0} (below : X → X → Bool) (o : IsOrder below) (xs ys : List X) → Rises below xs →
    Rises below ys → ((z : X) → Contains xs z → Contains ys z) → ((z : X) → Contains ys z → Contains xs z) → xs ≡ ys
rising_once below o [] [] p q to from = refl
rising_once below o [] (y ∷ ys) p q to from = absurd (contains-none y (from y (contains-head y ys)))
rising_once below o (x ∷ xs) [] p q to from = absurd (contains-none x (to x (contains-head x xs)))
rising_once below o (x ∷ xs) (y ∷ ys) p q to from =
    let same : x ≡ y = same_head below o x y xs ys p q (to x (contains-head x xs)) (from y (contains-head y ys)) in
    let tails : xs ≡ ys = rising_once below o xs ys (rises-tail below x xs p) (rises-tail below y ys q)
    (λ z there. in_tail below o x y z xs ys p same there (to z (contains-tail x z xs there)))
    (λ z there. in_tail below o y x z ys xs q (sym same) there (from z (contains-tail y z ys there))) in
    λ i. same i ∷ tails i

-- a rising list with the members of another is that one in order
pub in_order-is : {X : Type 0} (below : X → X → Bool) (o : IsOrder below) (xs ys : List X) → Rises below ys →
    ((z : X) → Contains ys z ↔ Contains xs z) → ys ≡ in_order below xs
in_order-is below o xs ys r same =
    rising_once below o ys (in_order below xs) r (in_order-rises below o xs)
    (λ z there. (in_order-has below o xs z).1 ((same z).0 there))
    (λ z there. (same z).1 ((in_order-has below o xs z).0 there))

-- What passes a test is a member that does.

pub any-there : {X : Type 0} (p : X → Bool) (xs : List X) → list_any p xs ≡ true → (x : X) × Contains xs x ×
    (p x ≡ true)
any-there p [] h = cc
any-there {X} p (x ∷ xs) h = go (p x) refl h (any-there p xs)
  where
    go : (a : Bool) → p x ≡ a → (a || list_any p xs) ≡ true →
        (list_any p xs ≡ true → (y : X) × Contains xs y × (p y ≡ true)) → (y : X) × Contains (x ∷ xs) y × (p y ≡ true)
    go true e h later = (x, contains-head x xs, e)
    go false e h later = let there = later h in (there.0, contains-tail x there.0 xs there.1, there.2)

pub there-any : {X : Type 0} (p : X → Bool) (xs : List X) (x : X) → Contains xs x → p x ≡ true → list_any p xs ≡ true
there-any p [] x there e = absurd (contains-none x there)
there-any {X} p (y ∷ ys) x there e = go (p y) refl (there-any p ys x)
  where
    go : (a : Bool) → p y ≡ a → (Contains ys x → p x ≡ true → list_any p ys ≡ true) → (a || list_any p ys) ≡ true
    go true f before = refl
    go false f before = elim (contains-cases y x ys there) [
      | inl is ↦ cc (subst (λ z. p z ≡ true) (sym is) e, f)
      | inr later ↦ before later e
    ]
