-- Lists in order of a key, each key once: what is found, and their order, after one comes, changes or goes.
use Rattle.std.proofs.{Common.{◌≡◌, suc, Bool, true, false, cond, not, List, [], ◌∷◌, refl, sym, ap, subst, ◌∙◌, arith}, lemmas.List.Elements.{All-from_recursion, recursion_from_All}, lemmas.List.Kept.AllPairs-cons}
use Rattle.std.specs.{Prelude.{Option, Some, None, filter, find}, List.{AllByRecursion, AllPairs}}
use Rattle.ason_base.specs.InOrder.{IsKeyOrder, Rise, put_by}
use Rattle.ason_base.proofs.{KeyOrder.{apart, same-by}, Finding.found-of_all, Members.{all-filter, all-then}}

-- What holds of each

-- where all pass, all are left
pub filter-true : {X : Type 0} (xs : List X) → filter (λ x. true) xs ≡ xs
filter-true [] = refl
filter-true (x ∷ xs) = ap (λ ys. x ∷ ys) (filter-true xs)

-- those that are left stand to one another as before
pub rise-filter : {X : Type 0} (R : X → X → Type 0) (p : X → Bool) (xs : List X) → Rise R xs → Rise R (filter p xs)
rise-filter R p [] rise = tt
rise-filter R p (x ∷ xs) rise =
    elim (p x) as (λ b. Rise R (cond b (x ∷ filter p xs) (filter p xs))) [
      | true ↦ (all-filter (R x) p xs rise.0, rise-filter R p xs rise.1)
      | false ↦ rise-filter R p xs rise.1
    ]

-- The two ways to say that a list rises

pub pairs-head : {X : Type 0} (R : X → X → Type 0) (x : X) (xs : List X) → AllPairs R (x ∷ xs) →
    AllByRecursion (R x) xs
pairs-head R x xs pairs = recursion_from_All (R x) xs (λ k d within. pairs 0 (suc k) d (omega arith) (omega arith))

pub pairs-tail : {X : Type 0} (R : X → X → Type 0) (x : X) (xs : List X) → AllPairs R (x ∷ xs) → AllPairs R xs
pairs-tail R x xs pairs i j d less within = pairs (suc i) (suc j) d (omega arith) (omega arith)

pub pairs-rise : {X : Type 0} (R : X → X → Type 0) (xs : List X) → AllPairs R xs → Rise R xs
pairs-rise R [] pairs = tt
pairs-rise R (x ∷ xs) pairs = (pairs-head R x xs pairs, pairs-rise R xs (pairs-tail R x xs pairs))

pub rise-pairs : {X : Type 0} (R : X → X → Type 0) (xs : List X) → Rise R xs → AllPairs R xs
rise-pairs R [] rise = λ i j d less within. absurd (omega arith)
rise-pairs R (x ∷ xs) rise =
    AllPairs-cons R x xs (All-from_recursion (R x) xs rise.0) (rise-pairs R xs rise.1)

module _ {X K : Type 0} {same before : K → K → Bool} (o : IsKeyOrder same before) (key : X → K) where
  -- Finding

  -- what is found has the key
  pub found-key : (k : K) (xs : List X) (x : X) → find (λ y. same (key y) k) xs ≡ Some x → key x ≡ k
  found-key k [] x found = cc
  found-key k (y ∷ ys) x found =
      elim (same (key y) k) as (λ b. same (key y) k ≡ b → cond b (Some y) (find (λ z. same (key z) k) ys) ≡ Some x →
      key x ≡ k) [
        | true ↦ λ e f. let is : y ≡ x = cc in sym (ap key is) ∙ o.one (key y) k e
        | false ↦ λ e f. found-key k ys x f
      ] refl found

  -- after one is put, it is found by its key, and all others are found as before
  pub find-put : (x : X) (xs : List X) (k : K) →
      find (λ y. same (key y) k) (put_by same before key x xs) ≡ cond (same (key x) k) (Some x)
      (find (λ y. same (key y) k) xs)
  find-put x [] k = refl
  find-put x (y ∷ ys) k = go (find-put x ys k) (same (key y) (key x)) (before (key x) (key y)) refl
    where
      rest : Option X
      rest = find (λ z. same (key z) k) ys

      twice : (b : Bool) → cond b (Some x) rest ≡ cond b (Some x) (cond b (Some y) rest)
      twice true = refl
      twice false = refl

      swap : (a b : Bool) → same (key y) k ≡ a → same (key x) k ≡ b → same (key y) (key x) ≡ false →
          cond a (Some y) (cond b (Some x) rest) ≡ cond b (Some x) (cond a (Some y) rest)
      swap true true e f apart =
          let is : key y ≡ key x = o.one (key y) k e ∙ sym (o.one (key x) k f) in
          absurd (cc (subst (λ j. same (key y) j ≡ false) (sym is) apart, o.itself (key y)))
      swap true false e f apart = refl
      swap false b e f apart = refl

      go : find (λ z. same (key z) k) (put_by same before key x ys) ≡ cond (same (key x) k) (Some x) rest →
          (a b : Bool) → same (key y) (key x) ≡ a →
          find (λ z. same (key z) k)
          (cond a (x ∷ ys) (cond b (x ∷ y ∷ ys) (y ∷ put_by same before key x ys))) ≡ cond (same (key x) k) (Some x)
          (cond (same (key y) k) (Some y) rest)
      go below true b e = rw (same-by o (key y) (key x) k e) (twice (same (key x) k))
      go below false true e = refl
      go below false false e = rw below (swap (same (key y) k) (same (key x) k) refl refl e)

  -- without those of a key none is found by it, and all others are found as before
  pub find-without : (j : K) (xs : List X) (k : K) →
      find (λ y. same (key y) k) (filter (λ y. not (same (key y) j)) xs) ≡ cond (same j k) None
      (find (λ y. same (key y) k) xs)
  find-without j [] k =
      elim (same j k) as
      (λ b. find (λ y. same (key y) k) [] ≡ cond b None (find (λ y. same (key y) k) [])) [
        | true ↦ refl
        | false ↦ refl
      ]
  find-without j (y ∷ ys) k = go (find-without j ys k) (same (key y) j) (same j k) refl refl
    where
      rest : Option X
      rest = find (λ z. same (key z) k) ys

      left : List X
      left = filter (λ z. not (same (key z) j)) ys

      go : find (λ z. same (key z) k) left ≡ cond (same j k) None rest → (a b : Bool) → same (key y) j ≡ a →
          same j k ≡ b →
          find (λ z. same (key z) k) (cond (not a) (y ∷ left) left) ≡ cond b None
          (cond (same (key y) k) (Some y) rest)
      go below true true e f = rw (below, f) refl
      go below true false e f = rw (below, same-by o (key y) j k e, f) refl
      go below false true e f =
          let apart : same (key y) k ≡ false = subst (λ m. same (key y) m ≡ false) (o.one j k f) e in
          rw (below, f, apart) refl
      go below false false e f = rw (below, f) refl

  -- Order

  pub all-put : (P : X → Type 0) (x : X) (xs : List X) → P x → AllByRecursion P xs →
      AllByRecursion P (put_by same before key x xs)
  all-put P x [] here all = (here, tt)
  all-put P x (y ∷ ys) here all =
      elim (same (key y) (key x)) as (λ a. AllByRecursion P
      (cond a (x ∷ ys) (cond (before (key x) (key y)) (x ∷ y ∷ ys) (y ∷ put_by same before key x ys)))) [
        | true ↦ (here, all.1)
        | false ↦ elim (before (key x) (key y)) as
            (λ b. AllByRecursion P (cond b (x ∷ y ∷ ys) (y ∷ put_by same before key x ys))) [
              | true ↦ (here, all)
              | false ↦ (all.0, all-put P x ys here all.1)
            ]
      ]

  module _ (R : X → X → Type 0) (to : (x y : X) → R x y → before (key x) (key y) ≡ true)
      (from : (x y : X) → before (key x) (key y) ≡ true → R x y) where
    pub rise-put : (x : X) (xs : List X) → Rise R xs → Rise R (put_by same before key x xs)
    rise-put x [] rise = (tt, tt)
    rise-put x (y ∷ ys) rise = go (rise-put x ys rise.1) (same (key y) (key x)) (before (key x) (key y)) refl refl
      where
        go : Rise R (put_by same before key x ys) → (a b : Bool) → same (key y) (key x) ≡ a →
            before (key x) (key y) ≡ b →
            Rise R (cond a (x ∷ ys) (cond b (x ∷ y ∷ ys) (y ∷ put_by same before key x ys)))
        go below true b e f = (
          all-then (R y) (R x) ys
              (λ z h. from x z (subst (λ k. before k (key z) ≡ true) (o.one (key y) (key x) e) (to y z h))) rise.0,
          rise.1,
        )
        go below false true e f = (
          (
            from x y f,
            all-then (R y) (R x) ys (λ z h. from x z (o.through (key x) (key y) (key z) f (to y z h))) rise.0,
          ),
          rise,
        )
        go below false false e f =
            (all-put (R y) x ys (from y x (o.total (key x) (key y) e f)) rise.0, below)

    -- one of a key that is found behind another is found with that before it
    pub found-below : (y : X) (ys : List X) (k : K) (x : X) → AllByRecursion (R y) ys →
        find (λ z. same (key z) k) ys ≡ Some x → find (λ z. same (key z) k) (y ∷ ys) ≡ Some x
    found-below y ys k x above found =
        let less = to y x (found-of_all (R y) (λ z. same (key z) k) ys x found above) in
        let other : same (key y) k ≡ false =
        subst (λ j. same (key y) j ≡ false) (found-key k ys x found) (apart o (key y) (key x) less) in
        rw other found

    -- what holds of each that is found holds of all
    pub all-found : (P : X → Type 0) (xs : List X) → Rise R xs →
        ((k : K) (x : X) → find (λ y. same (key y) k) xs ≡ Some x → P x) → AllByRecursion P xs
    all-found P [] rise each = tt
    all-found P (y ∷ ys) rise each = (
      each (key y) y (rw (o.itself (key y)) refl),
      all-found P ys rise.1 (λ k x found. each k x (found-below y ys k x rise.0 found)),
    )
