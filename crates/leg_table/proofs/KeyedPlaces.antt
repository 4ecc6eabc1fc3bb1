-- Where an item stands in a list in order of a key, and what putting one there makes of the list.
use Rattle.std.proofs.{Common.{◌≡◌, ◌+◌, ℕ, zero, suc, Bool, true, false, cond, not, List, [], ◌∷◌, get_or, set, refl, sym, ap, subst, ◌∙◌, one-add}, lemmas.Bool.not-true}
use Rattle.std.specs.{Prelude.{◌||◌, IsTrue, None, Some, filter, find, insert, slice_get}, List.{list_any, position_or_len}}
use Rattle.ason_base.specs.InOrder.{IsKeyOrder, put_by}
use Rattle.ason_base.proofs.{KeyOrder.not-back, KeyedLists.{pairs-rise, rise-filter, rise-pairs, rise-put}}
use Rattle.leg_table.specs.Keyed.{KeysRise, has_key, is_from, passes_there}
use Rattle.leg_table.proofs.Halved.{InOrder}

cons-cond : {X : Type 0} (b : Bool) (x : X) (xs ys : List X) → x ∷ cond b xs ys ≡ cond b (x ∷ xs) (x ∷ ys)
cons-cond true x xs ys = refl
cons-cond false x xs ys = refl

-- what isn't found stands nowhere
unheld : {X : Type 0} (p : X → Bool) (xs : List X) (k : ℕ) → find p xs ≡ None → passes_there p (slice_get xs k) ≡ false
unheld p [] k e = refl
unheld {X} p (x ∷ xs) k e = go (p x) refl e k (λ j f. unheld p xs j f)
  where
    go : (b : Bool) → p x ≡ b → cond b (Some x) (find p xs) ≡ None → (k : ℕ) →
        ((j : ℕ) → find p xs ≡ None → passes_there p (slice_get xs j) ≡ false) →
        passes_there p (slice_get (x ∷ xs) k) ≡ false
    go true is f k later = absurd (cc f)
    go false is f zero later = is
    go false is f (suc k) later = later k f

-- where none is found, none passes
pub not-found : {X : Type 0} (same : X → Bool) (xs : List X) → find same xs ≡ None → list_any same xs ≡ true → ⊥
not-found same [] e h = cc h
not-found same (x ∷ xs) e h = go (same x) e h (not-found same xs)
  where
    go : (b : Bool) → cond b (Some x) (find same xs) ≡ None → (b || list_any same xs) ≡ true →
        (find same xs ≡ None → list_any same xs ≡ true → ⊥) → ⊥
    go true e h later = cc e
    go false e h later = later e h

-- where none passes, none is found
pub none-found : {X : Type 0} (p : X → Bool) (xs : List X) → list_any p xs ≡ false → find p xs ≡ None
none-found p [] e = refl
none-found p (x ∷ xs) e = go (p x) e (none-found p xs)
  where
    go : (b : Bool) → (b || list_any p xs) ≡ false → (list_any p xs ≡ false → find p xs ≡ None) →
        cond b (Some x) (find p xs) ≡ None
    go true e later = absurd (cc e)
    go false e later = later e

-- those that are left are in order
pub left_rises : {X K : Type 0} (before : K → K → Bool) (key : X → K) (p : X → Bool) (xs : List X) →
    KeysRise before key xs → KeysRise before key (filter p xs)
left_rises before key p xs rises =
    rise-pairs (λ y z. IsTrue (before (key y) (key z))) (filter p xs)
    (rise-filter (λ y z. IsTrue (before (key y) (key z))) p xs
    (pairs-rise (λ y z. IsTrue (before (key y) (key z))) xs rises))

module _ {X K : Type 0} {same before : K → K → Bool} (o : IsKeyOrder same before) (key : X → K) where
  -- a list in order of a key is one in which each key is found by halving
  pub key_in_order : (k : K) (xs : List X) → KeysRise before key xs →
      InOrder (has_key same key k) (is_from before key k) xs
  key_in_order k xs rises = record {
    reaches = λ x e. subst (λ j. not (before j k) ≡ true) (sym (o.one (key x) k e)) (rw (o.never k) refl);
    last = λ i j d less within from. still (get_or xs i d) (get_or xs j d) (rises i j d less within) from;
    once = λ i j d less within from. other (get_or xs i d) (get_or xs j d) (rises i j d less within) from;
  }
    where
      still : (x y : X) → before (key x) (key y) ≡ true → not (before (key x) k) ≡ true →
          not (before (key y) k) ≡ true
      still x y less from = go (before (key y) k) refl
        where
          go : (b : Bool) → before (key y) k ≡ b → not b ≡ true
          go true e = absurd (cc (o.through (key x) (key y) k less e, not-true (before (key x) k) from))
          go false e = refl

      other : (x y : X) → before (key x) (key y) ≡ true → not (before (key x) k) ≡ true → same (key y) k ≡ false
      other x y less from = go (same (key y) k) refl
        where
          go : (b : Bool) → same (key y) k ≡ b → b ≡ false
          go true e = absurd (cc (
            subst (λ j. before (key x) j ≡ true) (o.one (key y) k e) less,
            not-true (before (key x) k) from,
          ))
          go false e = refl

  -- an item is put at the place of its key: in place of the one there, or before it
  put-place : (x : X) (xs : List X) →
      put_by same before key x xs ≡ cond
      (passes_there (has_key same key (key x)) (slice_get xs (position_or_len (is_from before key (key x)) xs)))
      (set xs (position_or_len (is_from before key (key x)) xs) x)
      (insert xs (position_or_len (is_from before key (key x)) xs) x)
  put-place x [] = refl
  put-place x (y ∷ ys) =
      go (put-place x ys) (same (key y) (key x)) refl (before (key x) (key y)) refl
    where
      n : ℕ
      n = position_or_len (is_from before key (key x)) ys

      has : X → Bool
      has = has_key same key (key x)

      go : put_by same before key x ys ≡ cond (passes_there has (slice_get ys n)) (set ys n x) (insert ys n x) →
          (a : Bool) → same (key y) (key x) ≡ a → (b : Bool) → before (key x) (key y) ≡ b →
          cond a (x ∷ ys) (cond b (x ∷ y ∷ ys) (y ∷ put_by same before key x ys)) ≡ cond
          (passes_there has (slice_get (y ∷ ys) (cond (not (not (before (key y) (key x)))) (1 + n) 0)))
          (set (y ∷ ys) (cond (not (not (before (key y) (key x)))) (1 + n) 0) x)
          (insert (y ∷ ys) (cond (not (not (before (key y) (key x)))) (1 + n) 0) x)
      go rest true e b f =
          let back : before (key y) (key x) ≡ false =
          subst (λ k. before k (key x) ≡ false) (sym (o.one (key y) (key x) e)) (o.never (key x)) in
          rw (back, e) refl
      go rest false e true f = rw (not-back o (key x) (key y) f, e) refl
      go rest false e false f = rw (o.total (key x) (key y) e f, one-add n, rest)
          (cons-cond (passes_there has (slice_get ys n)) y (set ys n x) (insert ys n x))

  -- put at the place that was found in the same list for the same key
  pub put-found : (x : X) (xs ys zs : List X) (k : K) (i : ℕ) (b there : Bool) (after : List X) → k ≡ key x →
      ys ≡ xs → zs ≡ xs → i ≡ position_or_len (is_from before key k) ys →
      there ≡ passes_there (has_key same key k) (slice_get zs i) → there ≡ b →
      after ≡ cond b (set xs i x) (insert xs i x) → after ≡ put_by same before key x xs
  put-found x xs ys zs k i b there after own first second place test is made =
      made ∙ rw (has, at) (sym (put-place x xs))
    where
      at : i ≡ position_or_len (is_from before key (key x)) xs
      at =
          place ∙ ap (λ j. position_or_len (is_from before key j) ys) own
          ∙ ap (position_or_len (is_from before key (key x))) first

      has : b ≡ passes_there (has_key same key (key x)) (slice_get xs i)
      has =
          sym is ∙ test ∙ ap (λ j. passes_there (has_key same key j) (slice_get zs i)) own
          ∙ ap (λ ws. passes_there (has_key same key (key x)) (slice_get ws i)) second

  pub put_rises : (x : X) (xs : List X) → KeysRise before key xs → KeysRise before key (put_by same before key x xs)
  put_rises x xs rises =
      rise-pairs (λ y z. IsTrue (before (key y) (key z))) (put_by same before key x xs)
      (rise-put o key (λ y z. IsTrue (before (key y) (key z))) (λ y z e. e) (λ y z e. e) x xs
      (pairs-rise (λ y z. IsTrue (before (key y) (key z))) xs rises))

  -- an item of a new key stands before the later ones
  pub new-inserted : (x : X) (xs : List X) (n : ℕ) → n ≡ position_or_len (is_from before key (key x)) xs →
      find (has_key same key (key x)) xs ≡ None → insert xs n x ≡ put_by same before key x xs
  new-inserted x xs n place none =
      rw (put-place x xs, ← place, unheld (has_key same key (key x)) xs n none) refl
