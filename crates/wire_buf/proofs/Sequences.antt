-- Reading items one after the other.
use Rattle.std.proofs.{Common.{◌≡◌, ℕ, ◌<◌, ◌≤◌, ◌==◌, Bool, true, false, List, [], ◌∷◌, ◌++◌, length, map, drop, refl, ap, sym, subst, ◌∙◌, arith, append_assoc, length-drop}, lemmas.List.append-nil}
use Rattle.std.specs.List.{AllByRecursion}
use Rattle.wire_buf.specs.Sequences.{AreItems}

-- bytes begin with one item at most, which takes some of them
pub record BeginsOnce {X : Type 0} (Begins : List ℕ → X → Type 0) (size : X → ℕ) : Type 0 where
  pub same : (bytes : List ℕ) (x y : X) → Begins bytes x → Begins bytes y → x ≡ y
  pub within : (bytes : List ℕ) (x : X) → Begins bytes x → (0 < size x) × (size x ≤ length bytes)

-- the items read so far, and the bytes left
pub record ReadItems {X : Type 0} (Begins : List ℕ → X → Type 0) (size : X → ℕ) (bytes left : List ℕ) (xs : List X)
    : Type 0
  where
    pub found : (others : List X) → AreItems Begins size left others → AreItems Begins size bytes (xs ++ others)
    pub only : (all : List X) → AreItems Begins size bytes all →
        (others : List X) × (all ≡ xs ++ others) × AreItems Begins size left others

shift : {X : Type 0} (xs others : List X) (x : X) → (xs ++ x ∷ []) ++ others ≡ xs ++ x ∷ others
shift xs others x = append_assoc xs (x ∷ []) others

module _ {X : Type 0} {Begins : List ℕ → X → Type 0} {size : X → ℕ} where
  pub begins : (bytes : List ℕ) → ReadItems Begins size bytes bytes []
  begins bytes = record { found = λ others are. are; only = λ all are. (all, refl, are) }

  -- what follows the next item
  pub next : (once : BeginsOnce Begins size) (left : List ℕ) (x : X) (xs all others : List X) → Begins left x →
      all ≡ xs ++ others → AreItems Begins size left others →
      (more : List X) × (all ≡ (xs ++ x ∷ []) ++ more) × AreItems Begins size (drop (size x) left) more
  next once left x xs all [] is e are = absurd (let w = once.within left x is in omega (arith, ap length are, w.0, w.1))
  next once left x xs all (y ∷ ys) is e are =
      let same : y ≡ x = once.same left y x are.0 is in (
        ys,
        e ∙ ap (λ (z : X). xs ++ z ∷ ys) same ∙ sym (shift xs ys x),
        subst (λ (z : X). AreItems Begins size (drop (size z) left) ys) same are.1,
      )

  pub goes_on : (once : BeginsOnce Begins size) (bytes left after : List ℕ) (xs : List X) (x : X) → Begins left x →
      after ≡ drop (size x) left → ReadItems Begins size bytes left xs →
      ReadItems Begins size bytes after (xs ++ x ∷ [])
  goes_on once bytes left after xs x is e so_far =
      subst (λ (l : List ℕ). ReadItems Begins size bytes l (xs ++ x ∷ [])) (sym e) (record {
        found = λ others are.
            subst (AreItems Begins size bytes) (sym (shift xs others x)) (so_far.found (x ∷ others) (is, are));
        only = λ all are. let o = so_far.only all are in next once left x xs all o.0 is o.1 o.2;
      })

  -- where bytes are left that begin with no item, the bytes are no items
  pub stops : (bytes left : List ℕ) (xs : List X) → 0 < length left → ((x : X) → Begins left x → ⊥) →
      ReadItems Begins size bytes left xs → (all : List X) → AreItems Begins size bytes all → ⊥
  stops bytes left xs some none so_far all are = let o = so_far.only all are in no_more o.0 o.2 where
    no_more : (others : List X) → AreItems Begins size left others → ⊥
    no_more [] rest = absurd (omega (arith, ap length rest))
    no_more (y ∷ ys) rest = none y rest.0

  -- where none are left, they are the items read so far
  pub ends : (bytes left : List ℕ) (xs : List X) → left ≡ [] → ReadItems Begins size bytes left xs →
      AreItems Begins size bytes xs
  ends bytes left xs none so_far = subst (AreItems Begins size bytes) (append-nil xs) (so_far.found [] none)

  -- bytes are one list of items at most
  pub same_items : (once : BeginsOnce Begins size) (bytes : List ℕ) (xs ys : List X) → AreItems Begins size bytes xs →
      AreItems Begins size bytes ys → xs ≡ ys
  same_items once bytes [] [] p q = refl
  same_items once bytes [] (y ∷ ys) p q =
      absurd (let w = once.within bytes y q.0 in omega (arith, ap length p, w.0, w.1))
  same_items once bytes (x ∷ xs) [] p q =
      absurd (let w = once.within bytes x p.0 in omega (arith, ap length q, w.0, w.1))
  same_items once bytes (x ∷ xs) (y ∷ ys) p q =
      let same : x ≡ y = once.same bytes x y p.0 q.0 in
      let others : AreItems Begins size (drop (size x) bytes) ys =
      subst (λ (z : X). AreItems Begins size (drop (size z) bytes) ys) (sym same) q.1 in
      let tails : xs ≡ ys = same_items once (drop (size x) bytes) xs ys p.1 others in
      λ i. same i ∷ tails i

  -- no item is longer than all the bytes
  pub all_within : {Y : Type 0} (once : BeginsOnce Begins size) (seen : Y → X) (bytes : List ℕ) (ys : List Y) (most : ℕ)
      →
      AreItems Begins size bytes (map seen ys) → length bytes ≤ most → AllByRecursion (λ y. size (seen y) ≤ most) ys
  all_within once seen bytes [] most are few = tt
  all_within once seen bytes (y ∷ ys) most are few =
      let w = once.within bytes (seen y) are.0 in
      let left : length (drop (size (seen y)) bytes) ≤ most = omega (arith, length-drop (size (seen y)) bytes) in
      (omega (arith, w.1), all_within once seen (drop (size (seen y)) bytes) ys most are.1 left)

-- a cursor's answer to whether bytes are left
pub not_empty : (bytes : List ℕ) (b : Bool) → b ≡ (length bytes == 0) → b ≡ false → 0 < length bytes
not_empty bytes b is test = grind arith

pub is_empty : (bytes : List ℕ) (b : Bool) → b ≡ (length bytes == 0) → b ≡ true → bytes ≡ []
is_empty [] b is test = refl
is_empty (x ∷ bytes) b is test = absurd (grind arith)
