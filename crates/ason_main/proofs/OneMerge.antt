-- Logs and posts have one merge.
use Rattle.std.proofs.Common.{◌≡◌, ◌⊎◌, ℕ, Bool, true, false, cond, List, [], ◌∷◌, filter, inl, inr, refl, sym, ap, ◌∙◌, subst, arith}
use Rattle.std.specs.{Prelude.{Option, None, Some}, List.AllByRecursion}
use Rattle.ason_base.specs.{declared.ids.NodeId.NodeId, declared.commands.Entry.Entry}
use Rattle.ason_base.proofs.Numbers.{self-number}
use Rattle.world_merge.specs.Orders.{IsBefore, IsMerge, IsSorted, is_of, is_post, order_place}

-- Whose a line is

-- a line of this node, or a post
abbrev is_like : Option NodeId → Entry → Bool
is_like None e = is_post e
is_like (Some n) e = is_of n.0 e

-- the lists have the same lines of each node and the same posts
abbrev HaveSame : List Entry → List Entry → Type 0
HaveSame xs ys = (o : Option NodeId) → filter (is_like o) xs ≡ filter (is_like o) ys

like_node : (o : Option NodeId) (e : Entry) → e.node ≡ o → is_like o e ≡ true
like_node None e is = rw is refl
like_node (Some n) e is = rw is (self-number n.0)

same_place : (o p : Option NodeId) → order_place o ≡ order_place p → o ≡ p
same_place None None is = refl
same_place None (Some n) is = absurd (omega (arith, is))
same_place (Some m) None is = absurd (omega (arith, is))
same_place (Some m) (Some n) is =
    let number : m.0 ≡ n.0 = omega (arith, is) in ap (λ k. Some (record { 0 = k })) number

-- First lines

-- what is first of those that pass is among all, so at the head or after it
first_passes : (T : Entry → Bool) (P : Entry → Type 0) (e : Entry) (others ys : List Entry) →
    filter T ys ≡ e ∷ others → AllByRecursion P ys → P e
first_passes T P e others [] is all = absurd (cc (is))
first_passes T P e others (y ∷ ys) is all = go (T y) (λ same. first_passes T P e others ys same all.1) is
  where
    go : (b : Bool) → (filter T ys ≡ e ∷ others → P e) → cond b (y ∷ filter T ys) (filter T ys) ≡ e ∷ others → P e
    go true later same = let first : y ≡ e = cc (same) in subst P first all.0
    go false later same = later same

passed : (T : Entry → Bool) (x : Entry) (xs : List Entry) (b : Bool) → T x ≡ b →
    filter T (x ∷ xs) ≡ cond b (x ∷ filter T xs) (filter T xs)
passed T x xs b is = ap (λ c. cond c (x ∷ filter T xs) (filter T xs)) is

-- the heads are one line, or that of the second list comes before that of the first
head_or_before : (x y : Entry) (xs ys : List Entry) → HaveSame (x ∷ xs) (y ∷ ys) → IsSorted (y ∷ ys) →
    (x ≡ y) ⊎ ((is_like x.node y ≡ false) × IsBefore y x)
head_or_before x y xs ys same sorted = go (is_like x.node y) refl
  where
    begins : filter (is_like x.node) (y ∷ ys) ≡ x ∷ filter (is_like x.node) xs
    begins = sym (same x.node) ∙ passed (is_like x.node) x xs true (like_node x.node x refl)

    go : (b : Bool) → is_like x.node y ≡ b → (x ≡ y) ⊎ ((is_like x.node y ≡ false) × IsBefore y x)
    go true is =
        let heads : y ∷ filter (is_like x.node) ys ≡ x ∷ filter (is_like x.node) xs =
        sym (passed (is_like x.node) y ys true is) ∙ begins in
        inl (cc (heads))
    go false is = inr (
      is,
      first_passes (is_like x.node) (IsBefore y) x (filter (is_like x.node) xs) ys
          (sym (passed (is_like x.node) y ys false is) ∙ begins) sorted.0,
    )

not_both : (x y : Entry) → IsBefore y x → IsBefore x y → is_like x.node y ≡ false → ⊥
not_both x y (inl less) (inl more) apart = absurd (omega (arith, less, more))
not_both x y (inl less) (inr same) apart = absurd (omega (arith, less, same.0))
not_both x y (inr same) (inl more) apart = absurd (omega (arith, same.0, more))
not_both x y (inr same) (inr back) apart =
    let place : order_place y.node ≡ order_place x.node = omega (arith, same.1, back.1) in
    let like = like_node x.node y (same_place y.node x.node place) in
    absurd (cc (like, apart))

one_head : (x y : Entry) (xs ys : List Entry) → HaveSame (x ∷ xs) (y ∷ ys) → IsSorted (x ∷ xs) → IsSorted (y ∷ ys) →
    x ≡ y
one_head x y xs ys same first second =
    go (head_or_before x y xs ys same second) (head_or_before y x ys xs (λ o. sym (same o)) first)
  where
    go : (x ≡ y) ⊎ ((is_like x.node y ≡ false) × IsBefore y x) →
        (y ≡ x) ⊎ ((is_like y.node x ≡ false) × IsBefore x y) → x ≡ y
    go (inl is) other = is
    go (inr before) (inl is) = sym is
    go (inr before) (inr after) = absurd (not_both x y before.1 after.1 before.0)

-- Later lines

later_same : (x : Entry) (xs ys : List Entry) → HaveSame (x ∷ xs) (x ∷ ys) → HaveSame xs ys
later_same x xs ys same o = go (is_like o x) (same o)
  where
    go : (b : Bool) → cond b (x ∷ filter (is_like o) xs) (filter (is_like o) xs)
        ≡ cond b (x ∷ filter (is_like o) ys) (filter (is_like o) ys) →
        filter (is_like o) xs ≡ filter (is_like o) ys
    go true is = cc (is)
    go false is = is

none_left : (x : Entry) (xs : List Entry) → HaveSame [] (x ∷ xs) → ⊥
none_left x xs same =
    let some : [] ≡ x ∷ filter (is_like x.node) xs =
    same x.node ∙ passed (is_like x.node) x xs true (like_node x.node x refl) in
    absurd (cc (some))

one_sorted : (xs ys : List Entry) → HaveSame xs ys → IsSorted xs → IsSorted ys → xs ≡ ys
one_sorted [] [] same first second = refl
one_sorted [] (y ∷ ys) same first second = absurd (none_left y ys same)
one_sorted (x ∷ xs) [] same first second = absurd (none_left x xs (λ o. sym (same o)))
one_sorted (x ∷ xs) (y ∷ ys) same first second =
    let head : x ≡ y = one_head x y xs ys same first second in
    let rest : HaveSame xs ys = later_same x xs ys (subst (λ z. HaveSame (x ∷ xs) (z ∷ ys)) (sym head) same) in
    let others : xs ≡ ys = one_sorted xs ys rest first.1 second.1 in
    λ i. head i ∷ others i

-- two merges of the same logs and posts are one list
pub one_merge : (logs : ℕ → List Entry) (posts xs ys : List Entry) → IsMerge logs posts xs → IsMerge logs posts ys →
    xs ≡ ys
one_merge logs posts xs ys first second = one_sorted xs ys same first.sorted second.sorted
  where
    same : HaveSame xs ys
    same None = first.all_posts ∙ sym second.all_posts
    same (Some n) = first.each_log n.0 ∙ sym (second.each_log n.0)
