-- What the checks of bounds find is what the certificate says.
use Rattle.std.proofs.{Common.{◌≡◌, ◌≤◌, ℕ, Bool, true, false, ◌+◌, List, refl, ap, subst, arith, inl, inr, Contains}, lemmas.Bool.and_from}
use Rattle.std.specs.{Prelude.{◌&&◌, ◌||◌, not, Option, Some, None}, List.list_all}
use Rattle.ason_base.specs.{Walks.Joins, declared.ids.NodeId.NodeId, declared.network.TeRow.TeRow}
use Rattle.ason_base.proofs.Bools.{and-left, and-right}
use Rattle.pair_search.proofs.Tests.{all-at, at-all}
use Rattle.pair_search.specs.{Certificates.{AreBounds, IsEnough, IsFar, bound_at}, Checks.{is_enough, is_far, is_row_within, is_within, is_zero}}

-- Leaves

pub far-is : (total b : Option ℕ) (cost : ℕ) → is_far total b cost ≡ true → IsFar total b cost
far-is total None cost e = tt
far-is None (Some b) cost e = absurd (cc e)
far-is (Some t) (Some b) cost e = grind arith

pub is-far : (total b : Option ℕ) (cost : ℕ) → IsFar total b cost → is_far total b cost ≡ true
is-far total None cost e = refl
is-far None (Some b) cost e = absurd e
is-far (Some t) (Some b) cost e = grind arith

pub enough-is : (total b : Option ℕ) (cost : ℕ) → is_enough total b cost ≡ true → IsEnough total b cost
enough-is total None cost e = tt
enough-is None (Some b) cost e = absurd (cc e)
enough-is (Some t) (Some b) cost e = grind arith

pub is-enough : (total b : Option ℕ) (cost : ℕ) → IsEnough total b cost → is_enough total b cost ≡ true
is-enough total None cost e = refl
is-enough None (Some b) cost e = absurd e
is-enough (Some t) (Some b) cost e = grind arith

-- Bounds

within-is : (a b : Option ℕ) (m q : ℕ) → is_within a b m ≡ true → b ≡ Some q → (p : ℕ) × (a ≡ Some p) × (p ≤ q + m)
within-is a None m q e is = absurd (cc is)
within-is None (Some b) m q e is = absurd (cc e)
within-is (Some a) (Some b) m q e is =
    (a, refl, (let same : b ≡ q = cc is in let small : a ≤ b + m = grind arith in omega (arith, small, same)))

is-within : (a b : Option ℕ) (m : ℕ) → ((q : ℕ) → b ≡ Some q → (p : ℕ) × (a ≡ Some p) × (p ≤ q + m)) →
    is_within a b m ≡ true
is-within a None m each = refl
is-within a (Some b) m each = (let (p, is, small) = each b refl in rw is (grind arith))

zero-is : (b : Option ℕ) → is_zero b ≡ true → b ≡ Some 0
zero-is None e = absurd (cc e)
zero-is (Some n) e = ap Some (let none : n ≡ 0 = grind arith in none)

module _ (rows : List TeRow) (may : TeRow → Bool) (May : TeRow → Type 0)
    (to-may : (row : TeRow) → Contains rows row → may row ≡ true → May row)
    (from-may : (row : TeRow) → Contains rows row → May row → may row ≡ true) (to : NodeId)
    (bounds : List (NodeId × ℕ)) where
  abbrev checked : Bool
  checked = is_zero (bound_at bounds to) && list_all (λ row. not (may row) || is_row_within bounds row) rows

  row-checked : checked ≡ true → (row : TeRow) → Contains rows row → May row → is_row_within bounds row ≡ true
  row-checked e row there m =
      let one = all-at (λ r. not (may r) || is_row_within bounds r) rows
      (and-right (is_zero (bound_at bounds to)) _ e)
      row there in
      go (may row) (from-may row there m) one
    where
      go : (b : Bool) → b ≡ true → (not b || is_row_within bounds row) ≡ true → is_row_within bounds row ≡ true
      go true p e = e
      go false p e = absurd (cc p)

  pub bounds-are : checked ≡ true → AreBounds rows May to bounds
  bounds-are e = record {
    zero = zero-is (bound_at bounds to) (and-left (is_zero (bound_at bounds to)) _ e);
    rises = λ a b row q there m joins is. rise a b row q (row-checked e row there m) joins is;
  }
    where
      rise : (a b : NodeId) (row : TeRow) (q : ℕ) → is_row_within bounds row ≡ true → Joins row a b →
          bound_at bounds b ≡ Some q → (p : ℕ) × (bound_at bounds a ≡ Some p) × (p ≤ q + row.metric)
      rise a b row q e (inl j) is =
          within-is (bound_at bounds a) (bound_at bounds b) row.metric q
          (subst (λ n. is_within (bound_at bounds n) (bound_at bounds b) row.metric ≡ true) j.0
          (subst (λ n. is_within (bound_at bounds row.low) (bound_at bounds n) row.metric ≡ true) j.1
          (and-left (is_within (bound_at bounds row.low) (bound_at bounds row.high) row.metric) _ e))) is
      rise a b row q e (inr j) is =
          within-is (bound_at bounds a) (bound_at bounds b) row.metric q
          (subst (λ n. is_within (bound_at bounds n) (bound_at bounds b) row.metric ≡ true) j.0
          (subst (λ n. is_within (bound_at bounds row.high) (bound_at bounds n) row.metric ≡ true) j.1
          (and-right (is_within (bound_at bounds row.low) (bound_at bounds row.high) row.metric) _ e))) is

  pub are-bounds : AreBounds rows May to bounds → checked ≡ true
  are-bounds are =
      and_from (is_zero (bound_at bounds to)) _ (rw are.zero refl)
      (at-all (λ r. not (may r) || is_row_within bounds r) rows (λ row there. go row there (may row) refl))
    where
      go : (row : TeRow) → Contains rows row → (b : Bool) → may row ≡ b → (not b || is_row_within bounds row) ≡ true
      go row there false p = refl
      go row there true p =
          let m = to-may row there p in
          and_from (is_within (bound_at bounds row.low) (bound_at bounds row.high) row.metric) _
          (is-within (bound_at bounds row.low) (bound_at bounds row.high) row.metric
          (λ q is. are.rises row.low row.high row q there m (inl (refl, refl)) is))
          (is-within (bound_at bounds row.high) (bound_at bounds row.low) row.metric
          (λ q is. are.rises row.high row.low row q there m (inr (refl, refl)) is))
