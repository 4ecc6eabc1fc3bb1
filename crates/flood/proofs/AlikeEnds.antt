-- The ends that are kept in order are as many as those of the rows, and the same ones.
use Rattle.std.proofs.{Common.{◌≡◌, ℕ, ◌+◌, ◌==◌, ◌||◌, Bool, true, false, cond, List, [], ◌∷◌, ◌++◌, length, sym, ap, ◌∙◌, subst}, lemmas.List.length-append, lemmas.List.Folds.list_any-append, Math.Bool.or-false}
use Rattle.std.specs.{List.list_any, List.Sorted.IsNonDecreasing}
use Rattle.ason_base.specs.declared.network.TeRow.{TeRow}
use Rattle.flood.specs.State.{AreAlike, IsIndexed, ends_in_rows, is_known, with_end, with_ends}
use Rattle.flood.proofs.{DifferentEnds.with_end_has, KnownRows.fold_last}

alike-with_end : (xs ys : List ℕ) (n : ℕ) → AreAlike xs ys → AreAlike (with_end xs n) (with_end ys n)
alike-with_end xs ys n h = record {
  count = subst (λ b. length (cond b xs (xs ++ n ∷ [])) ≡ length (with_end ys n)) (sym (h.has n))
      (by_test (list_any (λ m. m == n) ys));
  has = λ m. with_end_has xs n m ∙ ap (λ b. b || (n == m)) (h.has m) ∙ sym (with_end_has ys n m);
}
  where
    by_test : (b : Bool) → length (cond b xs (xs ++ n ∷ [])) ≡ length (cond b ys (ys ++ n ∷ []))
    by_test true = h.count
    by_test false = length-append xs (n ∷ []) ∙ ap (λ (k : ℕ). k + 1) h.count ∙ sym (length-append ys (n ∷ []))

alike-with_ends : (xs ys : List ℕ) (row : TeRow) → AreAlike xs ys → AreAlike (with_ends xs row) (with_ends ys row)
alike-with_ends xs ys row h =
    alike-with_end (with_end xs row.low.0) (with_end ys row.low.0) row.high.0 (alike-with_end xs ys row.low.0 h)

alike-more : (xs ys zs : List ℕ) → AreAlike xs ys → AreAlike ys zs → AreAlike xs zs
alike-more xs ys zs h more = record { count = h.count ∙ more.count; has = λ n. h.has n ∙ more.has n }

-- numbers into which one more was put, if it wasn't there
abbrev pub IsPutIn : List ℕ → ℕ → List ℕ → Type 0
IsPutIn xs n ys =
    ((m : ℕ) → list_any (λ k. k == m) ys ≡ (list_any (λ k. k == m) xs || (n == m)))
    × (length ys ≡ length (with_end xs n))

put_in : (xs ys : List ℕ) (n : ℕ) → IsPutIn xs n ys → AreAlike ys (with_end xs n)
put_in xs ys n put = record { count = put.1; has = λ m. put.0 m ∙ sym (with_end_has xs n m) }

-- both ends of a row are put in
pub both_put_in : (xs ys zs : List ℕ) (row : TeRow) → IsPutIn xs row.low.0 ys → IsPutIn ys row.high.0 zs →
    AreAlike zs (with_ends xs row)
both_put_in xs ys zs row low high =
    alike-more zs (with_end ys row.high.0) (with_ends xs row) (put_in ys zs row.high.0 high)
    (alike-with_end ys (with_end xs row.low.0) row.high.0 (put_in xs ys row.low.0 low))

-- one row more
pub indexed_more : (rows : List TeRow) (row : TeRow) (numbers more nodes others : List ℕ) →
    IsIndexed rows numbers nodes → IsNonDecreasing more →
    ((n : ℕ) → list_any (λ m. m == n) more ≡ (list_any (λ m. m == n) numbers || (row.link.0 == n))) →
    IsNonDecreasing others → AreAlike others (with_ends nodes row) → IsIndexed (rows ++ row ∷ []) more others
indexed_more rows row numbers more nodes others i rising has in_order alike = record {
  rising = rising;
  links = λ n. has n ∙ ap (λ b. b || (row.link.0 == n)) (i.links n) ∙ sym (known_more n);
  in_order = in_order;
  ends = alike-more others (with_ends nodes row) (ends_in_rows (rows ++ row ∷ [])) alike
      (subst (AreAlike (with_ends nodes row)) (sym (fold_last rows row []))
      (alike-with_ends nodes (ends_in_rows rows) row i.ends));
}
  where
    known_more : (n : ℕ) → is_known (rows ++ row ∷ []) (record { 0 = n }) ≡
        (is_known rows (record { 0 = n }) || (row.link.0 == n))
    known_more n = list_any-append (λ (r : TeRow). r.link.0 == n) rows (row ∷ []) ∙
        ap (λ b. is_known rows (record { 0 = n }) || b) (or-false (row.link.0 == n))
