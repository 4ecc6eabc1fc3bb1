-- Rising numbers.
use Rattle.std.proofs.{Common.{◌≡◌, ◌↔◌, ℕ, ◌<◌, List, get_or, eqb, arith, Contains}, lemmas.List.Sorted.{Contains-permutation, IsPermutation-sym}, lemmas.List.Kept.{AllPairs-from_increasing, Contains-dedup_nat, Contains-from_dedup}}
use Rattle.std.specs.{Prelude.nat_lt, List.dedup, List.Sorted.{IsPermutation, IsStrictlyIncreasing}}
use Rattle.ason_base.specs.InOrder.{in_order}
use Rattle.ason_base.proofs.{Ordered.{IsOrder, Rises, in_order-is}, Numbers.neither-less}

pub nat_order : IsOrder nat_lt
nat_order = record {
  irreflexive = λ x h. absurd (grind arith);
  transitive = λ x y z h k. grind arith;
  total = neither-less;
}

pub rises : (xs : List ℕ) → IsStrictlyIncreasing xs → Rises nat_lt xs
rises xs rising = record {
  pairs = λ i j d before within. let less : get_or xs i d < get_or xs j d =
      AllPairs-from_increasing xs rising i j d before within in grind arith;
}

pub numbers_in_order : (xs ys : List ℕ) → IsStrictlyIncreasing ys → ((n : ℕ) → Contains ys n ↔ Contains xs n) →
    ys ≡ in_order nat_lt xs
numbers_in_order xs ys rising same = in_order-is nat_lt nat_order xs ys (rises ys rising) same

-- what is left of numbers after a sort and a `dedup`
pub sorted_same : (xs ys : List ℕ) (n : ℕ) → IsPermutation xs ys → Contains (dedup eqb ys) n ↔ Contains xs n
sorted_same xs ys n moved = (
  (λ there. Contains-permutation ys xs n (IsPermutation-sym xs ys moved) (Contains-from_dedup eqb ys n there)),
  (λ there. Contains-dedup_nat ys n (Contains-permutation xs ys n moved there)),
)
