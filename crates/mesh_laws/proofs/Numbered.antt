-- The nodes of a topology are listed by number.
use Rattle.std.proofs.Common.{◌≡◌, ◌<◌, ◌-◌, ℕ, zero, suc, true, false, cond, nat_eq, nat_lt, List, [], ◌∷◌, length, refl, ap, ◌∙◌, subst, arith}
use Rattle.std.specs.Prelude.{slice_get}
use Rattle.ason_base.specs.{declared.network.NodeSpec.NodeSpec, Network.{IsTopology, Network, node_number}}

-- each has a greater number than the one before
abbrev pub NodeIdsRise : ℕ → List NodeSpec → Type 0
NodeIdsRise n [] = Unit {0}
NodeIdsRise n (m ∷ ms) = (n < m.id.0) × NodeIdsRise m.id.0 ms

abbrev before : ℕ → List NodeSpec → ℕ → ℕ
before n nodes zero = n
before n nodes (suc k) = node_number (slice_get nodes k)

rises-from : (n : ℕ) (nodes : List NodeSpec) →
    ((k : ℕ) → k < length nodes → before n nodes k < node_number (slice_get nodes k)) → NodeIdsRise n nodes
rises-from n [] each = tt
rises-from n (m ∷ ms) each = (each 0 (omega arith), rises-from m.id.0 ms (λ k below. go k below))
  where
    inside : (k : ℕ) → k < length ms → suc k < suc (length ms)
    inside k below = omega arith

    go : (k : ℕ) → k < length ms → before m.id.0 ms k < node_number (slice_get ms k)
    go zero below = each 1 (inside 0 below)
    go (suc k) below = each (suc (suc k)) (inside (suc k) below)

at_start : (nodes : List NodeSpec) (k : ℕ) →
    cond (nat_eq k 0) 0 (node_number (slice_get nodes (k - 1))) ≡ before 0 nodes k
at_start nodes zero = refl
at_start nodes (suc k) =
    let less : suc k - 1 ≡ k = omega arith in
    let past : nat_eq (suc k) 0 ≡ false = grind arith in
    ap (λ b. cond b 0 (node_number (slice_get nodes (suc k - 1)))) past ∙ ap (λ j. node_number (slice_get nodes j)) less

pub rises : (t : Network) → IsTopology t → NodeIdsRise 0 t.nodes
rises t is =
    rises-from 0 t.nodes (λ k below. subst (λ j. j < node_number (slice_get t.nodes k)) (at_start t.nodes k)
    (less _ _ (is.nodes k below)))
  where
    less : (a b : ℕ) → nat_lt a b ≡ true → a < b
    less a b h = grind arith
