-- Rising numbers.
use Rattle.std.proofs.Common.{◌≡◌, ℕ, ◌<◌, ◌≤◌, ◌↔◌, List, length, ap, arith, Contains}
use Rattle.std.specs.{Prelude.nat_lt, List.Sorted.IsStrictlyIncreasing}
use Rattle.ason_base.specs.declared.limits.TheConstants.{MOST_SRLGS}
use Rattle.ason_base.proofs.{Ordered.rising_once, RisingNumbers.{nat_order, rises}}
use Rattle.wire_buf.specs.Objects.{numbers}
use Rattle.te_tlv.specs.Rows.{AreSrlgs}

-- two rising lists with the same members are the same
pub same_rising : (xs ys : List ℕ) → IsStrictlyIncreasing xs → IsStrictlyIncreasing ys →
    ((n : ℕ) → Contains xs n → Contains ys n) → ((n : ℕ) → Contains ys n → Contains xs n) → xs ≡ ys
same_rising xs ys p q to from = rising_once nat_lt nat_order xs ys (rises xs p) (rises ys q) to from

-- a value has one list of SRLGs at most
pub srlgs_once : (value s t : List ℕ) → AreSrlgs value s → AreSrlgs value t → s ≡ t
srlgs_once value s t p q =
    same_rising s t p.rising q.rising (λ n there. (q.same n).1 ((p.same n).0 there))
    (λ n there. (p.same n).1 ((q.same n).0 there))

pub too_many : (value ns s : List ℕ) → IsStrictlyIncreasing ns →
    ((n : ℕ) → Contains ns n ↔ Contains (numbers value) n) →
    MOST_SRLGS < length ns → AreSrlgs value s → ⊥
too_many value ns s rising same many are =
    let all : ns ≡ s =
    same_rising ns s rising are.rising (λ n there. (are.same n).1 ((same n).0 there))
    (λ n there. (same n).1 ((are.same n).0 there)) in
    let most : length s ≤ MOST_SRLGS = are.most in
    omega (arith, ap length all)
