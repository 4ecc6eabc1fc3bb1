-- A parcel more at the end of a list of parcels.
use Rattle.std.proofs.Common.{◌≤◌, ◌+◌, ℕ, List, [], ◌∷◌, ◌++◌, sym, subst, arith, append-nil, append_assoc}
use Rattle.std.specs.List.{AllByRecursion}
use Rattle.station_rings.specs.{declared.parcel.Parcel.Parcel, Protocols.{AreInOrder, FollowsParcels}}

-- What waits in order still does with one more that follows all.
pub in_order-then : (before xs : List Parcel) (x : Parcel) → AreInOrder before xs → FollowsParcels (before ++ xs) x →
    AreInOrder before (xs ++ x ∷ [])
in_order-then before [] x all follows = (subst (λ ys. FollowsParcels ys x) (append-nil before) follows, tt)
in_order-then before (y ∷ xs) x all follows = (
  all.0,
  in_order-then (before ++ y ∷ []) xs x all.1
      (subst (λ ys. FollowsParcels ys x) (sym (append_assoc before (y ∷ []) xs)) follows),
)

-- Numbers up to k are up to k + 1.
pub numbers-below : (k : ℕ) (ps : List Parcel) → AllByRecursion (λ (p : Parcel). p.number ≤ k) ps →
    AllByRecursion (λ (p : Parcel). p.number ≤ k + 1) ps
numbers-below k [] all = tt
numbers-below k (p ∷ ps) all = (omega (arith, all.0), numbers-below k ps all.1)

-- What holds of all and of one more holds of all with it.
pub all-then : (P : Parcel → Type 0) (ps : List Parcel) (p : Parcel) → AllByRecursion P ps → P p →
    AllByRecursion P (ps ++ p ∷ [])
all-then P [] p all holds = (holds, tt)
all-then P (q ∷ ps) p all holds = (all.0, all-then P ps p all.1 holds)
