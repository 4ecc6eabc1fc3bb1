-- What is taken of one ring, and of the rings up to one.
use Rattle.std.proofs.{Common.{◌≡◌, ◌≤◌, ◌+◌, ℕ, zero, suc, List, [], ◌∷◌, ◌++◌, length, refl, sym, ap, ◌∙◌, subst, arith, append-nil}, lemmas.List.length-append, lemmas.Option.same_Some}
use Rattle.std.specs.{Prelude.{slice_get, Some}, List.AllZip}
use Rattle.rtrb.specs.Ring.{known_items}
use Rattle.ason_base.specs.declared.ids.NodeId.{NodeId}
use Rattle.station_rings.specs.{declared.parcel.Parcel.Parcel, LinkStates.{IsFetched, LinkState}}
use Rattle.round_rules.specs.Moves.{HasMoved, IsChangedAt, IsDrained, TakesAt}
use Rattle.round_rules.proofs.{Draining.{drained-all, drained-empty, drained-on, drained-then}, Moving.{moved-fetched, moved-none, moved-then}, Places.{AllMoved, all-moved-then}}
use Rattle.station.specs.{Rings.{HasTakenAt, IsDrainedAt}, Sending.IsEmptyAt}

-- One ring

-- so many frames were taken at this place
pub record IsMovedBy (place count : ℕ) (links after : List LinkState) : Type 0 where
  pub old : LinkState
  pub new : LinkState
  pub was : slice_get links place ≡ Some old
  pub is : slice_get after place ≡ Some new
  pub moved : HasMoved old new
  pub many : length moved.takes ≡ count

pub moved-start : (place : ℕ) (links : List LinkState) (l : LinkState) → slice_get links place ≡ Some l →
    IsMovedBy place 0 links links
moved-start place links l at =
    let m = moved-none l in
    record { old = l; new = l; was = at; is = at; moved = m.0; many = ap length m.1 }

record At (R : LinkState → LinkState → Type 0) (place : ℕ) (l : LinkState) (after : List LinkState) : Type 0 where
  new : LinkState
  is : slice_get after place ≡ Some new
  on : R l new

at_changed : (R : LinkState → LinkState → Type 0) (place : ℕ) (links after : List LinkState) (l : LinkState) →
    IsChangedAt R place links after → slice_get links place ≡ Some l → At R place l after
at_changed R place [] after l is at = absurd is
at_changed R place (k ∷ links) [] l is at = absurd is
at_changed R zero (k ∷ links) (m ∷ after) l is at =
    let same = same_Some k l at in record { new = m; is = refl; on = subst (λ x. R x m) same is.0 }
at_changed R (suc place) (k ∷ links) (m ∷ after) l is at =
    let f = at_changed R place links after l is.1 at in record { new = f.new; is = f.is; on = f.on }

abbrev Takes : Parcel → LinkState → LinkState → Type 0
Takes q l m = (moved : HasMoved l m) × (moved.takes ≡ q ∷ [])

at_takes : (u : NodeId) (q : Parcel) (place : ℕ) (links after : List LinkState) (l : LinkState) →
    TakesAt u q place links after → slice_get links place ≡ Some l → At (Takes q) place l after
at_takes u q place [] after l is at = absurd is
at_takes u q place (k ∷ links) [] l is at = absurd is
at_takes u q zero (k ∷ links) (m ∷ after) l is at =
    let same = same_Some k l at in
    record { new = m; is = refl; on = subst (λ x. Takes q x m) same (is.0.0, is.0.1) }
at_takes u q (suc place) (k ∷ links) (m ∷ after) l is at =
    let f = at_takes u q place links after l is.1 at in record { new = f.new; is = f.is; on = f.on }

-- a frame came out of the ring
pub moved-fetch : (place count : ℕ) (xs ys zs : List LinkState) → IsMovedBy place count xs ys →
    IsChangedAt IsFetched place ys zs → IsMovedBy place count xs zs
moved-fetch place count xs ys zs a b =
    let f = at_changed IsFetched place ys zs a.new b a.is in
    let m = moved-fetched a.new f.new f.on in
    record {
      old = a.old;
      new = f.new;
      was = a.was;
      is = f.is;
      moved = moved-then a.old a.new f.new a.moved m.0;
      many = ap (λ ts. length (a.moved.takes ++ ts)) m.1 ∙ ap length (append-nil a.moved.takes) ∙ a.many;
    }

-- a frame was taken
pub moved-take : (place count : ℕ) (xs ys zs : List LinkState) → IsMovedBy place count xs ys →
    HasTakenAt place ys zs → IsMovedBy place (count + 1) xs zs
moved-take place count xs ys zs a b =
    let f = at_takes b.from b.parcel place ys zs a.new b.takes a.is in
    record {
      old = a.old;
      new = f.new;
      was = a.was;
      is = f.is;
      moved = moved-then a.old a.new f.new a.moved f.on.0;
      many =
          ap (λ ts. length (a.moved.takes ++ ts)) f.on.1 ∙ length-append a.moved.takes (b.parcel ∷ [])
          ∙ ap (λ k. k + 1) a.many;
    }

-- none is known to stand there
pub drained-none : (place count : ℕ) (xs ys : List LinkState) → IsMovedBy place count xs ys → IsEmptyAt place ys →
    IsDrainedAt place xs ys
drained-none place count xs ys a b =
    let same = same_Some a.new b.link (sym a.is ∙ b.there) in
    record {
      old = a.old;
      new = a.new;
      was = a.was;
      is = a.is;
      drained =
          drained-empty a.old a.new a.moved (ap (λ (l : LinkState). l.early) same ∙ b.early)
          (ap (λ (l : LinkState). known_items l.into) same ∙ b.known);
    }

less : (k a b c : ℕ) {l : ℕ} → k ≡ a + b → a + b ≤ c → l ≡ c → k ≤ l
less k a b c e f g = omega (arith, e, f, g)

-- as many were taken as were known
pub drained-many : (place count : ℕ) (xs ys : List LinkState) → IsMovedBy place count xs ys →
    ((l : LinkState) → slice_get xs place ≡ Some l → length l.early + length (known_items l.into) ≤ count) →
    IsDrainedAt place xs ys
drained-many place count xs ys a few = record {
  old = a.old;
  new = a.new;
  was = a.was;
  is = a.is;
  drained =
      drained-all a.old a.new a.moved
      (less _ _ _ count (length-append a.old.early (known_items a.old.into)) (few a.old a.was) a.many);
}

-- Rings up to one

-- those before the place are drained
abbrev pub DrainedBelow : ℕ → List LinkState → List LinkState → Type 0
DrainedBelow zero links after = AllMoved links after
DrainedBelow (suc i) [] [] = Unit {0}
DrainedBelow (suc i) [] (m ∷ after) = ⊥
DrainedBelow (suc i) (l ∷ links) [] = ⊥
DrainedBelow (suc i) (l ∷ links) (m ∷ after) = IsDrained l m × DrainedBelow i links after

pub drained-next : (i : ℕ) (xs ys zs : List LinkState) → DrainedBelow i xs ys → AllMoved ys zs →
    IsDrainedAt i ys zs → DrainedBelow (suc i) xs zs
drained-next zero [] [] [] a b d = tt
drained-next zero [] [] (z ∷ zs) a b d = absurd b
drained-next zero [] (y ∷ ys) zs a b d = absurd a
drained-next zero (x ∷ xs) [] zs a b d = absurd a
drained-next zero (x ∷ xs) (y ∷ ys) [] a b d = absurd b
drained-next zero (x ∷ xs) (y ∷ ys) (z ∷ zs) a b d =
    let old = same_Some y d.old d.was in
    let new = same_Some z d.new d.is in
    let drained : IsDrained y z =
    subst (λ k. IsDrained k z) (sym old) (subst (IsDrained d.old) (sym new) d.drained) in
    (drained-then x y z a.0 drained, all-moved-then xs ys zs a.1 b.1)
drained-next (suc i) [] [] [] a b d = tt
drained-next (suc i) [] [] (z ∷ zs) a b d = absurd b
drained-next (suc i) [] (y ∷ ys) zs a b d = absurd a
drained-next (suc i) (x ∷ xs) [] zs a b d = absurd a
drained-next (suc i) (x ∷ xs) (y ∷ ys) [] a b d = absurd b
drained-next (suc i) (x ∷ xs) (y ∷ ys) (z ∷ zs) a b d = (
  drained-on x y z a.0 b.0,
  drained-next i xs ys zs a.1 b.1
      (record { old = d.old; new = d.new; was = d.was; is = d.is; drained = d.drained }),
)

none_less : (k : ℕ) → suc k ≤ 0 → ⊥
none_less k h = omega (arith, h)

one_less : (k i : ℕ) → suc k ≤ suc i → k ≤ i
one_less k i h = omega (arith, h)

-- all are
pub drained-each : (i : ℕ) (xs ys : List LinkState) → length xs ≤ i → DrainedBelow i xs ys → AllZip IsDrained xs ys
drained-each zero [] [] le a = tt
drained-each zero [] (y ∷ ys) le a = absurd a
drained-each zero (x ∷ xs) ys le a = absurd (none_less (length xs) le)
drained-each (suc i) [] [] le a = tt
drained-each (suc i) [] (y ∷ ys) le a = absurd a
drained-each (suc i) (x ∷ xs) [] le a = absurd a
drained-each (suc i) (x ∷ xs) (y ∷ ys) le a = (a.0, drained-each i xs ys (one_less (length xs) i le) a.1)
