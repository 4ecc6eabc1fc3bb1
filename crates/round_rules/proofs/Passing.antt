-- From one ring to the next.
use Rattle.std.proofs.Common.{◌≡◌, ◌≤◌, inl, inr, ℕ, zero, suc, Bool, false, List, [], ◌∷◌, length, refl, subst, arith}
use Rattle.std.specs.Prelude.{Some, slice_get}
use mathlib.Core.List.{IsPrefix}
use Rattle.round_rules.specs.{Functions.Popped, Moves.IsDrained, Places.{FromPlace, HasPopped, HaveComeOn}, Turned.{HaveComeTo, IsEmptied}}
use Rattle.station_rings.specs.LinkStates.{LinkState}
use Rattle.round_rules.proofs.{Draining.{drained-on, stands, takes-same}, Places.nones, Pops.{no_pops, popped-none}}

emptied : (l m : LinkState) (ps : List Popped) → HasPopped l m ps → IsDrained l m → IsEmptied l m ps
emptied l m ps a d = record {
  drained = (a.moved, subst (IsPrefix (stands l)) (takes-same l m d.0 a.moved) d.1);
  are = a.are;
}

-- a ring of which nothing was taken yet
pub ring-begins : (first : LinkState) (halted : Bool) (i : ℕ) (xs zs : List LinkState) (pops : List (List Popped)) →
    slice_get xs i ≡ Some first → FromPlace (HaveComeOn first halted) i xs zs pops →
    FromPlace (HaveComeTo halted) i xs zs pops
ring-begins first halted i [] zs pops at is = absurd (cc (at))
ring-begins first halted zero (x ∷ xs) [] pops at is = absurd is
ring-begins first halted (suc i) (x ∷ xs) [] pops at is = absurd is
ring-begins first halted zero (x ∷ xs) (z ∷ zs) [] at is = absurd is
ring-begins first halted (suc i) (x ∷ xs) (z ∷ zs) [] at is = absurd is
ring-begins first halted zero (x ∷ xs) (z ∷ zs) (ps ∷ pops) at (inl is) =
    let same : first ≡ x = cc (at) in inl (emptied x z ps is.0 (subst (λ l. IsDrained l z) same is.1), is.2)
ring-begins first halted zero (x ∷ xs) (z ∷ zs) (ps ∷ pops) at (inr is) = inr is
ring-begins first halted (suc i) (x ∷ xs) (z ∷ zs) (ps ∷ pops) at is =
    (is.0, is.1, ring-begins first halted i xs zs pops at is.2)

-- a ring that was emptied
pub ring-ends : (first : LinkState) (halted : Bool) (i : ℕ) (ys zs : List LinkState) (pops : List (List Popped))
    (y : LinkState) → slice_get ys i ≡ Some y → IsDrained first y →
    FromPlace (HaveComeTo halted) (suc i) ys zs pops → FromPlace (HaveComeOn first halted) i ys zs pops
ring-ends first halted i [] zs pops y at d is = absurd (cc (at))
ring-ends first halted i (x ∷ ys) [] pops y at d is = absurd is
ring-ends first halted i (x ∷ ys) (z ∷ zs) [] y at d is = absurd is
ring-ends first halted zero (x ∷ ys) (z ∷ zs) (ps ∷ pops) y at d is =
    let same : y ≡ x = cc (at) in
    inl (
      popped-none x z ps is.0 is.1,
      drained-on first x z (subst (IsDrained first) same d) is.0.0,
      is.2,
    )
ring-ends first halted (suc i) (x ∷ ys) (z ∷ zs) (ps ∷ pops) y at d is =
    (is.0, is.1, ring-ends first halted i ys zs pops y at d is.2)

-- past the last ring
pub past-last : (i : ℕ) (links : List LinkState) → length links ≤ i →
    FromPlace (HaveComeTo false) i links links (no_pops links)
past-last zero [] le = tt
past-last zero (l ∷ links) le = absurd (omega (arith, le))
past-last (suc i) [] le = tt
past-last (suc i) (l ∷ links) le = ((nones (l ∷ links)).0, refl, past-last i links (omega (arith, le)))
