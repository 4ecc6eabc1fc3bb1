-- Places of lists.
use Rattle.std.proofs.Common.{◌≡◌, ◌<◌, ℕ, zero, suc, Bool, true, false, nat_eq, List, [], ◌∷◌, ◌++◌, get_or, length, map, refl, sym, ap, ◌∙◌, eqb-true, subst, arith}
use Rattle.std.specs.{Prelude.{Some, slice_get, slice_set}, List.AllZip}
use Rattle.ason_base.specs.declared.ids.NodeId.{NodeId}
use Rattle.ason_base.proofs.{Places.all-at, Numbers.{self-number, apart-turned}}
use Rattle.round_rules.specs.Moves.{AreApart}

pub get-map : {X Y : Type 0} (f : X → Y) (xs : List X) (place : ℕ) (x : X) → slice_get xs place ≡ Some x →
    slice_get (map f xs) place ≡ Some (f x)
get-map f [] place x at = absurd (cc (at))
get-map f (y ∷ xs) zero x at = let same : y ≡ x = cc (at) in ap (λ z. Some (f z)) same
get-map f (y ∷ xs) (suc place) x at = get-map f xs place x at

-- the item of which this is the image
pub map-get : {X Y : Type 0} (f : X → Y) (xs : List X) (place : ℕ) (y : Y) → slice_get (map f xs) place ≡ Some y →
    (x : X) × (slice_get xs place ≡ Some x) × (f x ≡ y)
map-get f [] place y at = absurd (cc (at))
map-get f (x ∷ xs) zero y at = (x, refl, cc (at))
map-get f (x ∷ xs) (suc place) y at = map-get f xs place y at

-- what stands beside the item at a place
pub zip-get : {X Y : Type 0} (R : X → Y → Type 0) (xs : List X) (ys : List Y) (place : ℕ) (x : X) → AllZip R xs ys →
    slice_get xs place ≡ Some x → (y : Y) × (slice_get ys place ≡ Some y) × R x y
zip-get R [] [] place x all at = absurd (cc (at))
zip-get R [] (y ∷ ys) place x all at = absurd all
zip-get R (z ∷ xs) [] place x all at = absurd all
zip-get {X} {Y} R (z ∷ xs) (y ∷ ys) zero x all at = (y, refl, subst (λ (k : X). R k y) (cc (at)) all.0)
zip-get R (z ∷ xs) (y ∷ ys) (suc place) x all at = zip-get R xs ys place x all.1 at

pub zip-at : {X Y : Type 0} (R : X → Y → Type 0) (xs : List X) (ys : List Y) (place : ℕ) (x : X) (y : Y) →
    AllZip R xs ys → slice_get xs place ≡ Some x → slice_get ys place ≡ Some y → R x y
zip-at {X} {Y} R xs ys place x y all at there =
    let z = zip-get R xs ys place x all at in
    let same : z.0 ≡ y = cc (z.1, there) in
    subst (λ (k : Y). R x k) same z.2

pub zip-length : {X Y : Type 0} (R : X → Y → Type 0) (xs : List X) (ys : List Y) → AllZip R xs ys →
    length ys ≡ length xs
zip-length R [] [] all = refl
zip-length R [] (y ∷ ys) all = absurd all
zip-length R (x ∷ xs) [] all = absurd all
zip-length R (x ∷ xs) (y ∷ ys) all = ap suc (zip-length R xs ys all.1)

pub zip-self : {X : Type 0} (R : X → X → Type 0) → ((x : X) → R x x) → (xs : List X) → AllZip R xs xs
zip-self R f [] = tt
zip-self R f (x ∷ xs) = (f x, zip-self R f xs)

pub zip-twice : {X : Type 0} (R : X → X → Type 0) → ((x y z : X) → R x y → R y z → R x z) → (xs ys zs : List X) →
    AllZip R xs ys → AllZip R ys zs → AllZip R xs zs
zip-twice R f [] [] [] p q = tt
zip-twice R f [] [] (z ∷ zs) p q = absurd q
zip-twice R f [] (y ∷ ys) zs p q = absurd p
zip-twice R f (x ∷ xs) [] zs p q = absurd p
zip-twice R f (x ∷ xs) (y ∷ ys) [] p q = absurd q
zip-twice R f (x ∷ xs) (y ∷ ys) (z ∷ zs) p q = (f x y z p.0 q.0, zip-twice R f xs ys zs p.1 q.1)

pub zip-append : {X Y : Type 0} (R : X → Y → Type 0) (xs : List X) (ys : List Y) (us : List X) (vs : List Y) →
    AllZip R xs ys → AllZip R us vs → AllZip R (xs ++ us) (ys ++ vs)
zip-append R [] [] us vs front back = back
zip-append R [] (y ∷ ys) us vs front back = absurd front
zip-append R (x ∷ xs) [] us vs front back = absurd front
zip-append R (x ∷ xs) (y ∷ ys) us vs front back = (front.0, zip-append R xs ys us vs front.1 back)

-- what holds by index
pub zip-by-index : {X : Type 0} (R : X → X → Type 0) (xs ys : List X) → length ys ≡ length xs →
    ((k : ℕ) (d : X) → k < length xs → R (get_or xs k d) (get_or ys k d)) → AllZip R xs ys
zip-by-index R [] [] count each = tt
zip-by-index R [] (y ∷ ys) count each = absurd (omega (arith, count))
zip-by-index R (x ∷ xs) [] count each = absurd (omega (arith, count))
zip-by-index R (x ∷ xs) (y ∷ ys) count each = (
  each 0 x (omega arith),
  zip-by-index R xs ys (omega (arith, count)) (λ k d below. each (suc k) d (omega (arith, below))),
)

-- one item is another
pub zip-set : {X : Type 0} (R : X → X → Type 0) → ((x : X) → R x x) → (xs : List X) (place : ℕ) (x y : X) →
    slice_get xs place ≡ Some x → R x y → AllZip R xs (slice_set xs place y)
zip-set R f [] place x y at is = tt
zip-set {X} R f (z ∷ xs) zero x y at is =
    (let same : z ≡ x = cc (at) in subst (λ (k : X). R k y) (sym same) is, zip-self R f xs)
zip-set R f (z ∷ xs) (suc place) x y at is = (f z, zip-set R f xs place x y at is)

-- A place that is set

less_other : (i j : ℕ) → nat_eq (suc i) (suc j) ≡ false → nat_eq i j ≡ false
less_other i j h = grind (arith, h)

pub get-set-elsewhere : {X : Type 0} (xs : List X) (i k : ℕ) (y : X) → nat_eq k i ≡ false →
    slice_get (slice_set xs i y) k ≡ slice_get xs k
get-set-elsewhere [] i k y other = refl
get-set-elsewhere (x ∷ xs) zero zero y other = absurd (cc (other))
get-set-elsewhere (x ∷ xs) zero (suc k) y other = refl
get-set-elsewhere (x ∷ xs) (suc i) zero y other = refl
get-set-elsewhere (x ∷ xs) (suc i) (suc k) y other = get-set-elsewhere xs i k y (less_other k i other)

pub set-there : {X : Type 0} (xs : List X) (i : ℕ) (x y : X) → slice_get xs i ≡ Some x →
    slice_get (slice_set xs i y) i ≡ Some y
set-there [] i x y at = absurd (cc (at))
set-there (z ∷ xs) zero x y at = refl
set-there (z ∷ xs) (suc i) x y at = set-there xs i x y at

pub map-set : {X Y : Type 0} (f : X → Y) (xs : List X) (i : ℕ) (y : X) →
    map f (slice_set xs i y) ≡ slice_set (map f xs) i (f y)
map-set f [] i y = refl
map-set f (x ∷ xs) zero y = refl
map-set f (x ∷ xs) (suc i) y = ap (λ zs. f x ∷ zs) (map-set f xs i y)

-- what is set anew as it was
pub set-back : {X : Type 0} (xs : List X) (i : ℕ) (x y : X) → slice_get xs i ≡ Some x → y ≡ x → slice_set xs i y ≡ xs
set-back [] i x y at same = refl
set-back {X} (z ∷ xs) zero x y at same =
    let here : z ≡ x = cc (at) in ap (λ (k : X). k ∷ xs) (same ∙ sym here)
set-back (z ∷ xs) (suc i) x y at same = ap (λ ks. z ∷ ks) (set-back xs i x y at same)

-- one item is another of the same image
pub map-back : {X Y : Type 0} (f : X → Y) (xs : List X) (i : ℕ) (x y : X) → slice_get xs i ≡ Some x → f y ≡ f x →
    map f (slice_set xs i y) ≡ map f xs
map-back f xs i x y at same = map-set f xs i y ∙ set-back (map f xs) i (f x) (f y) (get-map f xs i x at) same

-- Nodes that are apart

-- at different places stand different nodes
pub apart-places : (ns : List NodeId) → AreApart ns → (i j : ℕ) (n m : NodeId) → slice_get ns i ≡ Some n →
    slice_get ns j ≡ Some m → nat_eq i j ≡ false → nat_eq n.0 m.0 ≡ false
apart-places [] apart i j n m at there other = absurd (cc (at))
apart-places (x ∷ ns) apart zero zero n m at there other = absurd (cc (other))
apart-places (x ∷ ns) apart zero (suc j) n m at there other =
    let same : x ≡ n = cc (at) in
    apart-turned m.0 n.0 (subst (λ (y : NodeId). nat_eq m.0 y.0 ≡ false) same
    (all-at (λ (u : NodeId). nat_eq u.0 x.0 ≡ false) ns j m apart.0 there))
apart-places (x ∷ ns) apart (suc i) zero n m at there other =
    let same : x ≡ m = cc (there) in
    subst (λ (y : NodeId). nat_eq n.0 y.0 ≡ false) same
    (all-at (λ (u : NodeId). nat_eq u.0 x.0 ≡ false) ns i n apart.0 at)
apart-places (x ∷ ns) apart (suc i) (suc j) n m at there other =
    apart-places ns apart.1 i j n m at there (less_other i j other)

-- a node stands at one place
pub one-place : (ns : List NodeId) → AreApart ns → (i j : ℕ) (n : NodeId) → slice_get ns i ≡ Some n →
    slice_get ns j ≡ Some n → i ≡ j
one-place ns apart i j n at there = go (nat_eq i j) refl
  where
    go : (b : Bool) → nat_eq i j ≡ b → i ≡ j
    go true e = eqb-true i j e
    go false e = absurd (cc (self-number n.0, apart-places ns apart i j n n at there e))

-- and different nodes at different ones
pub places-differ : (ns : List NodeId) (i j : ℕ) (n m : NodeId) → slice_get ns i ≡ Some n → slice_get ns j ≡ Some m →
    nat_eq n.0 m.0 ≡ false → nat_eq i j ≡ false
places-differ ns i j n m at there other = go (nat_eq i j) refl
  where
    go : (b : Bool) → nat_eq i j ≡ b → nat_eq i j ≡ false
    go true e =
        let same : i ≡ j = eqb-true i j e in
        let node : n ≡ m = cc (at, ap (slice_get ns) same ∙ there) in
        absurd (cc (other, ap (λ (k : NodeId). nat_eq k.0 m.0) node, self-number m.0))
    go false e = e
