-- Filters and joined lists.
use Rattle.std.proofs.{Common.{◌≡◌, Bool, true, false, cond, map, List, [], ◌∷◌, ◌++◌, refl, ap, ◌∙◌}, lemmas.List.Concat.flat_map-append}
use Rattle.std.specs.{Prelude.{◌&&◌, ◌||◌, filter, flat_map}, List.{AllByRecursion, list_any}}
use Rattle.ason_base.specs.InOrder.{in_order, put_in}

-- a filter of a filter is one by both tests
pub filter-both : {X : Type 0} (p q : X → Bool) (xs : List X) → filter q (filter p xs) ≡ filter (λ x. p x && q x) xs
filter-both p q [] = refl
filter-both {X} p q (x ∷ xs) = go (p x) (filter-both p q xs)
  where
    go : (b : Bool) → filter q (filter p xs) ≡ filter (λ y. p y && q y) xs →
        filter q (cond b (x ∷ filter p xs) (filter p xs))
        ≡ cond (b && q x) (x ∷ filter (λ y. p y && q y) xs) (filter (λ y. p y && q y) xs)
    go true later = ap (λ t. cond (q x) (x ∷ t) t) later
    go false later = later

-- a test that nothing passes keeps nothing
pub filter-none : {X : Type 0} (xs : List X) → filter (λ x. false) xs ≡ []
filter-none [] = refl
filter-none (x ∷ xs) = filter-none xs

-- a test of what a filter keeps is one by both tests
pub any-filter : {X : Type 0} (p q : X → Bool) (xs : List X) → list_any q (filter p xs) ≡ list_any (λ x. p x && q x) xs
any-filter p q [] = refl
any-filter {X} p q (x ∷ xs) = go (p x) (any-filter p q xs)
  where
    go : (b : Bool) → list_any q (filter p xs) ≡ list_any (λ y. p y && q y) xs →
        list_any q (cond b (x ∷ filter p xs) (filter p xs)) ≡ ((b && q x) || list_any (λ y. p y && q y) xs)
    go true later = ap (λ t. q x || t) later
    go false later = later

-- tests that agree on each
pub any-agree : {X : Type 0} (p q : X → Bool) → ((x : X) → p x ≡ q x) → (xs : List X) → list_any p xs ≡ list_any q xs
any-agree p q same [] = refl
any-agree p q same (x ∷ xs) = rw (same x) (ap (λ t. q x || t) (any-agree p q same xs))

-- a filter of a map
pub filter-map : {X Y : Type 0} (f : X → Y) (p : Y → Bool) (xs : List X) →
    filter p (map f xs) ≡ map f (filter (λ x. p (f x)) xs)
filter-map f p [] = refl
filter-map {X} {Y} f p (x ∷ xs) = go (p (f x)) (filter-map f p xs)
  where
    go : (b : Bool) → filter p (map f xs) ≡ map f (filter (λ y. p (f y)) xs) →
        cond b (f x ∷ filter p (map f xs)) (filter p (map f xs))
        ≡ map f (cond b (x ∷ filter (λ y. p (f y)) xs) (filter (λ y. p (f y)) xs))
    go true later = ap (λ t. f x ∷ t) later
    go false later = later

-- joined over a list is joined over those of its members that give anything
pub flat-kept : {X Y : Type 0} (f : X → List Y) (p : X → Bool) → ((x : X) → p x ≡ false → f x ≡ []) → (xs : List X) →
    flat_map f (filter p xs) ≡ flat_map f xs
flat-kept f p none [] = refl
flat-kept {X} {Y} f p none (x ∷ xs) = go (p x) refl (flat-kept f p none xs)
  where
    go : (b : Bool) → p x ≡ b → flat_map f (filter p xs) ≡ flat_map f xs →
        flat_map f (cond b (x ∷ filter p xs) (filter p xs)) ≡ f x ++ flat_map f xs
    go true e later = ap (λ t. f x ++ t) later
    go false e later = rw (none x e) later

-- what agrees on each member is joined alike
pub flat-agree : {X Y : Type 0} (f g : X → List Y) → ((x : X) → f x ≡ g x) → (xs : List X) →
    flat_map f xs ≡ flat_map g xs
flat-agree f g same [] = refl
flat-agree f g same (x ∷ xs) = rw (same x) (ap (λ t. g x ++ t) (flat-agree f g same xs))

-- joined twice
pub flat-flat : {X Y Z : Type 0} (f : X → List Y) (g : Y → List Z) (xs : List X) →
    flat_map g (flat_map f xs) ≡ flat_map (λ x. flat_map g (f x)) xs
flat-flat f g [] = refl
flat-flat f g (x ∷ xs) = flat_map-append g (f x) (flat_map f xs) ∙ ap (λ t. flat_map g (f x) ++ t) (flat-flat f g xs)

-- joined over what a map gives
pub flat-map : {X Y Z : Type 0} (f : X → Y) (g : Y → List Z) (xs : List X) →
    flat_map g (map f xs) ≡ flat_map (λ x. g (f x)) xs
flat-map f g [] = refl
flat-map f g (x ∷ xs) = ap (λ t. g (f x) ++ t) (flat-map f g xs)

-- what holds of each member holds of each where they are in order
all-put : {X : Type 0} (P : X → Type 0) (below : X → X → Bool) (x : X) (ys : List X) → P x → AllByRecursion P ys →
    AllByRecursion P (put_in below x ys)
all-put P below x [] here each = (here, tt)
all-put {X} P below x (y ∷ ys) here each = go (below x y) (below y x) (all-put P below x ys here each.1)
  where
    go : (b c : Bool) → AllByRecursion P (put_in below x ys) →
        AllByRecursion P (cond b (x ∷ y ∷ ys) (cond c (y ∷ put_in below x ys) (y ∷ ys)))
    go true c later = (here, each)
    go false true later = (each.0, later)
    go false false later = each

pub all-in_order : {X : Type 0} (P : X → Type 0) (below : X → X → Bool) (xs : List X) → AllByRecursion P xs →
    AllByRecursion P (in_order below xs)
all-in_order P below [] each = each
all-in_order P below (x ∷ xs) each = all-put P below x (in_order below xs) each.0 (all-in_order P below xs each.1)
