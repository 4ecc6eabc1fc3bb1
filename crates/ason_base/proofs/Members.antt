-- Facts on lists: what is in them, what holds of all, and what stands at a place.
use Rattle.std.specs.{List.{AllByRecursion, Contains, flat_map}, Prelude.filter}
use Rattle.std.proofs.{Common.{List, ◌∷◌, [], true, cond, Bool, false, arith, Contains, refl, suc, ◌⊎◌, zero, ◌≡◌, inr, inl, subst, sym, map, ◌++◌, ap, filter, ◌≤◌, length}, lemmas.List.Elements.{Contains-append_right, Contains-append_left, All-from_recursion, All-contains, Contains-append_cases}}

-- An empty list has nothing.
pub contains-none : {X : Type 0} (z : X) → Contains [] z → ⊥
contains-none z (k, within, is) = absurd (omega arith)

-- A list has its head.
pub contains-head : {X : Type 0} (x : X) (xs : List X) → Contains (x ∷ xs) x
contains-head x xs = (0, omega arith, refl)

-- A list has what its tail has.
pub contains-tail : {X : Type 0} (x z : X) (xs : List X) → Contains xs z → Contains (x ∷ xs) z
contains-tail x z xs (k, within, is) = (suc k, omega arith, is)

-- What a list has is its head or in its tail.
pub contains-cases : {X : Type 0} (x z : X) (xs : List X) → Contains (x ∷ xs) z → (x ≡ z) ⊎ Contains xs z
contains-cases x z xs (zero, within, is) = inl is
contains-cases x z xs (suc k, within, is) = inr (k, omega arith, is)

-- What follows from what holds of all elements holds of all.
pub all-then : {X : Type 0} (P Q : X → Type 0) (xs : List X) → ((x : X) → P x → Q x) → AllByRecursion P xs →
    AllByRecursion Q xs
all-then P Q [] f all = tt
all-then P Q (x ∷ xs) f all = (f x all.0, all-then P Q xs f all.1)

-- What holds of all elements holds of those that a filter keeps.
pub all-filter : {X : Type 0} (P : X → Type 0) (p : X → Bool) (xs : List X) → AllByRecursion P xs →
    AllByRecursion P (filter p xs)
all-filter P p [] all = tt
all-filter P p (x ∷ xs) all =
    elim (p x) as (λ b. AllByRecursion P (cond b (x ∷ filter p xs) (filter p xs))) [
      | true ↦ (all.0, all-filter P p xs all.1)
      | false ↦ all-filter P p xs all.1
    ]

-- What a filter keeps is in the list, and passes.
pub kept-there : {X : Type 0} (p : X → Bool) (xs : List X) (x : X) → Contains (filter p xs) x → Contains xs x × (p x ≡ true)
kept-there p [] x h = absurd (contains-none x h)
kept-there {X} p (y ∷ ys) x h = go (p y) refl h (kept-there p ys x)
  where
    go : (a : Bool) → p y ≡ a → Contains (cond a (y ∷ filter p ys) (filter p ys)) x →
        (Contains (filter p ys) x → Contains ys x × (p x ≡ true)) → Contains (y ∷ ys) x × (p x ≡ true)
    go true e there later = elim (contains-cases y x (filter p ys) there) [
      | inl is ↦ (subst (λ z. Contains (y ∷ ys) z) is (contains-head y ys), subst (λ z. p z ≡ true) is e)
      | inr behind ↦ (let found = later behind in (contains-tail y x ys found.0, found.1))
    ]
    go false e there later = let found = later there in (contains-tail y x ys found.0, found.1)

-- A filter keeps what is in the list and passes.
pub there-kept : {X : Type 0} (p : X → Bool) (xs : List X) (x : X) → Contains xs x → p x ≡ true → Contains (filter p xs) x
there-kept p [] x there e = absurd (contains-none x there)
there-kept {X} p (y ∷ ys) x there e = go (p y) refl (there-kept p ys x)
  where
    go : (a : Bool) → p y ≡ a → (Contains ys x → p x ≡ true → Contains (filter p ys) x) →
        Contains (cond a (y ∷ filter p ys) (filter p ys)) x
    go true f before = elim (contains-cases y x ys there) [
      | inl is ↦ subst (λ z. Contains (y ∷ filter p ys) z) is (contains-head y (filter p ys))
      | inr later ↦ contains-tail y x (filter p ys) (before later e)
    ]
    go false f before = elim (contains-cases y x ys there) [
      | inl is ↦ cc (subst (λ z. p z ≡ true) (sym is) e, f)
      | inr later ↦ before later e
    ]

-- What holds of all images holds of all elements of the mapped list.
pub all-mapped : {X Y : Type 0} (P : Y → Type 0) (f : X → Y) (xs : List X) → AllByRecursion (λ x. P (f x)) xs →
    AllByRecursion P (map f xs)
all-mapped P f [] all = tt
all-mapped P f (x ∷ xs) all = (all.0, all-mapped P f xs all.1)

-- What holds of two lists joined holds of the second.
pub all-right : {X : Type 0} (P : X → Type 0) (xs ys : List X) → AllByRecursion P (xs ++ ys) → AllByRecursion P ys
all-right P [] ys h = h
all-right P (x ∷ xs) ys h = all-right P xs ys h.1

-- Two maps in turn are one.
pub map-map : {X Y Z : Type 0} (f : X → Y) (g : Y → Z) (xs : List X) → map g (map f xs) ≡ map (λ x. g (f x)) xs
map-map f g [] = refl
map-map f g (x ∷ xs) = ap (λ zs. g (f x) ∷ zs) (map-map f g xs)

-- What the list of an element has is in the lists of all elements joined.
pub there-flat : {X Y : Type 0} (f : X → List Y) (xs : List X) (x : X) (y : Y) → Contains xs x → Contains (f x) y →
    Contains (flat_map f xs) y
there-flat f [] x y there inside = absurd (contains-none x there)
there-flat {X} {Y} f (z ∷ xs) x y there inside = elim (contains-cases z x xs there) [
  | inl is ↦ Contains-append_left (f z) (flat_map f xs) y (subst (λ (v : X). Contains (f v) y) (sym is) inside)
  | inr later ↦ Contains-append_right (f z) (flat_map f xs) y (there-flat f xs x y later inside)
]

-- What holds of two lists joined holds of the first.
pub all-left : {X : Type 0} (P : X → Type 0) (xs ys : List X) → AllByRecursion P (xs ++ ys) → AllByRecursion P xs
all-left P [] ys all = tt
all-left P (x ∷ xs) ys all = (all.0, all-left P xs ys all.1)

-- What holds of all elements holds of each that the list has.
pub one-of_all : {X : Type 0} (P : X → Type 0) (xs : List X) (x : X) → AllByRecursion P xs → Contains xs x → P x
one-of_all P xs x all is = All-contains P xs x (All-from_recursion P xs all) is

-- A filter does not make a list longer.
pub filter-shorter : {X : Type 0} (p : X → Bool) (xs : List X) → length (filter p xs) ≤ length xs
filter-shorter p [] = omega arith
filter-shorter p (x ∷ xs) =
    let others : length (filter p xs) ≤ length xs = filter-shorter p xs in
    elim (p x) as (λ b. length (cond b (x ∷ filter p xs) (filter p xs)) ≤ length (x ∷ xs))
    [ true ↦ omega arith | false ↦ omega arith ]

-- What a mapped list has comes from an element.
pub there-from_map : {X Y : Type 0} (f : X → Y) (xs : List X) (y : Y) → Contains (map f xs) y
    → (x : X) × Contains xs x × (f x ≡ y)
there-from_map f [] y h = absurd (contains-none y h)
there-from_map f (x ∷ xs) y h = elim (contains-cases (f x) y (map f xs) h) [
  | inl is ↦ (x, contains-head x xs, is)
  | inr later ↦ (let q = there-from_map f xs y later in (q.0, contains-tail x q.0 xs q.1, q.2))
]

-- What a list has is mapped into the mapped list.
pub there-map : {X Y : Type 0} (f : X → Y) (xs : List X) (x : X) → Contains xs x → Contains (map f xs) (f x)
there-map f [] x h = absurd (contains-none x h)
there-map f (y ∷ xs) x h = elim (contains-cases y x xs h) [
  | inl is ↦ subst (λ z. Contains (f y ∷ map f xs) (f z)) is (contains-head (f y) (map f xs))
  | inr later ↦ contains-tail (f y) (f x) (map f xs) (there-map f xs x later)
]

-- What the joined lists of all elements have is in that of one.
pub there-from_flat : {X Y : Type 0} (f : X → List Y) (xs : List X) (y : Y) → Contains (flat_map f xs) y
    → (x : X) × Contains xs x × Contains (f x) y
there-from_flat f [] y h = absurd (contains-none y h)
there-from_flat f (x ∷ xs) y h = elim (Contains-append_cases (f x) (flat_map f xs) y h) [
  | inl here ↦ (x, contains-head x xs, here)
  | inr later ↦ (let q = there-from_flat f xs y later in (q.0, contains-tail x q.0 xs q.1, q.2))
]
