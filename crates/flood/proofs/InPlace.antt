-- A loop that changes each element in its place.
use Rattle.std.proofs.{Common.{◌≡◌, ℕ, ◌+◌, ◌<◌, zero, suc, Option, List, [], ◌∷◌, ◌++◌, length, get_or, set, take, drop, map, refl, ap, sym, subst, ◌∙◌, arith, add-one}, Math.Seq.{drop-length, take-length}, lemmas.List.{append-nil, length-map, take-append-le}}
use Rattle.flood.specs.{declared.due.Due.Due, State.{age_after_tick, older_due}}

-- the first i elements changed
abbrev pub changed : {X : Type 0} → (X → X) → ℕ → List X → List X
changed f i xs = map f (take i xs) ++ drop i xs

get_or-changed : {X : Type 0} (f : X → X) (xs : List X) (i : ℕ) (d : X) → i < length xs →
    get_or (changed f i xs) i d ≡ get_or xs i d
get_or-changed f [] i d h = absurd (omega arith)
get_or-changed f (x ∷ xs) zero d h = refl
get_or-changed f (x ∷ xs) (suc i) d h = get_or-changed f xs i d (omega arith)

set-changed : {X : Type 0} (f : X → X) (xs : List X) (i : ℕ) (d : X) → i < length xs →
    set (changed f i xs) i (f (get_or xs i d)) ≡ changed f (suc i) xs
set-changed f [] i d h = absurd (omega arith)
set-changed f (x ∷ xs) zero d h = refl
set-changed {X = X} f (x ∷ xs) (suc i) d h = ap (λ (ys : List X). f x ∷ ys) (set-changed f xs i d (omega arith))

pub changed_more : {X : Type 0} (f : X → X) (xs now : List X) (i : ℕ) (x y : X) → i < length xs →
    now ≡ changed f i xs → y ≡ f (get_or now i x) → set now i y ≡ changed f (i + 1) xs
changed_more f xs now i x y h same is = rw (is, same, get_or-changed f xs i x h, add-one i) (set-changed f xs i x h)

pub aged_is : (d : Due) (age : Option ℕ) → age ≡ age_after_tick d.age →
    record { number = d.number; age = age; origin = d.origin; row = d.row } ≡ older_due d
aged_is d age is = λ i. record { number = d.number; age = is i; origin = d.origin; row = d.row }

-- what stands in a vector once its slice was changed
pub settled : {X : Type 0} (f : X → X) (old now new : List X) (len : ℕ) → len ≡ length old → now ≡ old →
    new ≡ map f now → take len (new ++ drop (length new) old) ≡ map f old
settled {X = X} f old now new len all same is =
    let mapped : new ≡ map f old = is ∙ ap (map f) same in
    let whole : len ≡ length new = all ∙ sym (ap length mapped ∙ length-map old f) in
    take-append-le len new (drop (length new) old) (omega arith) ∙ ap (λ (n : ℕ). take n new) whole ∙
    take-length new ∙ mapped

-- A change that is taken back: of the first i elements, where the element at i is as it was.

back_again : {X : Type 0} (f g : X → X) → ((x : X) → g (f x) ≡ x) → (xs : List X) (i : ℕ) →
    changed g i (changed f i xs) ≡ xs
back_again f g back [] zero = refl
back_again f g back [] (suc i) = refl
back_again f g back (x ∷ xs) zero = refl
back_again {X = X} f g back (x ∷ xs) (suc i) = ap (λ (y : X). y ∷ changed g i (changed f i xs)) (back x) ∙
    ap (λ (ys : List X). x ∷ ys) (back_again f g back xs i)

set_same : {X : Type 0} (xs : List X) (i : ℕ) (x y : X) → y ≡ get_or xs i x → set xs i y ≡ xs
set_same [] i x y is = refl
set_same {X = X} (z ∷ xs) zero x y is = ap (λ (w : X). w ∷ xs) is
set_same {X = X} (z ∷ xs) (suc i) x y is = ap (λ (ys : List X). z ∷ ys) (set_same xs i x y is)

pub taken_back : {X : Type 0} (f g : X → X) → ((x : X) → g (f x) ≡ x) → (xs now new : List X) (i : ℕ) (x y : X) →
    now ≡ changed f i xs
    → y ≡ get_or now i x → new ≡ changed g i (set now i y) → new ≡ xs
taken_back f g back xs now new i x y same stays is =
    is ∙ ap (changed g i) (set_same now i x y stays ∙ same) ∙ back_again f g back xs i

all_back : {X : Type 0} (f g : X → X) → ((x : X) → g (f x) ≡ x) → (xs : List X) → map g (map f xs) ≡ xs
all_back f g back [] = refl
all_back {X = X} f g back (x ∷ xs) = ap (λ (y : X). y ∷ map g (map f xs)) (back x) ∙
    ap (λ (ys : List X). x ∷ ys) (all_back f g back xs)

-- the same where all elements of a vector were changed, and then all back
pub settled_back : {X : Type 0} (f g : X → X) → ((x : X) → g (f x) ≡ x) →
    (old now new again last : List X) (len count : ℕ)
    → len ≡ length old → now ≡ old → new ≡ map f now → again ≡ take len (new ++ drop (length new) old) → count ≡ len
    → last ≡ map g (take count again) ++ drop count again
    → take len (last ++ drop (length last) (take len (new ++ drop (length new) old))) ≡ old
settled_back {X = X} f g back old now new again last len count all same is between many changes =
    let there : take len (new ++ drop (length new) old) ≡ map f old = settled f old now new len all same is in
    let mapped : again ≡ map f old = between ∙ there in
    let long : length again ≡ len = ap length mapped ∙ length-map old f ∙ sym all in
    let each : last ≡ map g again = changes ∙ whole again (omega arith) in
    settled g (take len (new ++ drop (length new) old)) again last len
    (all ∙ sym (length-map old f) ∙ sym (ap length there)) between each
    ∙ ap (map g) there ∙ all_back f g back old
  where
    whole : (ys : List X) → length ys ≡ count → map g (take count ys) ++ drop count ys ≡ map g ys
    whole ys is =
        subst (λ (n : ℕ). map g (take n ys) ++ drop n ys ≡ map g ys) is
        (ap (λ (zs : List X). map g zs ++ drop (length ys) ys) (take-length ys)
        ∙ ap (λ (zs : List X). map g ys ++ zs) (drop-length ys)
        ∙ append-nil (map g ys))
