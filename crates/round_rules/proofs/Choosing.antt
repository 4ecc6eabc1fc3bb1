-- What is so of each node for some choice is so of all nodes for one function.
use Rattle.std.proofs.Common.{◌≡◌, ℕ, false, cond, nat_eq, List, [], ◌∷◌, map, refl, sym, ap, ◌∙◌, subst, arith, inl, inr}
use Rattle.std.specs.{Prelude.◌||◌, List.{AllByRecursion, AllZip, Contains}}
use Rattle.ason_base.specs.declared.ids.NodeId.{NodeId}
use Rattle.ason_base.proofs.{Members.{contains-cases, contains-head, contains-tail, contains-none}, Numbers.self-number}
use Rattle.round_rules.specs.{FleetOneWorker.is_node_among, Moves.AreApart}

-- Two lists

-- what holds of each pair may be said in other words
pub zip-more : {X Y : Type 0} (P Q : X → Y → Type 0) → ((x : X) (y : Y) → P x y → Q x y) → (xs : List X) (ys : List Y) →
    AllZip P xs ys → AllZip Q xs ys
zip-more P Q f [] [] all = tt
zip-more P Q f [] (y ∷ ys) all = absurd all
zip-more P Q f (x ∷ xs) [] all = absurd all
zip-more P Q f (x ∷ xs) (y ∷ ys) all = (f x y all.0, zip-more P Q f xs ys all.1)

-- each with its place in the first list
pub zip-there : {X Y : Type 0} (P Q : X → Y → Type 0) (whole : List X) → ((x : X) (y : Y) → Contains whole x → P x y →
    Q x y) → (xs : List X) (ys : List Y) → ((x : X) → Contains xs x → Contains whole x) → AllZip P xs ys →
    AllZip Q xs ys
zip-there P Q whole f [] [] inside all = tt
zip-there P Q whole f [] (y ∷ ys) inside all = absurd all
zip-there P Q whole f (x ∷ xs) [] inside all = absurd all
zip-there P Q whole f (x ∷ xs) (y ∷ ys) inside all = (
  f x y (inside x (contains-head x xs)) all.0,
  zip-there P Q whole f xs ys (λ z there. inside z (contains-tail x z xs there)) all.1,
)

pub record ThroughMiddle {X Y Z : Type 0} (P : X → Y → Type 0) (R : Y → Z → Type 0) (x : X) (z : Z) : Type 0 where
  pub mid : Y
  pub one : P x mid
  pub two : R mid z

-- two lists that fit a third fit each other by it
pub zip-then : {X Y Z : Type 0} (P : X → Y → Type 0) (R : Y → Z → Type 0) (xs : List X) (ys : List Y) (zs : List Z) →
    AllZip P xs ys → AllZip R ys zs → AllZip (ThroughMiddle P R) xs zs
zip-then P R [] [] [] all more = tt
zip-then P R [] [] (z ∷ zs) all more = absurd more
zip-then P R [] (y ∷ ys) zs all more = absurd all
zip-then P R (x ∷ xs) [] zs all more = absurd all
zip-then P R (x ∷ xs) (y ∷ ys) [] all more = absurd more
zip-then P R (x ∷ xs) (y ∷ ys) (z ∷ zs) all more =
    (record { mid = y; one = all.0; two = more.0 }, zip-then P R xs ys zs all.1 more.1)

-- what holds of the images of the second list
pub zip-mapped : {X Y Z : Type 0} (P : X → Z → Type 0) (f : Y → Z) (xs : List X) (ys : List Y) →
    AllZip (λ x y. P x (f y)) xs ys → AllZip P xs (map f ys)
zip-mapped P f [] [] all = tt
zip-mapped P f [] (y ∷ ys) all = absurd all
zip-mapped P f (x ∷ xs) [] all = absurd all
zip-mapped P f (x ∷ xs) (y ∷ ys) all = (all.0, zip-mapped P f xs ys all.1)

-- what holds of the images of the first list
pub zip-from-map : {X Y Z : Type 0} (P : Z → Y → Type 0) (f : X → Z) (xs : List X) (ys : List Y) →
    AllZip P (map f xs) ys → AllZip (λ x y. P (f x) y) xs ys
zip-from-map P f [] [] all = tt
zip-from-map P f [] (y ∷ ys) all = absurd all
zip-from-map P f (x ∷ xs) [] all = absurd all
zip-from-map P f (x ∷ xs) (y ∷ ys) all = (all.0, zip-from-map P f xs ys all.1)

-- what stands beside this
pub record Beside {X Y : Type 0} (P : X → Y → Type 0) (ys : List Y) (x : X) : Type 0 where
  pub item : Y
  pub there : Contains ys item
  pub is : P x item

-- beside each that is in the first list one of the second stands
pub zip-beside : {X Y : Type 0} (P : X → Y → Type 0) (xs : List X) (ys : List Y) (x : X) → AllZip P xs ys →
    Contains xs x → Beside P ys x
zip-beside P [] ys x all there = absurd (contains-none x there)
zip-beside P (z ∷ xs) [] x all there = absurd all
zip-beside {X} {Y} P (z ∷ xs) (y ∷ ys) x all there = elim (contains-cases z x xs there) [
  | inl is ↦ record { item = y; there = contains-head y ys; is = subst (λ (w : X). P w y) is all.0 }
  | inr later ↦ (let r = zip-beside P xs ys x all.1 later in
      record { item = r.item; there = contains-tail y r.item ys r.there; is = r.is })
]

-- a list of images is the image of the list
pub zip-equal : {X Y : Type 0} (f : X → Y) (xs : List X) (ys : List Y) → AllZip (λ x y. y ≡ f x) xs ys → ys ≡ map f xs
zip-equal f [] [] all = refl
zip-equal f [] (y ∷ ys) all = absurd all
zip-equal f (x ∷ xs) [] all = absurd all
zip-equal {X} {Y} f (x ∷ xs) (y ∷ ys) all = λ i. (all.0 i) ∷ (zip-equal f xs ys all.1 i)

-- a list that its image is
pub mapped-same : {X : Type 0} (f : X → X) (xs : List X) (x : X) → map f xs ≡ xs → Contains xs x → f x ≡ x
mapped-same f [] x same there = absurd (contains-none x there)
mapped-same {X} f (y ∷ xs) x same there = elim (contains-cases y x xs there) [
  | inl is ↦ subst (λ (z : X). f z ≡ z) is (cc (same))
  | inr later ↦ mapped-same f xs x (cc (same)) later
]

-- Choosing

-- what the function chooses for each node of the list, and elsewhere what this one has
pub record Chosen {A Y : Type 0} (P : NodeId → Y → A → Type 0) (ns : List NodeId) (ys : List Y) (f : ℕ → A) : Type 0
  where
    pub choice : ℕ → A
    pub each : AllZip (λ (n : NodeId) (y : Y). P n y (choice n.0)) ns ys
    pub others : (m : ℕ) → is_node_among ns m ≡ false → choice m ≡ f m

-- with this for one number
abbrev put : {A : Type 0} → (ℕ → A) → ℕ → A → ℕ → A
put f n a m = cond (nat_eq m n) a (f m)

others_stay : {A Y : Type 0} (P : NodeId → Y → A → Type 0) (f : ℕ → A) (n : ℕ) (a : A) (ns : List NodeId)
    (ys : List Y) →
    AllByRecursion (λ (m : NodeId). nat_eq m.0 n ≡ false) ns → AllZip (λ (m : NodeId) (y : Y). P m y (f m.0)) ns ys →
    AllZip (λ (m : NodeId) (y : Y). P m y (put f n a m.0)) ns ys
others_stay P f n a [] [] apart all = tt
others_stay P f n a [] (y ∷ ys) apart all = absurd all
others_stay P f n a (m ∷ ns) [] apart all = absurd all
others_stay P f n a (m ∷ ns) (y ∷ ys) apart all = (
  subst (λ b. P m y (cond b a (f m.0))) (sym apart.0) all.0,
  others_stay P f n a ns ys apart.1 all.1,
)

-- What is so for some choice, node by node, is so of one function, where no node stands twice.
pub choose : {A Y : Type 0} (P : NodeId → Y → A → Type 0) (ns : List NodeId) (ys : List Y) (f : ℕ → A) →
    AreApart ns →
    AllZip (λ (n : NodeId) (y : Y). (a : A) × P n y a) ns ys → Chosen P ns ys f
choose P [] [] f apart all = record { choice = f; each = tt; others = λ m h. refl }
choose P [] (y ∷ ys) f apart all = absurd all
choose P (n ∷ ns) [] f apart all = absurd all
choose {A} P (n ∷ ns) (y ∷ ys) f apart all = with_first (choose P ns ys f apart.1 all.1)
  where
    a : A
    a = all.0.0

    with_first : Chosen P ns ys f → Chosen P (n ∷ ns) (y ∷ ys) f
    with_first r = record {
      choice = put r.choice n.0 a;
      each = (
        subst (λ b. P n y (cond b a (r.choice n.0))) (sym (self-number n.0)) all.0.1,
        others_stay P r.choice n.0 a ns ys apart.0 r.each,
      );
      others = λ m h. ap (λ b. cond b a (r.choice m)) (other m h) ∙ r.others m (rest m h);
    }
      where
        other : (m : ℕ) → (nat_eq n.0 m || is_node_among ns m) ≡ false → nat_eq m n.0 ≡ false
        other m h = grind (arith, h)

        rest : (m : ℕ) → (nat_eq n.0 m || is_node_among ns m) ≡ false → is_node_among ns m ≡ false
        rest m h = grind (arith, h)

-- both hold of each pair
pub zip-both : {X Y : Type 0} (P Q : X → Y → Type 0) (xs : List X) (ys : List Y) → AllZip P xs ys → AllZip Q xs ys →
    AllZip (λ x y. P x y × Q x y) xs ys
zip-both P Q [] [] f g = tt
zip-both P Q [] (y ∷ ys) f g = absurd f
zip-both P Q (x ∷ xs) [] f g = absurd f
zip-both P Q (x ∷ xs) (y ∷ ys) f g = ((f.0, g.0), zip-both P Q xs ys f.1 g.1)

-- beside what this stands
pub zip-first : {X Y : Type 0} (P : X → Y → Type 0) (xs : List X) (ys : List Y) (y : Y) → AllZip P xs ys →
    Contains ys y → (x : X) × Contains xs x × P x y
zip-first P [] [] y all there = absurd (contains-none y there)
zip-first P [] (z ∷ ys) y all there = absurd all
zip-first P (x ∷ xs) [] y all there = absurd all
zip-first {X} {Y} P (x ∷ xs) (z ∷ ys) y all there = elim (contains-cases z y ys there) [
  | inl is ↦ (x, contains-head x xs, subst (λ (w : Y). P x w) is all.0)
  | inr later ↦ (let r = zip-first P xs ys y all.1 later in (r.0, contains-tail x r.0 xs r.1, r.2))
]

-- the second list is an image
pub zip-onto-map : {X Y Z : Type 0} (P : Y → Z → Type 0) (f : X → Z) (xs : List X) (ys : List Y) →
    AllZip P ys (map f xs) → AllZip (λ x y. P y (f x)) xs ys
zip-onto-map P f [] [] all = tt
zip-onto-map P f [] (y ∷ ys) all = absurd all
zip-onto-map P f (x ∷ xs) [] all = absurd all
zip-onto-map P f (x ∷ xs) (y ∷ ys) all = (all.0, zip-onto-map P f xs ys all.1)
