-- The first item that passes, and nodes in order of number.
use Rattle.std.proofs.{Common.{◌≡◌, ◌<◌, ◌+◌, ◌-◌, ℕ, zero, suc, Bool, true, false, cond, not, nat_eq, nat_lt, List, eqb-true, ltb-true, [], ◌∷◌, length, refl, sym, ap, ◌∙◌, subst, arith}, lemmas.Option.slice_get_within}
use Rattle.std.specs.{Prelude.{◌||◌, Some, None, position, slice_get}, List.{AllByRecursion, list_any, position_or_len}}
use Rattle.ason_base.specs.{declared.ids.NodeId.NodeId, declared.network.NodeSpec.NodeSpec, Network.{IsTopology, Network, is_node_id, node_number}}
use Rattle.ason_base.proofs.Numbers.{above-zero, one-less}
use Rattle.flood.proofs.Members.{place_of, there_from_place}
use Rattle.round_rules.specs.OneWorker.{ids_of}
use Rattle.round_rules.proofs.Nodes.{among-ids, node-there, there-among}
use Rattle.fleet.proofs.Places.{map-get}

-- Items

-- the first item that passes, at this place
pub record IsFirstPassing {X : Type 0} (p : X → Bool) (xs : List X) (place : ℕ) : Type 0 where
  pub item : X
  pub is : slice_get xs place ≡ Some item
  pub passes : p item ≡ true
  pub before : (k : ℕ) (x : X) → k < place → slice_get xs k ≡ Some x → p x ≡ false

found : {X : Type 0} (p : X → Bool) (xs : List X) → position_or_len p xs < length xs →
    IsFirstPassing p xs (position_or_len p xs)
found p [] below = absurd (omega (arith, below))
found {X} p (x ∷ xs) below = go (λ h. found p xs h) (p x) refl below
  where
    go : (position_or_len p xs < length xs → IsFirstPassing p xs (position_or_len p xs)) → (b : Bool) → p x ≡ b →
        cond (not b) (1 + position_or_len p xs) 0 < suc (length xs) →
        IsFirstPassing p (x ∷ xs) (cond (not b) (1 + position_or_len p xs) 0)
    go more true e h = record { item = x; is = refl; passes = e; before = λ k y less at. absurd (omega (arith, less)) }
    go more false e h =
        let rest : IsFirstPassing p xs (position_or_len p xs) = more (omega (arith, h)) in
        subst (IsFirstPassing p (x ∷ xs)) (one_more (position_or_len p xs))
        (record { item = rest.item; is = rest.is; passes = rest.passes; before = before rest })
      where
        one_more : (k : ℕ) → suc k ≡ 1 + k
        one_more k = omega arith

        before : IsFirstPassing p xs (position_or_len p xs) → (k : ℕ) (y : X) → k < suc (position_or_len p xs) →
            slice_get (x ∷ xs) k ≡ Some y → p y ≡ false
        before rest zero y less at = let same : x ≡ y = cc (at) in subst (λ z. p z ≡ false) same e
        before rest (suc k) y less at = rest.before k y (omega (arith, less)) at

pub first-at : {X : Type 0} (p : X → Bool) (xs : List X) (place : ℕ) → position p xs ≡ Some place →
    IsFirstPassing p xs place
first-at p xs place at = go (nat_lt (position_or_len p xs) (length xs)) refl at
  where
    less : (a b : ℕ) → nat_lt a b ≡ true → a < b
    less a b h = grind (arith, h)

    go : (b : Bool) → nat_lt (position_or_len p xs) (length xs) ≡ b →
        cond b (Some (position_or_len p xs)) None ≡ Some place → IsFirstPassing p xs place
    go true e h =
        let here : position_or_len p xs ≡ place = cc (h) in
        subst (IsFirstPassing p xs) here (found p xs (less (position_or_len p xs) (length xs) e))
    go false e h = absurd (cc (h))

nothing_below : (n : ℕ) → nat_lt 0 (suc n) ≡ false → ⊥
nothing_below n k = absurd (grind (arith, k))

farther : (a b : ℕ) → nat_lt (1 + a) (suc b) ≡ false → nat_lt a b ≡ false
farther a b k = grind (arith, k)

nowhere : {X : Type 0} (p : X → Bool) (xs : List X) → nat_lt (position_or_len p xs) (length xs) ≡ false →
    AllByRecursion (λ x. p x ≡ false) xs
nowhere p [] h = tt
nowhere {X} p (x ∷ xs) h = go (nowhere p xs) (p x) refl h
  where
    go : (nat_lt (position_or_len p xs) (length xs) ≡ false → AllByRecursion (λ y. p y ≡ false) xs) → (b : Bool) →
        p x ≡ b → nat_lt (cond (not b) (1 + position_or_len p xs) 0) (suc (length xs)) ≡ false →
        AllByRecursion (λ y. p y ≡ false) (x ∷ xs)
    go rest true e k = absurd (nothing_below (length xs) k)
    go rest false e k = (e, rest (farther (position_or_len p xs) (length xs) k))

-- where none is found none passes
pub none-passes : {X : Type 0} (p : X → Bool) (xs : List X) → position p xs ≡ None →
    AllByRecursion (λ x. p x ≡ false) xs
none-passes p xs none = go (nat_lt (position_or_len p xs) (length xs)) refl none
  where
    go : (b : Bool) → nat_lt (position_or_len p xs) (length xs) ≡ b →
        cond b (Some (position_or_len p xs)) None ≡ None → AllByRecursion (λ x. p x ≡ false) xs
    go true e h = absurd (cc (h))
    go false e h = nowhere p xs e

pub none-any : {X : Type 0} (p : X → Bool) (xs : List X) → list_any p xs ≡ false →
    AllByRecursion (λ x. p x ≡ false) xs
none-any p [] none = tt
none-any {X} p (x ∷ xs) none = go (none-any p xs) (p x) refl none
  where
    go : (list_any p xs ≡ false → AllByRecursion (λ y. p y ≡ false) xs) → (b : Bool) → p x ≡ b →
        (b || list_any p xs) ≡ false → AllByRecursion (λ y. p y ≡ false) (x ∷ xs)
    go rest true e h = absurd (cc (h))
    go rest false e h = (e, rest h)

-- Nodes

not_itself : (a : ℕ) → a < a → ⊥
not_itself a p = absurd (omega (arith, p))

not_less : (a b : ℕ) → a < b → b < a → ⊥
not_less a b p q = absurd (omega (arith, p, q))

distance : (j k : ℕ) → nat_lt j k ≡ false → nat_eq j k ≡ false → j ≡ k + suc (j - k - 1)
distance j k h e = grind (arith, h, e)

number : Network → ℕ → ℕ
number t k = node_number (slice_get t.nodes k)

next : (t : Network) → IsTopology t → (k : ℕ) → suc k < length t.nodes → number t k < number t (suc k)
unfolding number
next t valid k below =
    let test = valid.nodes (suc k) below in
    let less : suc k - 1 ≡ k = one-less k in
    let past : nat_eq (suc k) 0 ≡ false = above-zero k in
    subst (λ j. j < node_number (slice_get t.nodes (suc k)))
    (ap (λ b. cond b 0 (node_number (slice_get t.nodes (suc k - 1)))) past
    ∙ ap (λ j. node_number (slice_get t.nodes j)) less)
    (ltb-true _ (node_number (slice_get t.nodes (suc k))) test)

up : (t : Network) → IsTopology t → (k j : ℕ) → k + suc j < length t.nodes → number t k < number t (k + suc j)
up t valid k zero below =
    subst (λ i. number t k < number t i) (plus k) (next t valid k (omega (arith, below)))
  where
    plus : (i : ℕ) → suc i ≡ i + 1
    plus i = omega arith
up t valid k (suc j) below =
    let one = up t valid k j (omega (arith, below)) in
    let two = next t valid (k + suc j) (omega (arith, below)) in
    subst (λ i. number t k < number t i) (plus k j) (omega (arith, one, two))
  where
    plus : (i m : ℕ) → suc (i + suc m) ≡ i + suc (suc m)
    plus i m = omega arith

numbered : (t : Network) (k : ℕ) (n : NodeId) → slice_get (ids_of t) k ≡ Some n → number t k ≡ n.0
unfolding number
numbered t k n at =
    let m = map-get (λ (x : NodeSpec). x.id) t.nodes k n at in
    ap node_number m.1 ∙ ap (λ (x : NodeId). x.0) m.2

-- a node of a lower number stands before
pub lower-before : (t : Network) → IsTopology t → (k j : ℕ) (n m : NodeId) → slice_get (ids_of t) k ≡ Some n →
    slice_get (ids_of t) j ≡ Some m → m.0 < n.0 → j < k
lower-before t valid k j n m at there less = go (nat_lt j k) refl
  where
    within : j < length t.nodes
    within =
        let x = map-get (λ (y : NodeSpec). y.id) t.nodes j m there in slice_get_within t.nodes j x.0 x.1

    go : (b : Bool) → nat_lt j k ≡ b → j < k
    go true e = ltb-true j k e
    go false e = apart (nat_eq j k) refl
      where
        apart : (b : Bool) → nat_eq j k ≡ b → j < k
        apart true f =
            let node : n ≡ m = cc (at, ap (slice_get (ids_of t)) (sym (eqb-true j k f)) ∙ there) in
            absurd (not_itself n.0 (subst (λ (x : NodeId). x.0 < n.0) (sym node) less))
        apart false f =
            let far : j ≡ k + suc (j - k - 1) = distance j k e f in
            let higher = up t valid k (j - k - 1) (subst (λ i. i < length t.nodes) far within) in
            absurd (not_less m.0 n.0 less (subst (λ i. i < m.0) (numbered t k n at)
            (subst (λ i. number t k < i) (ap (number t) (sym far) ∙ numbered t j m there) higher)))

-- a node that has a place is one of the network
pub place-known : (t : Network) (k : ℕ) (n : NodeId) → slice_get (ids_of t) k ≡ Some n → is_node_id t.nodes n ≡ true
place-known t k n at = sym (among-ids t n) ∙ there-among (ids_of t) n (there_from_place (ids_of t) k n at)

-- and one of the network has a place
pub node-place : (t : Network) (n : NodeId) → is_node_id t.nodes n ≡ true →
    (k : ℕ) × (slice_get (ids_of t) k ≡ Some n)
node-place t n known = place_of (ids_of t) n (node-there t n known)
