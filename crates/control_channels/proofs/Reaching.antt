-- Whom the hops lead to.
use Rattle.std.proofs.Common.{◌≡◌, ℕ, suc, Bool, true, false, cond, nat_eq, nat_lt, List, [], ◌∷◌, map, refl, sym, ap, ◌∙◌, subst, arith, ◌⊎◌, inl, inr, Contains}
use Rattle.std.specs.{Prelude.{◌||◌, find, Some, is_some}, List.{AllByRecursion, list_any}}
use Rattle.ason_base.proofs.{Ordered.{Rises, in_order-has, in_order-rises}, RisingNumbers.nat_order, Members.{contains-cases, contains-head, contains-tail, contains-none}}
use Rattle.ason_base.specs.{declared.ids.NodeId.NodeId, declared.network.LinkSpec.LinkSpec, Network.other_end}
use Rattle.hop_reliable.specs.Hop.{HopState, fresh_hop}
use Rattle.mesh_nodes.specs.LocalNodes.{is_neighbour}
use Rattle.mesh_rules.specs.LocalNodes.{LocalNode}
use Rattle.control_channels.specs.{declared.adjacencies.Adjacency.Adjacency, Adjacencies.{hop_at, hop_of, is_adjacency_to, neighbours, new_adjacency, peer_numbers, reaches}}

-- Members

any-member : (f : LinkSpec → ℕ) (ls : List LinkSpec) (n : ℕ) → list_any (λ l. nat_eq (f l) n) ls ≡ true →
    Contains (map f ls) n
any-member f [] n h = absurd (cc h)
any-member f (l ∷ ls) n h = go (nat_eq (f l) n) refl (any-member f ls n) h
  where
    go : (b : Bool) → nat_eq (f l) n ≡ b → (list_any (λ k. nat_eq (f k) n) ls ≡ true → Contains (map f ls) n) →
        (b || list_any (λ k. nat_eq (f k) n) ls) ≡ true → Contains (f l ∷ map f ls) n
    go true e later k = let same : f l ≡ n = grind arith in subst (λ m. Contains (f l ∷ map f ls) m) same
        (contains-head (f l) (map f ls))
    go false e later k = contains-tail (f l) n (map f ls) (later k)

member-any : (f : LinkSpec → ℕ) (ls : List LinkSpec) (n : ℕ) → Contains (map f ls) n →
    list_any (λ l. nat_eq (f l) n) ls ≡ true
member-any f [] n h = absurd (contains-none n h)
member-any f (l ∷ ls) n h = go (contains-cases (f l) n (map f ls) h) (member-any f ls n)
  where
    self : (m : ℕ) → nat_eq m m ≡ true
    self m = grind arith

    go : (f l ≡ n) ⊎ Contains (map f ls) n → (Contains (map f ls) n → list_any (λ k. nat_eq (f k) n) ls ≡ true) →
        (nat_eq (f l) n || list_any (λ k. nat_eq (f k) n) ls) ≡ true
    go (inl same) later = rw (ap (λ m. nat_eq m n) same ∙ self n) refl
    go (inr there) later = by (nat_eq (f l) n)
      where
        by : (b : Bool) → (b || list_any (λ k. nat_eq (f k) n) ls) ≡ true
        by true = refl
        by false = later there

member-reaches : (xs : List Adjacency) (n : ℕ) → Contains (peer_numbers xs) n → reaches xs n ≡ true
member-reaches [] n h = absurd (contains-none n h)
member-reaches (a ∷ xs) n h = go (contains-cases a.peer.0 n (peer_numbers xs) h) (member-reaches xs n)
  where
    self : (m : ℕ) → nat_eq m m ≡ true
    self m = grind arith

    go : (a.peer.0 ≡ n) ⊎ Contains (peer_numbers xs) n → (Contains (peer_numbers xs) n → reaches xs n ≡ true) →
        is_some (cond (nat_eq a.peer.0 n) (Some a) (find (is_adjacency_to n) xs)) ≡ true
    go (inl same) later = rw (ap (λ m. nat_eq m n) same ∙ self n) refl
    go (inr there) later = by (nat_eq a.peer.0 n)
      where
        by : (b : Bool) → is_some (cond b (Some a) (find (is_adjacency_to n) xs)) ≡ true
        by true = refl
        by false = later there

reaches-member : (xs : List Adjacency) (n : ℕ) → reaches xs n ≡ true → Contains (peer_numbers xs) n
reaches-member [] n h = absurd (cc h)
reaches-member (a ∷ xs) n h = go (nat_eq a.peer.0 n) refl (reaches-member xs n) h
  where
    go : (b : Bool) → nat_eq a.peer.0 n ≡ b → (reaches xs n ≡ true → Contains (peer_numbers xs) n) →
        is_some (cond b (Some a) (find (is_adjacency_to n) xs)) ≡ true → Contains (a.peer.0 ∷ peer_numbers xs) n
    go true e later k =
        let same : a.peer.0 ≡ n = grind arith in
        subst (λ m. Contains (a.peer.0 ∷ peer_numbers xs) m) same (contains-head a.peer.0 (peer_numbers xs))
    go false e later k = contains-tail a.peer.0 n (peer_numbers xs) (later k)

each-peer : (P : ℕ → Type 0) (xs : List Adjacency) → ((n : ℕ) → Contains (peer_numbers xs) n → P n) →
    AllByRecursion (λ (a : Adjacency). P a.peer.0) xs
each-peer P [] f = tt
each-peer P (a ∷ xs) f = (
  f a.peer.0 (contains-head a.peer.0 (peer_numbers xs)),
  each-peer P xs (λ n h. f n (contains-tail a.peer.0 n (peer_numbers xs) h)),
)

pub each-numbered : {X : Type 0} (P : ℕ → Type 0) (f : X → ℕ) (xs : List X) →
    ((n : ℕ) → Contains (map f xs) n → P n) → AllByRecursion (λ x. P (f x)) xs
each-numbered P f [] h = tt
each-numbered P f (x ∷ xs) h = (
  h (f x) (contains-head (f x) (map f xs)),
  each-numbered P f xs (λ n there. h n (contains-tail (f x) n (map f xs) there)),
)

-- Neighbours

pub neighbour-reached : (p : LocalNode) (xs : List Adjacency) → peer_numbers xs ≡ neighbours p → (n : NodeId) →
    is_neighbour p n ≡ true → reaches xs n.0 ≡ true
neighbour-reached p xs e n near =
    let ends : List ℕ = map (λ l. (other_end l p.id).0) p.own in
    let there : Contains ends n.0 = any-member (λ l. (other_end l p.id).0) p.own n.0 near in
    member-reaches xs n.0 (subst (λ ns. Contains ns n.0) (sym e) ((in_order-has nat_lt nat_order ends n.0).1 there))

reached-neighbour : (p : LocalNode) (xs : List Adjacency) → peer_numbers xs ≡ neighbours p → (n : NodeId) →
    reaches xs n.0 ≡ true → is_neighbour p n ≡ true
reached-neighbour p xs e n there =
    let ends : List ℕ = map (λ l. (other_end l p.id).0) p.own in
    member-any (λ l. (other_end l p.id).0) p.own n.0
    ((in_order-has nat_lt nat_order ends n.0).0 (subst (λ ns. Contains ns n.0) e (reaches-member xs n.0 there)))

-- a node is reached exactly where it is a neighbour
pub reach-is : (p : LocalNode) (xs : List Adjacency) → peer_numbers xs ≡ neighbours p → (n : NodeId) →
    reaches xs n.0 ≡ is_neighbour p n
reach-is p xs e n = go (reaches xs n.0) (is_neighbour p n) refl refl
  where
    go : (a b : Bool) → reaches xs n.0 ≡ a → is_neighbour p n ≡ b → reaches xs n.0 ≡ is_neighbour p n
    go true b h k = h ∙ sym (reached-neighbour p xs e n h)
    go false true h k = neighbour-reached p xs e n k ∙ sym k
    go false false h k = h ∙ sym k

pub number-near : (p : LocalNode) (n : ℕ) → Contains (neighbours p) n → is_neighbour p (record { 0 = n }) ≡ true
number-near p n there =
    let ends : List ℕ = map (λ l. (other_end l p.id).0) p.own in
    member-any (λ l. (other_end l p.id).0) p.own n ((in_order-has nat_lt nat_order ends n).0 there)

pub peers-near : (p : LocalNode) (xs : List Adjacency) → peer_numbers xs ≡ neighbours p →
    AllByRecursion (λ (a : Adjacency). is_neighbour p a.peer ≡ true) xs
peers-near p xs e = each-peer (λ n. list_any (λ (l : LinkSpec). nat_eq (other_end l p.id).0 n) p.own ≡ true) xs near
  where
    ends : List ℕ
    ends = map (λ l. (other_end l p.id).0) p.own

    near : (n : ℕ) → Contains (peer_numbers xs) n →
        list_any (λ (l : LinkSpec). nat_eq (other_end l p.id).0 n) p.own ≡ true
    near n h = member-any (λ l. (other_end l p.id).0) p.own n
        ((in_order-has nat_lt nat_order ends n).0 (subst (λ ns. Contains ns n) e h))

-- Each hop is the one to its neighbour

head-below : (x z : ℕ) (xs : List ℕ) → Rises nat_lt (x ∷ xs) → Contains xs z → nat_lt x z ≡ true
head-below x z xs r (k, within, is) = subst (λ y. nat_lt x y ≡ true) is
    (r.pairs 0 (suc k) z (omega arith) (omega arith))

pub tail-rises : (x : ℕ) (xs : List ℕ) → Rises nat_lt (x ∷ xs) → Rises nat_lt xs
tail-rises x xs r = record { pairs = λ i j d before within. r.pairs (suc i) (suc j) d (omega arith) (omega arith) }

no-hop : (xs : List Adjacency) (n : ℕ) → (Contains (peer_numbers xs) n → ⊥) → hop_at xs n ≡ fresh_hop
no-hop [] n none = refl
no-hop (a ∷ xs) n none = go (nat_eq a.peer.0 n) refl
    (no-hop xs n (λ h. none (contains-tail a.peer.0 n (peer_numbers xs) h)))
  where
    go : (b : Bool) → nat_eq a.peer.0 n ≡ b → hop_at xs n ≡ fresh_hop →
        (hop_of (cond b (Some a) (find (is_adjacency_to n) xs))).state ≡ fresh_hop
    go true e later =
        let same : a.peer.0 ≡ n = grind arith in
        absurd (none (subst (λ m. Contains (a.peer.0 ∷ peer_numbers xs) m) same
        (contains-head a.peer.0 (peer_numbers xs))))
    go false e later = later

each-hop : (P : HopState → Type 0) (xs : List Adjacency) → Rises nat_lt (peer_numbers xs) → P fresh_hop →
    ((d : ℕ) → P (hop_at xs d)) →
    AllByRecursion (λ (a : Adjacency). P a.hop.state) xs
each-hop P [] rises none each = tt
each-hop P (a ∷ xs) rises none each = (
  subst (λ b. P (hop_of (cond b (Some a) (find (is_adjacency_to a.peer.0) xs))).state) (self a.peer.0) (each a.peer.0),
  each-hop P xs (tail-rises a.peer.0 (peer_numbers xs) rises) none (λ d. go d (nat_eq a.peer.0 d) refl (each d)),
)
  where
    self : (m : ℕ) → nat_eq m m ≡ true
    self m = grind arith

    irreflexive : (m : ℕ) → nat_lt m m ≡ true → ⊥
    irreflexive m h = absurd (grind arith)

    go : (d : ℕ) (b : Bool) → nat_eq a.peer.0 d ≡ b → P (hop_of (cond b (Some a) (find (is_adjacency_to d) xs))).state →
        P (hop_at xs d)
    go d true e h =
        let same : a.peer.0 ≡ d = grind arith in
        subst P (sym (no-hop xs d (λ there. irreflexive d
        (subst (λ m. nat_lt m d ≡ true) same (head-below a.peer.0 d (peer_numbers xs) rises there))))) none
    go d false e h = h

pub each-to_neighbour : (P : HopState → Type 0) (p : LocalNode) (xs : List Adjacency) →
    peer_numbers xs ≡ neighbours p → P fresh_hop →
    ((d : ℕ) → P (hop_at xs d)) → AllByRecursion (λ (a : Adjacency). P a.hop.state) xs
each-to_neighbour P p xs e none each =
    each-hop P xs (subst (λ ns. Rises nat_lt ns) (sym e)
    (in_order-rises nat_lt nat_order (map (λ l. (other_end l p.id).0) p.own))) none each

-- New ones

pub peers-new : (ns : List ℕ) → peer_numbers (map new_adjacency ns) ≡ ns
peers-new [] = refl
peers-new (n ∷ ns) = ap (λ ms. n ∷ ms) (peers-new ns)

pub hop-new : (ns : List ℕ) (d : ℕ) → hop_at (map new_adjacency ns) d ≡ fresh_hop
hop-new [] d = refl
hop-new (n ∷ ns) d = go (nat_eq n d) (hop-new ns d)
  where
    go : (b : Bool) → hop_at (map new_adjacency ns) d ≡ fresh_hop →
        (hop_of (cond b (Some (new_adjacency n)) (find (is_adjacency_to d) (map new_adjacency ns)))).state ≡ fresh_hop
    go true later = refl
    go false later = later
