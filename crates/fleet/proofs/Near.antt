-- The neighbours of a node among the first so many nodes.
use Rattle.std.proofs.{Common.{◌≡◌, ◌≤◌, ◌+◌, ℕ, zero, suc, Bool, true, false, cond, nat_eq, List, [], ◌∷◌, ◌++◌, length, map, filter, take, refl, sym, ap, ◌∙◌, arith}, lemmas.List.take_all}
use Rattle.std.specs.{Prelude.{Some, slice_get}, List.AllByRecursion}
use Rattle.ason_base.specs.{declared.ids.NodeId.NodeId, declared.network.NodeSpec.NodeSpec, Network.{IsTopology, Network}}
use Rattle.ason_base.proofs.{Places.all-at, Numbers.apart-turned}
use Rattle.hop_reliable.proofs.Members.{take_next}
use Rattle.world_rules.specs.WorldRuns.{is_world_channel, neighbours_of}
use Rattle.round_rules.specs.{OneWorker.ids_of, Moves.AreApart}
use Rattle.round_rules.proofs.Nodes.{apart-ids}
use Rattle.fleet.specs.Joining.{near_among}
use Rattle.fleet.proofs.Places.{map-get}

abbrev near_of : Network → NodeId → List NodeSpec → List NodeId
near_of t n nodes = map (λ (m : NodeSpec). m.id) (filter (λ (m : NodeSpec). is_world_channel t m.id n) nodes)

near_more : (t : Network) (n : NodeId) (xs : List NodeSpec) (m : NodeSpec) (b : Bool) → is_world_channel t m.id n ≡ b →
    near_of t n (xs ++ m ∷ []) ≡ near_of t n xs ++ cond b (m.id ∷ []) []
near_more t n [] m true e = ap (λ b. map (λ (k : NodeSpec). k.id) (cond b (m ∷ []) [])) e
near_more t n [] m false e = ap (λ b. map (λ (k : NodeSpec). k.id) (cond b (m ∷ []) [])) e
near_more t n (x ∷ xs) m b e = go (is_world_channel t x.id n) (near_more t n xs m b e)
  where
    go : (a : Bool) → near_of t n (xs ++ m ∷ []) ≡ near_of t n xs ++ cond b (m.id ∷ []) [] →
        map (λ (k : NodeSpec). k.id) (cond a (x ∷ filter (λ (k : NodeSpec). is_world_channel t k.id n) (xs ++ m ∷ []))
        (filter (λ (k : NodeSpec). is_world_channel t k.id n) (xs ++ m ∷ [])))
        ≡ map (λ (k : NodeSpec). k.id) (cond a (x ∷ filter (λ (k : NodeSpec). is_world_channel t k.id n) xs)
        (filter (λ (k : NodeSpec). is_world_channel t k.id n) xs)) ++ cond b (m.id ∷ []) []
    go true rest = ap (λ ns. x.id ∷ ns) rest
    go false rest = rest

near_next : (t : Network) (n u : NodeId) (count : ℕ) (b : Bool) → slice_get (ids_of t) count ≡ Some u →
    is_world_channel t u n ≡ b → near_among t (count + 1) n ≡ near_among t count n ++ cond b (u ∷ []) []
near_next t n u count b at channel =
    let m = map-get (λ (k : NodeSpec). k.id) t.nodes count u at in
    let next : suc count ≡ count + 1 = omega arith in
    ap (λ k. near_among t k n) (sym next)
    ∙ ap (near_of t n) (take_next t.nodes count m.0 m.1)
    ∙ near_more t n (take count t.nodes) m.0 b (ap (λ (k : NodeId). is_world_channel t k n) m.2 ∙ channel)
    ∙ ap (λ (k : NodeId). near_among t count n ++ cond b (k ∷ []) []) m.2

-- where the next node is a neighbour
pub near-next : (t : Network) (n u : NodeId) (count : ℕ) → slice_get (ids_of t) count ≡ Some u →
    is_world_channel t u n ≡ true → near_among t (count + 1) n ≡ near_among t count n ++ u ∷ []
near-next t n u count at channel = near_next t n u count true at channel

-- where it is none
pub near-same : (t : Network) (n u : NodeId) (count : ℕ) → slice_get (ids_of t) count ≡ Some u →
    is_world_channel t u n ≡ false → near_among t (count + 1) n ≡ near_among t count n
near-same t n u count at channel = near_next t n u count false at channel ∙ none (near_among t count n)
  where
    none : (ns : List NodeId) → ns ++ [] ≡ ns
    none [] = refl
    none (k ∷ ns) = ap (λ ms. k ∷ ms) (none ns)

-- among all nodes
pub near-all : (t : Network) (n : NodeId) (count : ℕ) → length t.nodes ≤ count →
    near_among t count n ≡ neighbours_of t n
near-all t n count whole = ap (near_of t n) (take_all count t.nodes whole)

-- The next node is none of those before it.

others : (t : Network) (n u : NodeId) (nodes : List NodeSpec) (count : ℕ) →
    AreApart (map (λ (m : NodeSpec). m.id) nodes) →
    slice_get (map (λ (m : NodeSpec). m.id) nodes) count ≡ Some u →
    AllByRecursion (λ (m : NodeId). nat_eq m.0 u.0 ≡ false) (near_of t n (take count nodes))
others t n u [] zero apart at = tt
others t n u [] (suc count) apart at = tt
others t n u (m ∷ nodes) zero apart at = tt
others t n u (m ∷ nodes) (suc count) apart at = go (is_world_channel t m.id n) (others t n u nodes count apart.1 at)
  where
    other : nat_eq m.id.0 u.0 ≡ false
    other = apart-turned u.0 m.id.0
        (all-at (λ (k : NodeId). nat_eq k.0 m.id.0 ≡ false) (map (λ (k : NodeSpec). k.id) nodes) count u apart.0 at)

    go : (b : Bool) → AllByRecursion (λ (k : NodeId). nat_eq k.0 u.0 ≡ false) (near_of t n (take count nodes)) →
        AllByRecursion (λ (k : NodeId). nat_eq k.0 u.0 ≡ false)
        (map (λ (k : NodeSpec). k.id) (cond b (m ∷ filter (λ (k : NodeSpec). is_world_channel t k.id n) (take count nodes))
        (filter (λ (k : NodeSpec). is_world_channel t k.id n) (take count nodes))))
    go true rest = (other, rest)
    go false rest = rest

pub near-apart : (t : Network) (n u : NodeId) (count : ℕ) → IsTopology t → slice_get (ids_of t) count ≡ Some u →
    AllByRecursion (λ (m : NodeId). nat_eq m.0 u.0 ≡ false) (near_among t count n)
near-apart t n u count valid at = others t n u t.nodes count (apart-ids t valid) at
