-- Loops over adjacencies.
use Rattle.std.proofs.Common.{◌≡◌, ◌<◌, ◌≤◌, ◌+◌, ◌*◌, ◌^◌, ℕ, zero, suc, List, [], ◌∷◌, ◌++◌, length, get_or, set, take, drop, map, refl, sym, ap, ◌∙◌, arith, add-one}
use Rattle.ason_base.specs.declared.limits.TheConstants.{MOST_LINKS}
use Rattle.control_channels.specs.{declared.adjacencies.Adjacency.Adjacency, ReadyControllers.unacknowledged}

-- each is changed in its place

get-mapped : (f : Adjacency → Adjacency) (xs : List Adjacency) (i : ℕ) (d : Adjacency) → i < length xs →
    get_or (map f (take i xs) ++ drop i xs) i d ≡ get_or xs i d
get-mapped f [] i d h = absurd (omega arith)
get-mapped f (x ∷ xs) zero d h = refl
get-mapped f (x ∷ xs) (suc i) d h = get-mapped f xs i d (omega arith)

set-mapped : (f : Adjacency → Adjacency) (xs : List Adjacency) (i : ℕ) (d : Adjacency) → i < length xs →
    set (map f (take i xs) ++ drop i xs) i (f (get_or xs i d)) ≡ map f (take (suc i) xs) ++ drop (suc i) xs
set-mapped f [] i d h = absurd (omega arith)
set-mapped f (x ∷ xs) zero d h = refl
set-mapped f (x ∷ xs) (suc i) d h = ap (λ ys. f x ∷ ys) (set-mapped f xs i d (omega arith))

pub mapped-more : (f : Adjacency → Adjacency) (xs now : List Adjacency) (i : ℕ) (d y : Adjacency) → i < length xs →
    now ≡ map f (take i xs) ++ drop i xs → y ≡ f (get_or now i d) → set now i y ≡ map f (take (i + 1) xs) ++
    drop (i + 1) xs
mapped-more f xs now i d y h same is = rw (is, same, get-mapped f xs i d h, add-one i) (set-mapped f xs i d h)

-- one more is counted

pub count-more : (xs : List Adjacency) (i : ℕ) (d : Adjacency) (total more : ℕ) → i < length xs →
    total ≡ unacknowledged (take i xs) →
    more ≡ length (get_or xs i d).hop.state.unacked → total + more ≡ unacknowledged (take (i + 1) xs)
count-more xs i d total more h is one = rw (add-one i, is, one) (sym (go xs i h))
  where
    go : (xs : List Adjacency) (i : ℕ) → i < length xs →
        unacknowledged (take (suc i) xs) ≡ unacknowledged (take i xs) + length (get_or xs i d).hop.state.unacked
    go [] i h = absurd (omega arith)
    go (x ∷ xs) zero h = omega arith
    go (x ∷ xs) (suc i) h =
        let later : unacknowledged (take (suc i) xs) ≡ unacknowledged (take i xs) + length
        (get_or xs i d).hop.state.unacked = go xs i (omega arith) in
        omega arith

pub most-more : (i total more : ℕ) → total ≤ i * 2 ^ 32 → more < 2 ^ 32 → total + more ≤ (i + 1) * 2 ^ 32
most-more i total more h k = omega arith

pub total-fits : (i n total more : ℕ) → total ≤ i * 2 ^ 32 → more < 2 ^ 32 → i < n → n ≤ MOST_LINKS →
    total + more < 2 ^ 64
total-fits i n total more h k within few = omega arith

-- a whole vector, as a slice of all of it leaves it
pub whole : (xs ys : List Adjacency) (n : ℕ) → length xs ≡ n → xs ≡ take n (xs ++ drop (length xs) ys)
whole xs ys n e = go xs (drop (length xs) ys) ∙ ap (λ m. take m (xs ++ drop (length xs) ys)) e
  where
    go : (xs zs : List Adjacency) → xs ≡ take (length xs) (xs ++ zs)
    go [] zs = refl
    go (x ∷ xs) zs = ap (λ us. x ∷ us) (go xs zs)
