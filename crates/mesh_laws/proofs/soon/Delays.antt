-- How long messages wait along a route, in sweeps: hop by hop down, and up again.
use Rattle.std.proofs.{Common.{◌≡◌, ◌≢◌, ◌≤◌, ◌<◌, ◌⊎◌, ℕ, zero, suc, ◌+◌, refl, arith, inl, inr}, lemmas.Bool.cases_lt}
use Rattle.ason_base.specs.{Network.Network, declared.ids.NodeId.NodeId}
use Rattle.lsp_laws.proofs.hops.Plans.{IsPlanRoute, Plan, distinct, hops, lt_false, lt_true, node_at}
use Rattle.mesh_laws.specs.Sweeps.{late}
use Rattle.mesh_laws.proofs.soon.Soon.{to_the_next}

-- what goes straight there waits no longer than what goes by another node
abbrev pub AreDelays : (ℕ → ℕ → ℕ) → Type 0
AreDelays delay = (u v w : ℕ) → delay u w ≤ delay u v + delay v w

module _ (delay : ℕ → ℕ → ℕ) (p : Plan) where
  -- down to this place
  abbrev pub down_to : ℕ → ℕ
  down_to zero = 0
  down_to (suc i) = down_to i + delay (node_at p i).0 (node_at p (suc i)).0

  -- up from this place
  abbrev pub up_from : ℕ → ℕ
  up_from zero = 0
  up_from (suc i) = delay (node_at p (suc i)).0 (node_at p i).0 + up_from i

  -- down all hops and up again
  abbrev pub there_and_back : ℕ
  there_and_back = down_to (hops p) + up_from (hops p)

  -- farther down it is longer
  pub down-grows : (i j : ℕ) → i ≤ j → down_to i ≤ down_to j
  down-grows i zero most = let e : i ≡ 0 = omega (arith, most) in rw e (omega arith)
  down-grows i (suc j) most = go (cases_lt i (suc j)) (λ less. down-grows i j less)
    where
      go : (i < suc j) ⊎ (suc j ≤ i) → (i ≤ j → down_to i ≤ down_to j) → down_to i ≤ down_to (suc j)
      go (inl less) again = let h = again (omega (arith, less)) in omega (arith, h)
      go (inr more) again = let e : i ≡ suc j = omega (arith, most, more) in rw e (omega arith)

  module _ (delays : AreDelays delay) where
    -- straight down is no longer
    pub down-straight : (i : ℕ) → delay (node_at p 0).0 (node_at p (suc i)).0 ≤ down_to (suc i)
    down-straight zero = omega arith
    down-straight (suc i) =
        let one = down-straight i in
        let two = delays (node_at p 0).0 (node_at p (suc i)).0 (node_at p (suc (suc i))).0 in
        omega (arith, one, two)

    -- nor is straight up to a place
    pub up-straight : (i j : ℕ) → i < j → delay (node_at p j).0 (node_at p i).0 + up_from i ≤ up_from j
    up-straight i zero small = absurd (omega (arith, small))
    up-straight i (suc j) small = go (cases_lt i j) (λ less. up-straight i j less)
      where
        go : (i < j) ⊎ (j ≤ i) → (i < j → delay (node_at p j).0 (node_at p i).0 + up_from i ≤ up_from j) →
            delay (node_at p (suc j)).0 (node_at p i).0 + up_from i ≤ up_from (suc j)
        go (inl less) again =
            let one = again less in
            let two = delays (node_at p (suc j)).0 (node_at p j).0 (node_at p i).0 in
            omega (arith, one, two)
        go (inr most) again = let e : i ≡ j = omega (arith, small, most) in rw e (omega arith)

    -- nor is what goes to a place at once, and up from there
    pub back-straight : (i h : ℕ) → i < h → delay (node_at p 0).0 (node_at p i).0 + up_from i ≤ down_to h + up_from h
    back-straight i zero small = absurd (omega (arith, small))
    back-straight i (suc h) small =
        let one = down-straight h in
        let two = up-straight i (suc h) small in
        let three = delays (node_at p 0).0 (node_at p (suc h)).0 (node_at p i).0 in
        omega (arith, one, two, three)

-- Where all waits for the next sweep

pub next-delays : AreDelays to_the_next
next-delays u v w = omega arith

-- each hop counts
pub next-down : (p : Plan) (i : ℕ) → down_to to_the_next p i ≡ i
next-down p zero = refl
next-down p (suc i) = let h = next-down p i in omega (arith, h)

pub next-up : (p : Plan) (i : ℕ) → up_from to_the_next p i ≡ i
next-up p zero = refl
next-up p (suc i) = let h = next-up p i in omega (arith, h)

-- In order of number

pub late-none : {u d : ℕ} → u < d → late u d ≡ 0
late-none less = rw (lt_true less) refl

pub late-one : {u d : ℕ} → d ≤ u → late u d ≡ 1
late-one most = rw (lt_false most) refl

pub late-delays : AreDelays late
late-delays u v w = go (cases_lt u v) (cases_lt v w) (cases_lt u w)
  where
    go : (u < v) ⊎ (v ≤ u) → (v < w) ⊎ (w ≤ v) → (u < w) ⊎ (w ≤ u) → late u w ≤ late u v + late v w
    go one two (inl less) = let h = late-none less in omega (arith, h)
    go (inr most) two (inr far) = let h = late-one most in let g = late-one far in omega (arith, h, g)
    go one (inr most) (inr far) = let h = late-one most in let g = late-one far in omega (arith, h, g)
    go (inl a) (inl b) (inr far) = absurd (omega (arith, a, b, far))

-- each hop is late in one of the two directions
pub late-once : (t : Network) (from : NodeId) (p : Plan) → IsPlanRoute t from p → (i : ℕ) → i ≤ hops p →
    down_to late p i + up_from late p i ≡ i
late-once t from p route zero most = refl
late-once t from p route (suc i) most =
    let rest = late-once t from p route i (omega (arith, most)) in
    let apart = distinct t from p route i (suc i) (omega (arith, most)) most (omega arith) in
    go rest (cases_lt (node_at p i).0 (node_at p (suc i)).0) (cases_lt (node_at p (suc i)).0 (node_at p i).0) apart
  where
    go : down_to late p i + up_from late p i ≡ i →
        ((node_at p i).0 < (node_at p (suc i)).0) ⊎ ((node_at p (suc i)).0 ≤ (node_at p i).0) →
        ((node_at p (suc i)).0 < (node_at p i).0) ⊎ ((node_at p i).0 ≤ (node_at p (suc i)).0) →
        (node_at p i).0 ≢ (node_at p (suc i)).0 → down_to late p (suc i) + up_from late p (suc i) ≡ suc i
    go rest (inl less) (inl more) apart = absurd (omega (arith, less, more))
    go rest (inl less) (inr most) apart =
        let a = late-none less in let b = late-one most in omega (arith, rest, a, b)
    go rest (inr most) (inl less) apart =
        let a = late-one most in let b = late-none less in omega (arith, rest, a, b)
    go rest (inr a) (inr b) apart = absurd (omega (arith, a, b, apart))
