-- Where nothing is prepared, and where all that was prepared is sent.
use Rattle.std.proofs.Common.{◌≡◌, ◌+◌, ℕ, Bool, true, false, cond, nat_eq, List, [], ◌∷◌, map, refl, sym, ap, ◌∙◌, arith, append-nil}
use Rattle.std.specs.Prelude.{find, Some, None, is_some}
use Rattle.hop_reliable.specs.Hop.{HopState, PreparedHop, all_sent, fresh_hop, resting, ticked}
use Rattle.control_channels.specs.{declared.adjacencies.Adjacency.Adjacency, Adjacencies.{aged, committed, hop_at, hop_of, is_adjacency_to, next_at, peer_numbers, prepared_at, reaches, rested, with_hop}}

-- each hop changes in this way
module _ (f : PreparedHop → PreparedHop) where
  reaches-map : (xs : List Adjacency) (d : ℕ) → reaches (map (λ a. with_hop (f a.hop) a) xs) d ≡ reaches xs d
  reaches-map [] d = refl
  reaches-map (a ∷ xs) d = go (nat_eq a.peer.0 d) (reaches-map xs d)
    where
      go : (b : Bool) → reaches (map (λ a. with_hop (f a.hop) a) xs) d ≡ reaches xs d →
          is_some (cond b (Some (with_hop (f a.hop) a)) (find (is_adjacency_to d) (map (λ a. with_hop (f a.hop) a) xs)))
          ≡ is_some (cond b (Some a) (find (is_adjacency_to d) xs))
      go true later = refl
      go false later = later

  peers-map : (xs : List Adjacency) → peer_numbers (map (λ a. with_hop (f a.hop) a) xs) ≡ peer_numbers xs
  peers-map [] = refl
  peers-map (a ∷ xs) = ap (λ ns. a.peer.0 ∷ ns) (peers-map xs)

  -- what is read of each is what is read of it before
  read-map : {X : Type 0} (g h : PreparedHop → X) → ((k : PreparedHop) → g (f k) ≡ h k) →
      g (hop_of None) ≡ h (hop_of None) →
      (xs : List Adjacency) (d : ℕ) → g (prepared_at (map (λ a. with_hop (f a.hop) a) xs) d) ≡ h (prepared_at xs d)
  read-map g h each none [] d = none
  read-map g h each none (a ∷ xs) d = go (nat_eq a.peer.0 d) (read-map g h each none xs d)
    where
      go : (b : Bool) → g (prepared_at (map (λ a. with_hop (f a.hop) a) xs) d) ≡ h (prepared_at xs d) →
          g (hop_of (cond b (Some (with_hop (f a.hop) a))
          (find (is_adjacency_to d) (map (λ a. with_hop (f a.hop) a) xs))))
          ≡ h (hop_of (cond b (Some a) (find (is_adjacency_to d) xs)))
      go true later = each a.hop
      go false later = later

pub hop-rested : (xs : List Adjacency) (d : ℕ) → hop_at (map rested xs) d ≡ hop_at xs d
hop-rested xs d = read-map (λ h. resting h.state) (λ h. h.state) (λ h. h.state) (λ h. refl) refl xs d

pub hop-committed : (xs : List Adjacency) (d : ℕ) → hop_at (map committed xs) d ≡ next_at xs d
hop-committed xs d = read-map (λ h. resting (all_sent h)) (λ h. h.state) all_sent (λ h. refl) refl xs d

pub next-aged : (xs : List Adjacency) (d : ℕ) →
    next_at (map aged xs) d ≡ all_sent (record { state = ticked (hop_at xs d); prepared = (prepared_at xs d).prepared })
next-aged xs d =
    read-map (λ h. record { state = ticked h.state; prepared = h.prepared }) all_sent
    (λ h. all_sent (record { state = ticked h.state; prepared = h.prepared })) (λ h. refl) refl xs d

-- Two lists that differ in what is prepared alone

pub same-hop : (xs bs : List Adjacency) → map rested xs ≡ map rested bs → (d : ℕ) → hop_at xs d ≡ hop_at bs d
same-hop xs bs e d = sym (hop-rested xs d) ∙ ap (λ cs. hop_at cs d) e ∙ hop-rested bs d

pub same-reach : (xs bs : List Adjacency) → map rested xs ≡ map rested bs → (d : ℕ) → reaches xs d ≡ reaches bs d
same-reach xs bs e d = sym (reaches-map (λ h. resting h.state) xs d) ∙ ap (λ cs. reaches cs d) e ∙
    reaches-map (λ h. resting h.state) bs d

pub same-peers : (xs bs : List Adjacency) → map rested xs ≡ map rested bs → peer_numbers xs ≡ peer_numbers bs
same-peers xs bs e = sym (peers-map (λ h. resting h.state) xs) ∙ ap peer_numbers e ∙ peers-map (λ h. resting h.state) bs

pub peers-committed : (xs : List Adjacency) → peer_numbers (map committed xs) ≡ peer_numbers xs
peers-committed xs = peers-map (λ h. resting (all_sent h)) xs

pub peers-aged : (xs : List Adjacency) → peer_numbers (map aged xs) ≡ peer_numbers xs
peers-aged xs = peers-map (λ h. record { state = ticked h.state; prepared = h.prepared }) xs

-- after a commit nothing is prepared
pub committed-rests : (xs : List Adjacency) → map rested (map committed xs) ≡ map committed xs
committed-rests [] = refl
committed-rests (a ∷ xs) = ap (λ bs. committed a ∷ bs) (committed-rests xs)

all-resting : (h : HopState) → all_sent (resting h) ≡ h
all-resting h =
    let count : h.sent + 0 ≡ h.sent = omega arith in
    λ i. record { sent = count i; handed_up = h.handed_up; unacked = append-nil h.unacked i }

-- where nothing is prepared, a commit changes nothing
pub resting-committed : (xs : List Adjacency) → map rested xs ≡ xs → xs ≡ map committed xs
resting-committed xs e = sym e ∙ sym (go xs) ∙ ap (map committed) e
  where
    go : (ys : List Adjacency) → map committed (map rested ys) ≡ map rested ys
    go [] = refl
    go (a ∷ ys) = λ i. with_hop (resting (all-resting a.hop.state i)) a ∷ go ys i

pub next-rested : (xs : List Adjacency) (d : ℕ) → next_at (map rested xs) d ≡ hop_at xs d
next-rested xs d = read-map (λ h. resting h.state) all_sent (λ h. h.state) (λ h. all-resting h.state)
    (all-resting fresh_hop) xs d

-- where nothing is prepared, what will be sent is sent
pub next-is : (xs : List Adjacency) → map rested xs ≡ xs → (d : ℕ) → next_at xs d ≡ hop_at xs d
next-is xs rest d = ap (λ bs. next_at bs d) (sym rest) ∙ next-rested xs d
