-- The network of a generated plan is a topology.
use Rattle.std.proofs.Common.{◌≡◌, ◌<◌, ◌≤◌, ℕ, zero, suc, ◌+◌, ◌-◌, ◌/◌, ◌%◌, ◌==◌, ◌&&◌, ◌||◌, nat_lt, nat_le, Bool, true, false, length, Some, refl, ap, sym, subst, ◌∙◌, arith}
use Rattle.std.specs.{Prelude.slice_get, List.list_any}
use Rattle.ason_base.specs.{declared.limits.TheConstants.{MOST_LINKS, MOST_METRIC, MOST_NODES}, Network.{AreLinks, AreNodes, IsTopology, is_after, is_link, is_link_here, is_node_id, link_number, node_number}}
use Rattle.load_plan.specs.{Draws.{after_draws, drawn, next}, Networks.{high_of, link_at, links_from, low_of, drawn_network, nodes_from}}

-- Nodes

-- there are so many nodes
pub node_count : (i k x : ℕ) → length (nodes_from i k x) ≡ k
node_count i zero x = refl
node_count i (suc k) x = let e = node_count (i + 1) k (next x) in omega (arith, e)

number_of_node : (i k x j : ℕ) → j < k → node_number (slice_get (nodes_from i k x) j) ≡ i + j + 1
number_of_node i zero x j h = absurd (omega arith)
number_of_node i (suc k) x zero h = omega arith
number_of_node i (suc k) x (suc j) h =
    let e = number_of_node (i + 1) k (next x) j (omega arith) in e ∙ omega arith

are_nodes : (n x : ℕ) → AreNodes (nodes_from 0 n x) n
are_nodes n x zero h =
    let e : node_number (slice_get (nodes_from 0 n x) 0) ≡ 0 + 0 + 1 = number_of_node 0 n x 0 h in
    rw e refl
are_nodes n x (suc k) h =
    let here : node_number (slice_get (nodes_from 0 n x) (suc k)) ≡ 0 + suc k + 1 = number_of_node 0 n x (suc k) h in
    let e : suc k - 1 ≡ k = omega arith in
    let t : (suc k == 0) ≡ false = grind arith in
    let before : node_number (slice_get (nodes_from 0 n x) (suc k - 1)) ≡ 0 + k + 1 =
    rw e (number_of_node 0 n x k (omega arith)) in
    let above : nat_lt (0 + k + 1) (0 + suc k + 1) ≡ true = grind arith in
    rw (t, before, here) above

node_there : (i k x m : ℕ) → i < m → m ≤ i + k → list_any (λ s. s.id.0 == m) (nodes_from i k x) ≡ true
node_there i zero x m low high = absurd (omega arith)
node_there i (suc k) x m low high = go (node_there (i + 1) k (next x) m) (i + 1 == m) refl
  where
    go :
        (i + 1 < m → m ≤ i + 1 + k → list_any (λ s. s.id.0 == m) (nodes_from (i + 1) k (next x)) ≡ true) → (b : Bool)
        → (i + 1 == m) ≡ b → (b || list_any (λ s. s.id.0 == m) (nodes_from (i + 1) k (next x))) ≡ true
    go later true e = refl
    go later false e = later (grind (arith, e)) (omega arith)

-- a node of each number from 1 to n is there
pub node_is : (n x m : ℕ) → 1 ≤ m → m ≤ n → is_node_id (nodes_from 0 n x) (record { 0 = m }) ≡ true
node_is n x m low high = node_there 0 n x m (omega arith) (omega arith)

-- Links

link_count : (n i k x : ℕ) → length (links_from n i k x) ≡ k
link_count n i zero x = refl
link_count n i (suc k) x = let e = link_count n (i + 1) k (next (next x)) in omega (arith, e)

-- the link at a place, from some state
link_there :
    (n i k x j : ℕ) → j < k → (y : ℕ) × (slice_get (links_from n i k x) j ≡ Some (link_at n (i + j) y))
link_there n i zero x j h = absurd (omega arith)
link_there n i (suc k) x zero h =
    let e : i ≡ i + 0 = omega arith in (x, ap (λ (m : ℕ). Some (link_at n m x)) e)
link_there n i (suc k) x (suc j) h =
    let later = link_there n (i + 1) k (next (next x)) j (omega arith) in
    let e : i + 1 + j ≡ i + suc j = omega arith in
    (later.0, later.1 ∙ ap (λ (m : ℕ). Some (link_at n m later.0)) e)

number_of_link : (n i k x j : ℕ) → j < k → link_number (slice_get (links_from n i k x) j) ≡ i + j + 1
number_of_link n i k x j h = ap link_number (link_there n i k x j h).1

-- the ends of a link
record EndsFit (n m : ℕ) : Type 0 where
  pub some : 1 ≤ low_of n m
  pub apart : low_of n m < high_of n m
  pub most : high_of n m ≤ n

ends_fit : (n m : ℕ) → 4 ≤ n → m < n + n / 2 → EndsFit n m
ends_fit n m four below = go (nat_lt (m + 1) n) (m + 1 == n) refl refl
  where
    between :
        (a b : ℕ) → low_of n m ≡ a → high_of n m ≡ b → 1 ≤ a → a < b → b ≤ n → EndsFit n m
    between a b e f some apart most = record {
      some = subst (λ k. 1 ≤ k) (sym e) some;
      apart = rw (e, f) apart;
      most = subst (λ k. k ≤ n) (sym f) most;
    }

    go : (a b : Bool) → nat_lt (m + 1) n ≡ a → (m + 1 == n) ≡ b → EndsFit n m
    go true b e f =
        let less : m + 1 < n = grind (arith, e) in
        between (m + 1) (m + 2) (rw e refl) (rw e refl) (omega arith) (omega arith) (omega arith)
    go false true e f =
        between 1 n (rw (e, f) refl) (rw (e, f) refl) (omega arith) (omega arith) (omega arith)
    go false false e f =
        let past : n ≤ m = grind (arith, e, f) in
        between (m - n + 1) (m - n + 1 + n / 2) (rw (e, f) refl) (rw (e, f) refl) (omega arith) (omega arith)
        (omega arith)

metric_fits : (d : ℕ) → (nat_le 1 (1 + d % 10) && nat_le (1 + d % 10) MOST_METRIC) ≡ true
metric_fits d =
    let low : nat_le 1 (1 + d % 10) ≡ true = grind arith in
    let high : nat_le (1 + d % 10) MOST_METRIC ≡ true = by_size (d % 10) (omega arith) in
    rw (low, high) refl
  where
    by_size : (r : ℕ) → r < 10 → nat_le (1 + r) MOST_METRIC ≡ true
    by_size r h = grind arith

is_link_there :
    (n x m y : ℕ) → 4 ≤ n → m < n + n / 2 → is_link (nodes_from 0 n x) (link_at n m y) ≡ true
is_link_there n x m y four below =
    let ends = ends_fit n m four below in
    let apart : nat_lt (low_of n m) (high_of n m) ≡ true = by_order (low_of n m) (high_of n m) ends.apart in
    let low = node_is n x (low_of n m) ends.some (by_most (low_of n m) (high_of n m) ends.apart ends.most) in
    let high = node_is n x (high_of n m) (by_least (low_of n m) (high_of n m) ends.some ends.apart) ends.most in
    let metric = metric_fits (drawn y) in
    rw (apart, low, high, metric) refl
  where
    by_order : (a b : ℕ) → a < b → nat_lt a b ≡ true
    by_order a b h = grind arith

    by_most : (a b : ℕ) → a < b → b ≤ n → a ≤ n
    by_most a b h k = omega arith

    by_least : (a b : ℕ) → 1 ≤ a → a < b → 1 ≤ b
    by_least a b h k = omega arith

are_links : (n x y : ℕ) → 4 ≤ n → AreLinks (nodes_from 0 n x) (links_from n 0 (n + n / 2) y) (n + n / 2)
are_links n x y four k h =
    let found = link_there n 0 (n + n / 2) y k h in
    let place : 0 + k ≡ k = omega arith in
    let here : is_link_here (nodes_from 0 n x) (slice_get (links_from n 0 (n + n / 2) y) k) ≡ true =
    ap (is_link_here (nodes_from 0 n x)) found.1
    ∙ (ap (λ (m : ℕ). is_link (nodes_from 0 n x) (link_at n m found.0)) place
    ∙ is_link_there n x k found.0 four h) in
    rw (after k h, here) refl
  where
    after : (j : ℕ) → j < n + n / 2 → is_after (links_from n 0 (n + n / 2) y) j ≡ true
    after zero h =
        let e : link_number (slice_get (links_from n 0 (n + n / 2) y) 0) ≡ 0 + 0 + 1 =
        number_of_link n 0 (n + n / 2) y 0 h in
        rw e refl
    after (suc j) h =
        let here : link_number (slice_get (links_from n 0 (n + n / 2) y) (suc j)) ≡ 0 + suc j + 1 =
        number_of_link n 0 (n + n / 2) y (suc j) h in
        let e : suc j - 1 ≡ j = omega arith in
        let t : (suc j == 0) ≡ false = grind arith in
        let before : link_number (slice_get (links_from n 0 (n + n / 2) y) (suc j - 1)) ≡ 0 + j + 1 =
        rw e (number_of_link n 0 (n + n / 2) y j (omega arith)) in
        let above : nat_lt (0 + j + 1) (0 + suc j + 1) ≡ true = grind arith in
        rw (t, before, here) above

-- the generated network is a topology
pub is_topology : (n seed : ℕ) → 4 ≤ n → n ≤ MOST_NODES → IsTopology (drawn_network n seed)
is_topology n seed four most = record {
  count = counts (length (nodes_from 0 n seed)) (length (links_from n 0 (n + n / 2) (after_draws n seed)))
      (node_count 0 n seed) (link_count n 0 (n + n / 2) (after_draws n seed));
  nodes = λ k h. are_nodes n seed k (subst (λ (m : ℕ). k < m) (node_count 0 n seed) h);
  links = λ k h.
      are_links n seed (after_draws n seed) four k
      (subst (λ (m : ℕ). k < m) (link_count n 0 (n + n / 2) (after_draws n seed)) h);
}
  where
    counts : (a b : ℕ) → a ≡ n → b ≡ n + n / 2 → (nat_le 1 a && (nat_le a MOST_NODES && nat_le b MOST_LINKS)) ≡ true
    counts a b e f =
        let one : nat_le 1 a ≡ true = grind arith in
        let two : nat_le a MOST_NODES ≡ true = grind arith in
        let three : nat_le b MOST_LINKS ≡ true = few b (omega arith) in
        rw (one, two, three) refl
      where
        few : (c : ℕ) → c ≤ MOST_LINKS → nat_le c MOST_LINKS ≡ true
        few c h = grind arith
