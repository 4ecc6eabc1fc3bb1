-- The network of a generated plan: its nodes, a ring over all of them, and a chord from each node of the first half to
-- the one opposite.
use Rattle.std.specs.Prelude.{ℕ, zero, suc, ◌+◌, ◌-◌, ◌*◌, ◌/◌, ◌%◌, ◌==◌, nat_lt, List, [], ◌∷◌, if◌then◌else◌}
use Rattle.ason_base.specs.{declared.limits.TheConstants.MOST_LABELS, Network.Network, declared.network.LinkSpec.LinkSpec, declared.network.NodeSpec.NodeSpec}
use Rattle.load_plan.specs.Draws.{after_draws, drawn, next}

-- Nodes

-- it draws once, and converts where the draw is odd
abbrev pub node_at : ℕ → ℕ → NodeSpec
node_at i x = record { id = record { 0 = i + 1 }; convert = drawn x % 2 == 1 }

-- so many nodes from this place on, from this state
abbrev pub nodes_from : ℕ → ℕ → ℕ → List NodeSpec
nodes_from i zero x = []
nodes_from i (suc k) x = node_at i x ∷ nodes_from (i + 1) k (next x)

-- Links: those of the ring, the last of them from the last node to the first, and then the chords

-- the lesser end of the link at this place
abbrev pub low_of : ℕ → ℕ → ℕ
low_of n i = if nat_lt (i + 1) n then i + 1 else if i + 1 == n then 1 else i - n + 1

-- its greater end
abbrev pub high_of : ℕ → ℕ → ℕ
high_of n i = if nat_lt (i + 1) n then i + 2 else if i + 1 == n then n else i - n + 1 + n / 2

-- it draws twice: its metric and its one SRLG
abbrev pub link_at : ℕ → ℕ → ℕ → LinkSpec
link_at n i x = record {
  id = record { 0 = i + 1 };
  low = record { 0 = low_of n i };
  high = record { 0 = high_of n i };
  labels = MOST_LABELS;
  metric = 1 + drawn x % 10;
  srlgs = (1 + drawn (next x) % n) ∷ [];
}

-- so many links from this place on, from this state
abbrev pub links_from : ℕ → ℕ → ℕ → ℕ → List LinkSpec
links_from n i zero x = []
links_from n i (suc k) x = link_at n i x ∷ links_from n (i + 1) k (next (next x))

-- Networks

-- a network of these nodes and links, where a call waits 2 ticks before it is restored
abbrev pub network_with : List NodeSpec → List LinkSpec → Network
network_with nodes links = record { wait = 2; nodes = nodes; links = links }

-- n nodes and their links, from this seed
abbrev pub drawn_network : ℕ → ℕ → Network
drawn_network n seed = network_with (nodes_from 0 n seed) (links_from n 0 (n + n / 2) (after_draws n seed))

-- the state after them
abbrev pub after_network : ℕ → ℕ → ℕ
after_network n seed = after_draws (2 * (n + n / 2)) (after_draws n seed)
