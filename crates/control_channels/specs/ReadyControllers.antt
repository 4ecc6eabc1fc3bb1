-- What a controller keeps, so that each of its steps can be made.
use Rattle.std.specs.{Prelude.{◌≡◌, ◌≤◌, ◌<◌, ◌+◌, ◌-◌, ◌*◌, ◌^◌, ℕ, List, [], ◌∷◌, length, map, IsTrue}, List.AllByRecursion}
use Rattle.ason_base.specs.{declared.limits.TheConstants.{MOST_EVENTS, MOST_LINKS}, declared.ids.NodeId.NodeId, Network.{Network, row_of}}
use Rattle.mesh_nodes.specs.LocalNodes.{is_neighbour}
use Rattle.mesh_rules.specs.{KnownRows.known_rows, LocalNodes.{LocalNode, local_node}, State.{NodeState, new_node}}
use Rattle.flood.specs.{declared.due.Due.Due, Networks.begun_node, State.FloodState}
use Rattle.te_tlv.specs.Written.{IsRowWritable}
use Rattle.control_channels.specs.{declared.adjacencies.Adjacency.Adjacency, declared.frames.Frame.Frame, declared.inputs.CoreInput.CoreInput, Adjacencies.{CanGoAgain, hop_at, neighbours, new_adjacency, peer_numbers, reaches, rested}, Controllers.ControllerState}
use Rattle.control_channels.specs.declared.inputs.CoreInput.TheVariants as input

-- how many messages aren't acknowledged
abbrev pub unacknowledged : List Adjacency → ℕ
unacknowledged [] = 0
unacknowledged (a ∷ adjacencies) = length a.hop.state.unacked + unacknowledged adjacencies

-- the row can go to a neighbour
abbrev pub CanGo : Due → Type 0
CanGo d = IsRowWritable d.origin d.row

-- what a node floods are the rows that it knows, to its neighbours, and what is due to them can be written
pub record FloodFits (p : LocalNode) (s : NodeState) (f : FloodState) : Type 0 where
  pub me : f.me ≡ p.id
  pub rows : f.rows ≡ known_rows p s
  pub neighbours : map (λ n. n.id.0) f.neighbours ≡ neighbours p
  pub due : AllByRecursion (λ n. AllByRecursion CanGo n.due) f.neighbours

-- after so many steps
pub record IsKeptAfter (p : LocalNode) (adjacencies : List Adjacency) (steps : ℕ) : Type 0 where
  -- a hop to each neighbour, in order of neighbour
  pub peers : peer_numbers adjacencies ≡ neighbours p
  pub narrow : length (neighbours p) ≤ MOST_LINKS
  -- each unacknowledged message can be written
  pub again : (d : ℕ) → CanGoAgain (hop_at adjacencies d)
  -- a step sends at most 65,536 messages
  pub few : (d : ℕ) → (hop_at adjacencies d).sent ≤ 65536 * steps
  -- only what was sent waits for its acknowledgement
  pub waiting : (d : ℕ) → length (hop_at adjacencies d).unacked ≤ (hop_at adjacencies d).sent
  -- nothing is prepared between steps
  pub rest : map rested adjacencies ≡ adjacencies

-- the next step can be made
pub record IsReady (p : LocalNode) (adjacencies : List Adjacency) : Type 0 where
  pub reached : (n : NodeId) → IsTrue (is_neighbour p n) → IsTrue (reaches adjacencies n.0)
  pub again : AllByRecursion (λ a. CanGoAgain a.hop.state) adjacencies
  pub left : (d : ℕ) → (hop_at adjacencies d).sent + 65536 < 2 ^ 32 - 1
  pub near : AllByRecursion (λ a. IsTrue (is_neighbour p a.peer)) adjacencies
  pub narrow : length (neighbours p) ≤ MOST_LINKS
  -- all that 50,000 steps send to 256 neighbours
  pub waiting : unacknowledged adjacencies ≤ MOST_LINKS * (65536 * MOST_EVENTS)
  pub rest : map rested adjacencies ≡ adjacencies

-- a frame comes from a neighbour
abbrev pub IsFromNeighbour : LocalNode → CoreInput → Type 0
IsFromNeighbour p (input.Frame u bytes) = IsTrue (is_neighbour p u)
IsFromNeighbour p input.Tick = Unit {0}
IsFromNeighbour p (input.Desk i) = Unit {0}

-- each frame goes to a neighbour
abbrev pub AllFramesToNeighbours : LocalNode → List Frame → Type 0
AllFramesToNeighbours p frames = AllByRecursion (λ f. IsTrue (is_neighbour p f.to)) frames

-- the controller of this node that made no step: the rows of its own links are due to every neighbour
abbrev pub new_controller : Network → NodeId → ControllerState
new_controller t id = record {
  node = record { place = local_node t id; state = new_node };
  adjacencies = map new_adjacency (neighbours (local_node t id));
  flood = begun_node (map row_of t.links) id;
  steps = 0;
}
