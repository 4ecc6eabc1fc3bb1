-- What holds of a network of floods whatever happens in it.
use Rattle.std.specs.Prelude.{◌≡◌, ◌≢◌, ◌↔◌, ◌≤◌, ◌<◌, All, AllPairs, Contains, ℕ, true, false, not, List, ◌∷◌, ◌++◌, length, map}
use Rattle.ason_base.specs.{declared.limits.TheConstants.MOST_LINKS, declared.ids.NodeId.NodeId, declared.network.TeRow.TeRow, declared.steps.Step.Step, Network.{IsTopology, Network, row_of}, Walks.{HaveDistinctLinks, HaveFewEnds, HaveMetrics, IsWalk, NoLink, NoNode}}
use Rattle.flood.specs.{declared.messages.FloodMsg.TheVariants.Row, State.{FloodState, IsStart, NeighbourState, has_room, is_end, is_known, is_new, pending_count}, Networks.{FloodEvent, FloodNetwork, floods_after, begun, declared_rows, new_flood, nodes_beside, own_rows}}

-- routes can be asked for over the rows
pub record CanBeSearched (rows : List TeRow) : Type 0 where
  pub ends : HaveFewEnds rows
  pub metrics : HaveMetrics rows
  pub links : HaveDistinctLinks rows

-- the rows are of a network's links: at most 256, and no link joins a node with itself
pub record AreRowsOfLinks (rows : List TeRow) : Type 0 where
  pub search : CanBeSearched rows
  pub few : length rows ≤ MOST_LINKS
  pub apart : All (λ r. r.low.0 ≢ r.high.0) rows

abbrev pub LinksOfATopology : Type 0
LinksOfATopology = (t : Network) → IsTopology t → AreRowsOfLinks (map row_of t.links)

-- The start is what the calls make of the rows.

-- a start is the flood that knows nothing, with these neighbours
abbrev pub StartIsNew : Type 0
StartIsNew = (me : NodeId) (ids : List NodeId) (s : FloodState) → IsStart me ids s → s ≡ new_flood me ids

-- what `declare` asks for
pub record CanBeDeclared (s : FloodState) (row : TeRow) : Type 0 where
  pub own : is_end s.me row ≡ true
  pub unknown : is_known s.rows row.link ≡ false
  pub room : has_room s.rows row ≡ true

-- a node can declare each of its own rows, one after the other
abbrev pub OwnCanBeDeclared : Type 0
OwnCanBeDeclared =
    (rows : List TeRow) → AreRowsOfLinks rows
    → (n : NodeId) (before : List TeRow) (row : TeRow) (later : List TeRow) → own_rows rows n ≡ before ++ row ∷ later
    → CanBeDeclared (declared_rows (new_flood n (nodes_beside rows n)) before) row

-- What holds whatever happens after the start: whichever messages are lost, and however often and in whatever order the
-- others are taken.
abbrev pub InEveryRun : (List TeRow → FloodNetwork → Type 0) → Type 0
InEveryRun P =
    (rows : List TeRow) → AreRowsOfLinks rows → (events : List FloodEvent) → P rows (floods_after (begun rows) events)

-- what a node knows is a row of the network
abbrev pub KnownRowsAreTrue : List TeRow → FloodNetwork → Type 0
KnownRowsAreTrue rows w = (n : ℕ) (row : TeRow) → Contains (w.nodes n).rows row → Contains rows row

-- routes can be asked for over what a node knows
abbrev pub KnownCanBeSearched : List TeRow → FloodNetwork → Type 0
KnownCanBeSearched rows w = (n : ℕ) → CanBeSearched (w.nodes n).rows

-- who sent a row knows it
abbrev pub SentIsKnown : List TeRow → FloodNetwork → Type 0
SentIsKnown rows w =
    (u d number : ℕ) (origin : NodeId) (row : TeRow) → Contains (w.channels u d) (Row number origin row)
    → Contains (w.nodes u).rows row

-- A row that was sent is new to who takes it where its link isn't known there: the node is no end of it, and has room.
abbrev pub UnknownIsNew : List TeRow → FloodNetwork → Type 0
UnknownIsNew rows w =
    (u d number : ℕ) (origin : NodeId) (row : TeRow) → Contains (w.channels u d) (Row number origin row)
    → is_new (w.nodes d) row ≡ not (is_known (w.nodes d).rows row.link)

-- what is due to a neighbour stands in order of number
abbrev pub DueRises : List TeRow → FloodNetwork → Type 0
DueRises rows w =
    (n : ℕ) (l : NeighbourState) → Contains (w.nodes n).neighbours l → AllPairs (λ x y. x.number < y.number) l.due

-- on one channel, one number is one row from one origin
abbrev pub OneNumberIsOneRow : List TeRow → FloodNetwork → Type 0
OneNumberIsOneRow rows w =
    (u d number : ℕ) (origin other_origin : NodeId) (row other : TeRow)
    → Contains (w.channels u d) (Row number origin row) → Contains (w.channels u d) (Row number other_origin other)
    → (origin ≡ other_origin) × (row ≡ other)

-- no node has anything due to a neighbour
abbrev pub NothingIsDue : FloodNetwork → Type 0
NothingIsDue w = (n : ℕ) → pending_count (w.nodes n) ≡ 0

-- the links of the network lead from the one node to the other
abbrev pub AreJoined : List TeRow → NodeId → NodeId → Type 0
AreJoined rows a b = (steps : List Step) × (cost : ℕ) × IsWalk rows NoLink NoNode a b steps cost

-- where nothing is due, nodes that a walk joins know the same
abbrev pub JoinedNodesKnowSame : List TeRow → FloodNetwork → Type 0
JoinedNodesKnowSame rows w =
    NothingIsDue w → (a b : NodeId) → AreJoined rows a b
    → (row : TeRow) → Contains (w.nodes a.0).rows row ↔ Contains (w.nodes b.0).rows row

-- and they know the rows of each other's links
abbrev pub JoinedNodesKnowLinks : List TeRow → FloodNetwork → Type 0
JoinedNodesKnowLinks rows w =
    NothingIsDue w → (a b : NodeId) → AreJoined rows a b
    → (row : TeRow) → Contains rows row → is_end a row ≡ true → Contains (w.nodes b.0).rows row
