-- Places for the nodes of a network, and arcs between them that stand for its rows.
use Rattle.std.specs.{Prelude.{◌≡◌, ◌⊎◌, ℕ, ◌<◌, ◌≤◌, ◌%◌, List, Bool, true, false, Some, length, slice_get, slice_index_or}, List.{AllPairs, Contains}}
use Rattle.route_least.specs.{declared.places.TheConstants.GUESSES, declared.places.Arc.Arc, declared.places.Place.Place, declared.order.NodePlace.NodePlace, declared.network.RouteNetwork.RouteNetwork}
use Rattle.ason_base.specs.{declared.limits.TheConstants.{MOST_METRIC, MOST_NODES}, Walks.{HaveDistinctLinks, HaveMetrics, Joins}, declared.ids.LinkId.LinkId, declared.ids.NodeId.NodeId, declared.network.TeRow.TeRow}

-- the node stands in the place
abbrev pub HasNode : List Place → ℕ → NodeId → Type 0
HasNode places p n = (place : Place) × (slice_get places p ≡ Some place) × (place.node ≡ n)

-- the arc is one of those from the place
abbrev pub HasArc : List Place → ℕ → Arc → Type 0
HasArc places p arc = (place : Place) × (slice_get places p ≡ Some place) × Contains place.arcs.items arc

-- no node stands in two places
abbrev pub AreOnce : List Place → Type 0
AreOnce places = (i j : ℕ) (n : NodeId) → HasNode places i n → HasNode places j n → i ≡ j

-- the node is an end of a row
abbrev pub IsEnd : List TeRow → NodeId → Type 0
IsEnd rows n = (row : TeRow) × Contains rows row × ((row.low ≡ n) ⊎ (row.high ≡ n))

-- from the place of a the arc leads to that of b, over the row, which stands in this place of the list of rows
pub record IsArc (places : List Place) (of : TeRow) (index p : ℕ) (a b : NodeId) (arc : Arc) : Type 0 where
  pub tail : HasNode places p a
  pub head : HasNode places arc.head b
  pub row : arc.row ≡ index
  pub link : arc.link ≡ of.link
  pub metric : arc.metric ≡ of.metric

-- from the place an arc is that of one of the first rows, so many
pub record IsOfRow (rows : List TeRow) (count : ℕ) (places : List Place) (p : ℕ) (arc : Arc) : Type 0 where
  pub row : TeRow
  pub tail : NodeId
  pub head : NodeId
  pub first : arc.row < count
  pub known : slice_get rows arc.row ≡ Some row
  pub joins : Joins row tail head
  pub is : IsArc places row arc.row p tail head arc

-- some place has an arc for the row from a to b
pub record HasRow (places : List Place) (row : TeRow) (index : ℕ) (a b : NodeId) : Type 0 where
  pub place : ℕ
  pub arc : Arc
  pub there : HasArc places place arc
  pub is : IsArc places row index place a b arc

-- a guess for each remainder of 256: where a node has a place, that of its remainder is a place
pub record AreGuesses (places : List Place) (guesses : List ℕ) : Type 0 where
  pub len : length guesses ≡ GUESSES
  pub known : (p : ℕ) (n : NodeId) → HasNode places p n → slice_index_or guesses (n.0 % GUESSES) 0 < length places

-- the places are those of the ends of the first rows, so many, and their arcs those of these rows, both ways
pub record ArePlaces (rows : List TeRow) (count : ℕ) (places : List Place) : Type 0 where
  pub once : AreOnce places
  pub ends : (p : ℕ) (n : NodeId) → HasNode places p n → IsEnd rows n
  pub sound : (p : ℕ) (arc : Arc) → HasArc places p arc → IsOfRow rows count places p arc
  pub complete : (index : ℕ) (row : TeRow) (a b : NodeId) → index < count → slice_get rows index ≡ Some row →
      Joins row a b → HasRow places row index a b

-- the node of each place with the place, in order of node
pub record AreNodesInOrder (places : List Place) (order : List NodePlace) : Type 0 where
  pub rising : AllPairs (λ x y. x.node.0 < y.node.0) order
  pub sound : (e : NodePlace) → Contains order e → HasNode places e.place e.node
  pub complete : (p : ℕ) (n : NodeId) → HasNode places p n → Contains order (record { node = n; place = p })

-- the entries are the nodes of the first places, so many, in order of place
pub record AreNumbered (places : List Place) (count : ℕ) (entries : List NodePlace) : Type 0 where
  pub len : length entries ≡ count
  pub are : (k : ℕ) (e : NodePlace) → slice_get entries k ≡ Some e → (e.place ≡ k) × HasNode places k e.node

-- the network was prepared from the rows, of which routes may be asked
pub record IsNetworkOf (rows : List TeRow) (network : RouteNetwork) : Type 0 where
  pub places : ArePlaces rows (length rows) network.places.items
  pub order : AreNodesInOrder network.places.items network.order.items
  pub few : length network.places.items ≤ MOST_NODES
  pub metrics : HaveMetrics rows
  pub links : HaveDistinctLinks rows

-- it was prepared from so many rows
abbrev pub IsPrepared : ℕ → RouteNetwork → Type 0
IsPrepared count network = (rows : List TeRow) × IsNetworkOf rows network × (count ≡ length rows)

-- Changes while a network is prepared

-- the node has this place, which it had or got
pub record HasSeated (old new : List Place) (n : NodeId) (p : ℕ) : Type 0 where
  pub there : HasNode new p n
  pub once : AreOnce new
  pub kept : (i : ℕ) (m : NodeId) → HasNode old i m → HasNode new i m
  pub only : (i : ℕ) (m : NodeId) → HasNode new i m → HasNode old i m ⊎ (m ≡ n)
  pub arcs : (i : ℕ) (arc : Arc) → HasArc old i arc → HasArc new i arc
  pub same : (i : ℕ) (arc : Arc) → HasArc new i arc → HasArc old i arc

-- the place has one arc more
pub record HasGained (old new : List Place) (p : ℕ) (arc : Arc) : Type 0 where
  pub nodes : (i : ℕ) (m : NodeId) → HasNode old i m → HasNode new i m
  pub same : (i : ℕ) (m : NodeId) → HasNode new i m → HasNode old i m
  pub gained : HasArc new p arc
  pub kept : (i : ℕ) (a : Arc) → HasArc old i a → HasArc new i a
  pub only : (i : ℕ) (a : Arc) → HasArc new i a → HasArc old i a ⊎ ((i ≡ p) × (a ≡ arc))

-- the row has an arc each way, and its ends have their places
pub record HasAdded (old new : List Place) (row : TeRow) (index : ℕ) : Type 0 where
  pub once : AreOnce new
  pub nodes : (i : ℕ) (m : NodeId) → HasNode old i m → HasNode new i m
  pub only : (i : ℕ) (m : NodeId) → HasNode new i m → HasNode old i m ⊎ ((row.low ≡ m) ⊎ (row.high ≡ m))
  pub kept : (i : ℕ) (a : Arc) → HasArc old i a → HasArc new i a
  pub sound : (i : ℕ) (a : Arc) → HasArc new i a →
      HasArc old i a ⊎ ((x : NodeId) × (y : NodeId) × Joins row x y × IsArc new row index i x y a)
  pub complete : (x y : NodeId) → Joins row x y → HasRow new row index x y

-- Bans

-- one of the rows of the link is closed
abbrev pub IsClosed : List TeRow → List Bool → LinkId → Type 0
IsClosed rows closed l = (index : ℕ) × (row : TeRow) × (slice_get rows index ≡ Some row) × (row.link ≡ l) ×
    (slice_index_or closed index false ≡ true)

-- the arc's row isn't closed, and it leads to no banned node
pub record IsFree (places : List Place) (closed : List Bool) (banned : List NodeId) (arc : Arc) : Type 0 where
  pub row : slice_index_or closed arc.row false ≡ false
  pub node : (n : NodeId) → HasNode places arc.head n → ¬ Contains banned n

-- a walk may go from the place along the arc
abbrev pub Goes : List Place → List Bool → List NodeId → ℕ → Arc → Type 0
Goes places closed banned p arc = HasArc places p arc × IsFree places closed banned arc

-- the arc leads to one of so many places, over one of so many rows, at a metric of a link
pub record IsArcWithin (places rows : ℕ) (arc : Arc) : Type 0 where
  pub head : arc.head < places
  pub row : arc.row < rows
  pub positive : 1 ≤ arc.metric
  pub metric : arc.metric ≤ MOST_METRIC

-- the arc leads back, over the same row
pub record IsBack (p : ℕ) (arc back : Arc) : Type 0 where
  pub head : back.head ≡ p
  pub row : back.row ≡ arc.row
  pub metric : back.metric ≡ arc.metric

-- there are at most 64 places; the arcs are among them and the rows, and each leads back too
pub record AreSound (rows : ℕ) (places : List Place) : Type 0 where
  pub few : length places ≤ MOST_NODES
  pub within : (p : ℕ) (arc : Arc) → HasArc places p arc → IsArcWithin (length places) rows arc
  pub back : (p : ℕ) (arc : Arc) → HasArc places p arc → (other : Arc) × HasArc places arc.head other ×
      IsBack p arc other
