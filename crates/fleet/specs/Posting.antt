-- What a post makes of the stations of a fleet.
use Rattle.std.specs.{Prelude.{◌≡◌, ◌≤◌, ◌<◌, ◌==◌, ℕ, max, true, List, [], ◌∷◌, ◌++◌, fold, length, map, Some, None, slice_get, if◌then◌else◌, slice_set}, List.AllByRecursion}
use Rattle.ason_base.specs.{declared.ids.NodeId.NodeId, declared.commands.Command.Command, declared.commands.DeskItem.DeskItem, declared.commands.DeskItem.TheVariants.Order, declared.commands.Entry.Entry, declared.commands.Event.TheVariants.Post, declared.commands.Group.Group, Network.{IsTopology, Network, is_node_id}}
use Rattle.mesh_rules.specs.Failures.{all_news, failed_after}
use Rattle.round_rules.specs.States.{StationState}
use Rattle.fleet.specs.{declared.seats.Seat.Seat, Standing.{AreSeats, FleetState}}

-- Clocks

abbrev pub greatest_of : List StationState → ℕ
greatest_of xs = fold (λ (k : ℕ) (s : StationState). max k s.clock) 0 xs

abbrev pub with_clock : ℕ → StationState → StationState
with_clock stamp s = record s { clock = stamp }

-- Room

-- each desk has room for so many items more
abbrev pub HaveRoom : ℕ → List StationState → Type 0
HaveRoom items xs = AllByRecursion (λ (s : StationState). items ≤ s.spare) xs

-- Items

-- the station has these items at the end of its desk
pub record IsStationTold (items : List DeskItem) (old new : StationState) : Type 0 where
  pub station : new ≡ record old { desk = old.desk ++ items; spare = new.spare }

-- the stations at these places have what is for the nodes of their seats, and no other has
pub record AreTold (items : NodeId → List DeskItem) (places : ℕ) (seats : List Seat)
    (old new : List StationState) : Type 0 where
  pub count : length new ≡ length old
  pub told : (place : ℕ) (n : Seat) (s z : StationState) → place < places → slice_get seats place ≡ Some n →
      slice_get old place ≡ Some s → slice_get new place ≡ Some z → IsStationTold (items n.id) s z
  pub others : (place : ℕ) → places ≤ place → slice_get new place ≡ slice_get old place

-- the item is on the desk of the station at this place
pub record IsItemPut (place : ℕ) (item : DeskItem) (old new : List StationState) : Type 0 where
  pub before : StationState
  pub after : StationState
  pub there : slice_get old place ≡ Some before
  pub told : IsStationTold (item ∷ []) before after
  pub stations : new ≡ slice_set old place after

-- what a command of a call puts on the desk of this node
abbrev pub order_for : NodeId → Command → NodeId → List DeskItem
order_for ingress c n = if ingress.0 == n.0 then Order c ∷ [] else []

-- what a node is told where other groups have failed than before
abbrev pub news_for : Network → List Group → List Group → NodeId → List DeskItem
news_for t before after n = all_news t before after n.0

-- The post

-- the station has these items at the end of its desk, and the stamp of the post
pub record TakesItems (items : List DeskItem) (stamp : ℕ) (old new : StationState) : Type 0 where
  pub station : new ≡ record old { desk = old.desk ++ items; spare = new.spare; clock = stamp }

-- each station has what is for the node of its seat
pub record TakeItems (items : NodeId → List DeskItem) (stamp : ℕ) (seats : List Seat)
    (old new : List StationState) : Type 0 where
  pub count : length new ≡ length old
  pub each : (place : ℕ) (n : Seat) (x y : StationState) → slice_get seats place ≡ Some n →
      slice_get old place ≡ Some x → slice_get new place ≡ Some y → TakesItems (items n.id) stamp x y

-- The item is on the desk of the station at this place, and each station has the stamp.
pub record TakesOrder (place : ℕ) (item : DeskItem) (stamp : ℕ) (old new : List StationState) : Type 0 where
  pub put : List StationState
  pub is_put : IsItemPut place item old put
  pub clocks : new ≡ map (with_clock stamp) put

abbrev pub post_of : ℕ → Command → Entry
post_of stamp c = record { stamp = stamp; node = None; event = Post c }

-- the stations have what the post puts on their desks, and the post is listed
pub record HasPosted (items : NodeId → List DeskItem) (c : Command) (stamp : ℕ) (old new : FleetState) : Type 0 where
  pub stations : TakeItems items stamp old.seats old.stations new.stations
  pub seats : new.seats ≡ old.seats
  pub posts : new.posts ≡ old.posts ++ post_of stamp c ∷ []
  pub network : new.network ≡ old.network
  pub failed : new.failed ≡ failed_after c old.failed

-- of a group's command: each node is told what has changed
abbrev pub Changes : Command → ℕ → FleetState → FleetState → Type 0
Changes c stamp old new = HasPosted (news_for old.network old.failed (failed_after c old.failed)) c stamp old new

-- of whatever network the seats are, where this is a node of it
abbrev pub Orders : NodeId → Command → ℕ → FleetState → FleetState → Type 0
Orders n c stamp old new =
    (t : Network) → IsTopology t → AreSeats t old.seats → is_node_id t.nodes n ≡ true →
    HasPosted (order_for n c) c stamp old new
