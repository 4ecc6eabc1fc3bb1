-- The stations of a fleet stand for a record of what their nodes did.
use Rattle.std.specs.{Prelude.{◌≡◌, ◌≤◌, ◌^◌, ℕ, List, length, map, Some, slice_get}, List.AllByRecursion}
use Rattle.ason_base.specs.{declared.ids.NodeId.NodeId, declared.commands.Disturb.Disturb, declared.commands.Entry.Entry, declared.commands.Group.Group, Network.Network}
use Rattle.world_rules.specs.WorldRuns.{neighbours_of}
use Rattle.round_rules.specs.{OneWorker.ids_of, Records.{Record, log_at, posts_in, world_of}, States.StationState, Fleets.{AreStanding, Wires, AllBegun}, Gaps.PostsFollow}
use Rattle.fleet.specs.{declared.seats.End.End, declared.seats.Seat.Seat}

-- the nodes' seats, their stations in the same order, what was posted, the network, and the groups that have failed
pub record FleetState : Type 0 where
  pub seats : List Seat
  pub stations : List StationState
  pub posts : List Entry
  pub network : Network
  pub failed : List Group

-- what is beside seats and stations stays
pub record KeepsRest (old new : FleetState) : Type 0 where
  pub posts : new.posts ≡ old.posts
  pub network : new.network ≡ old.network
  pub failed : new.failed ≡ old.failed

-- Seats

-- the far end of the link from node n to node u is at the station of u, and the link there leads to n
pub record IsFarEnd (t : Network) (n u : NodeId) (e : End) : Type 0 where
  pub station : slice_get (ids_of t) e.station ≡ Some u
  pub link : slice_get (neighbours_of t u) e.link ≡ Some n

-- each link of the node has its far end
pub record IsSeat (t : Network) (s : Seat) : Type 0 where
  pub count : length s.ends.items ≡ length (neighbours_of t s.id)
  pub each : (place : ℕ) (e : End) (u : NodeId) → slice_get s.ends.items place ≡ Some e →
      slice_get (neighbours_of t s.id) place ≡ Some u → IsFarEnd t s.id u e

pub record AreSeats (t : Network) (seats : List Seat) : Type 0 where
  pub ids : map (λ s. s.id) seats ≡ ids_of t
  pub each : AllByRecursion (IsSeat t) seats

-- The fleet

-- The fleet stands for this record, where these lines name frames by their numbers.
pub record StandsFor (t : Network) (lines : List Disturb) (f : FleetState) (r : Record) : Type 0 where
  pub seats : AreSeats t f.seats
  pub wires : Wires
  pub stations : AreStanding t lines r wires f.stations
  pub begun : AllBegun t wires
  pub posts : f.posts ≡ posts_in r
  pub follow : PostsFollow t r
  pub few : length f.posts ≤ 2 ^ 32
  pub network : f.network ≡ t
  pub failed : f.failed ≡ (world_of t r).failed

-- The logs of the stations, in order of node number, and the posts are those of the record.
pub record HasMade (t : Network) (f : FleetState) (r : Record) : Type 0 where
  pub logs : map (λ (s : StationState). s.log) f.stations ≡ map (λ (n : NodeId). log_at r n.0) (ids_of t)
  pub posts : f.posts ≡ posts_in r
