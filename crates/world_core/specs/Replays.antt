-- What a replay keeps, the world that it stands for, and the first event that isn't enabled.
use Rattle.std.specs.{Prelude.{◌≡◌, ◌+◌, ℕ, Bool, true, false, List, [], ◌∷◌, ◌++◌, length, map, Option, Some, None, position, slice_get, slice_set, Result, IfErr, IsTrue, ◌↔◌}, List.AllByRecursion}
use Rattle.ason_base.specs.{declared.ids.NodeId.NodeId, declared.ids.CallNo.CallNo, declared.calls.CallRow.CallRow, declared.calls.LegRow.LegRow, declared.commands.Command.Command, declared.commands.Command.TheVariants.{Setup, Release, Protect, Retry, Revert, Fail, Repair}, declared.commands.DeskItem.DeskItem, declared.commands.DeskItem.TheVariants.Order, declared.commands.Group.Group, declared.commands.Event.Event, Network.{Network, is_distinct, is_node_id}}
use Rattle.flood.specs.State.{pending_count}
use Rattle.mesh_rules.specs.{Failures.failed_after, Rows.{all_call_rows, all_leg_rows}}
use Rattle.world_core.specs.{declared.acts.Act.Act, declared.faults.Fault.Fault, declared.faults.Fault.TheVariants.NotEnabled, Seats.{HasDoneAt, SeatStands, SeatState, can_do, is_able, is_seat_at, told_seat, seat_with_item}}
use Rattle.world_rules.specs.{Images.{IsQuietWorld, image}, Worlds.{World, world_start}, WorldRuns.{IsEnabled, IsWorldRun, world_after, world_step}}

-- the seats of all nodes, in order of number, the call numbers of the setups that were posted, and the groups that have
-- failed
pub record WorldState : Type 0 where
  pub seats : List SeatState
  pub posted : List CallNo
  pub failed : List Group

-- at a number that is no node's, nothing waits
pub record IsNowhere (w : World) (n : ℕ) : Type 0 where
  pub desk : w.desks n ≡ []
  pub hops : (d : ℕ) → (w.ends n d).hop.unacked ≡ []
  pub flood : pending_count (w.floods n) ≡ 0

-- each node of the topology has one seat, which is what the world has of it
pub record StateStandsFor (t : Network) (k : WorldState) (w : World) : Type 0 where
  pub nodes : map (λ s. s.node) k.seats ≡ map (λ m. m.id) t.nodes
  pub apart : is_distinct (map (λ s. s.node.0) k.seats) ≡ true
  pub seats : AllByRecursion (SeatStands t w) k.seats
  pub nowhere : (n : NodeId) → is_node_id t.nodes n ≡ false → IsNowhere w n.0
  pub posted : k.posted ≡ w.posted
  pub failed : k.failed ≡ w.failed

-- What is read of it, in whatever world it stands for

abbrev pub ShowsCalls : WorldState → List CallRow → Type 0
ShowsCalls k rows = (t : Network) (w : World) → StateStandsFor t k w → rows ≡ all_call_rows t (image w)

abbrev pub ShowsLegs : WorldState → List LegRow → Type 0
ShowsLegs k rows = (t : Network) (w : World) → StateStandsFor t k w → rows ≡ all_leg_rows t (image w)

-- true just where the world is quiet
abbrev pub TellsQuiet : WorldState → Bool → Type 0
TellsQuiet k b = (t : Network) (w : World) → StateStandsFor t k w → IsTrue b ↔ IsQuietWorld w

-- One node

-- a node that may make an event more does this
pub record HasActed (old : WorldState) (n : NodeId) (a : Act) (new : WorldState) : Type 0 where
  pub place : ℕ
  pub seat : SeatState
  pub found : position (is_able n.0) old.seats ≡ Some place
  pub there : slice_get old.seats place ≡ Some seat
  pub done : HasDoneAt old.seats place seat a new.seats
  pub posted : new.posted ≡ old.posted
  pub failed : new.failed ≡ old.failed

-- there is no such node, or it can't do this
abbrev pub IsUnable : WorldState → NodeId → Act → Type 0
IsUnable k n a = (place : ℕ) (s : SeatState) → position (is_able n.0) k.seats ≡ Some place →
    slice_get k.seats place ≡ Some s → can_do s a ≡ false

-- Commands

-- the node on whose desk a command goes, if it is a call's
abbrev pub ingress_of : Command → Option NodeId
ingress_of (Setup n from to protected both via backup) = Some from
ingress_of (Release n from) = Some from
ingress_of (Protect n from) = Some from
ingress_of (Retry n from) = Some from
ingress_of (Revert n from) = Some from
ingress_of (Fail g) = None
ingress_of (Repair g) = None

-- the call number that it takes, if it is a setup
abbrev pub setup_numbers : Command → List CallNo
setup_numbers (Setup n from to protected both via backup) = n ∷ []
setup_numbers (Release n from) = []
setup_numbers (Protect n from) = []
setup_numbers (Retry n from) = []
setup_numbers (Revert n from) = []
setup_numbers (Fail g) = []
setup_numbers (Repair g) = []

-- an item goes on the desk of a node
pub record IsPut (old : List SeatState) (n : NodeId) (i : DeskItem) (new : List SeatState) : Type 0 where
  pub place : ℕ
  pub seat : SeatState
  pub found : position (is_seat_at n.0) old ≡ Some place
  pub there : slice_get old place ≡ Some seat
  pub seats : new ≡ slice_set old place (seat_with_item i seat)

-- the command goes to the desk of its ingress, or, where it has none, each node is told what it changes
abbrev pub HaveHeard : Network → WorldState → Command → Option NodeId → List SeatState → Type 0
HaveHeard t old c None new = new ≡ map (told_seat t old.failed (failed_after c old.failed)) old.seats
HaveHeard t old c (Some n) new = IsPut old.seats n (Order c) new

-- the nodes have heard of the command, its number is one of those that were posted, and its group has failed or is
-- repaired
pub record IsGiven (t : Network) (old : WorldState) (c : Command) (new : WorldState) : Type 0 where
  pub seats : HaveHeard t old c (ingress_of c) new.seats
  pub posted : new.posted ≡ old.posted ++ setup_numbers c
  pub failed : new.failed ≡ failed_after c old.failed

-- its ingress is no node
pub record IsForNobody (seats : List SeatState) (c : Command) : Type 0 where
  pub node : NodeId
  pub ingress : ingress_of c ≡ Some node
  pub nowhere : position (is_seat_at node.0) seats ≡ None

-- One event

-- in whatever world the one stands for the event is enabled, and the other stands for the next
abbrev pub HasStepped : Network → WorldState → Event → WorldState → Type 0
HasStepped t old e new = (w : World) → StateStandsFor t old w →
    IsEnabled t w e × StateStandsFor t new (world_step t w e)

abbrev pub IsDisabled : Network → WorldState → Event → Type 0
IsDisabled t k e = (w : World) → StateStandsFor t k w → ¬ IsEnabled t w e

-- this holds where the event is refused
abbrev pub HoldsIfRefused : Result (Unit {0}) Fault → Type 0 → Type 0
HoldsIfRefused r Holds = IfErr r (λ f. f ≡ NotEnabled → Holds)

-- Runs

-- The event with this number, of which the first has number 1, isn't enabled. Those before it are a run.
pub record IsFirstDisabled (t : Network) (events : List Event) (number : ℕ) : Type 0 where
  pub before : List Event
  pub event : Event
  pub later : List Event
  pub all : events ≡ before ++ event ∷ later
  pub counted : number ≡ length before + 1
  pub run : IsWorldRun t (world_start t) before
  pub disabled : ¬ IsEnabled t (world_after t (world_start t) before) event
