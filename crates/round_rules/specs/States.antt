-- A station with the ends of its rings, and that it is what its node did.
use Rattle.std.specs.{Prelude.{◌≡◌, ℕ, List, Option, ◌++◌, map}, List.AllByRecursion}
use Rattle.rtrb.specs.Ring.{received}
use Rattle.ason_base.specs.{declared.ids.NodeId.NodeId, declared.commands.DeskItem.DeskItem, declared.commands.Disturb.Disturb, declared.commands.Entry.Entry, Network.Network}
use Rattle.control_channels.specs.Controllers.{ControllerState}
use Rattle.mgmt_view.specs.Publishing.{PublisherState}
use Rattle.station_rings.specs.{declared.parcel.Parcel.Parcel, LinkStates.{LinkState, view_of}}
use Rattle.round_rules.specs.{Doings.Doing, Rings.got_from, Stands.{HoldingStation, StandsBy}, declared.held.HeldParcel.HeldParcel, declared.turns.Turn.Turn}

pub record StationState : Type 0 where
  pub controller : ControllerState
  pub desk : List DeskItem
  -- for how many items more the desk has room
  pub spare : ℕ
  pub links : List LinkState
  -- the stamp of its last line, or of a later post
  pub clock : ℕ
  pub log : List Entry
  -- in the order of their taking
  pub held : List HeldParcel
  -- the lines of the script that name a frame for this node, in order
  pub lines : List Disturb
  -- what its last turn answered
  pub answer : Turn
  -- what was published of its node, where it is watched
  pub publisher : Option PublisherState

-- the station as the laws of stations see it
abbrev pub holding_of : StationState → HoldingStation
holding_of s = record {
  station = record {
    controller = s.controller;
    desk = s.desk;
    clock = s.clock;
    log = s.log;
    links = map view_of s.links;
  };
  held = s.held;
}

abbrev pub parcel_numbers : List Parcel → List ℕ
parcel_numbers parcels = map (λ (p : Parcel). p.number) parcels

-- what was taken came first out of the ring, the rest is early, and these are the frames that the node took
pub record IsTakenFrom (ds : List Doing) (l : LinkState) : Type 0 where
  pub taken : List Parcel
  pub came : received l.into ≡ taken ++ l.early
  pub numbers : parcel_numbers taken ≡ got_from l.peer ds

-- the station of the node n, which did this
pub record IsStationOf (t : Network) (n : NodeId) (ds : List Doing) (s : StationState) : Type 0 where
  pub stands : StandsBy t n ds (holding_of s)
  pub taken : AllByRecursion (IsTakenFrom ds) s.links
