-- What holds of the seats and stations of every fleet: after want of memory too, and where a round was cut.
use Rattle.std.specs.{Prelude.{◌≡◌, ◌≤◌, ◌+◌, true, List, length}, List.AllZip}
use Rattle.ason_base.specs.{declared.limits.TheConstants.MOST_FRAMES, declared.ids.NodeId.NodeId, Network.{IsTopology, Network}}
use Rattle.rtrb.specs.Ring.{received}
use Rattle.world_rules.specs.WorldRuns.{is_world_channel}
use Rattle.station_rings.specs.LinkStates.{AreEnds, gone_of}
use Rattle.round_rules.specs.{OneWorker.ids_of, States.StationState, Fleets.Wires, Looks.{AreLooked, HasLinks}}
use Rattle.fleet.specs.{declared.seats.Seat.Seat, Standing.AreSeats}

-- The ring from u to d: the links have its ends, and what was handed to it and wasn't taken is no more than the sender
-- counts, which is 256 at most.
pub record IsRing (wires : Wires) (u d : NodeId) : Type 0 where
  pub peer : (wires u.0 d.0).peer ≡ d
  pub ends : AreEnds (wires u.0 d.0) (wires d.0 u.0)
  pub room : length (wires d.0 u.0).early + length (gone_of (wires u.0 d.0))
      ≤ (wires u.0 d.0).standing + length (received (wires d.0 u.0).into)
  pub most : (wires u.0 d.0).standing ≤ MOST_FRAMES

-- Each station has a link to each neighbour of its node, and the two links between neighbours have the ends of two rings.
pub record AreWired (t : Network) (wires : Wires) (stations : List StationState) : Type 0 where
  pub links : AllZip (HasLinks t wires) (ids_of t) stations
  pub rings : (u d : NodeId) → is_world_channel t u d ≡ true → IsRing wires u d

-- a seat and a station for each node, with their links and far ends
pub record AreConnected (t : Network) (seats : List Seat) (stations : List StationState) : Type 0 where
  pub valid : IsTopology t
  pub seated : AreSeats t seats
  pub wires : Wires
  pub wired : AreWired t wires stations

-- by some network
abbrev pub HaveSeats : List Seat → List StationState → Type 0
HaveSeats seats stations = (t : Network) × AreConnected t seats stations

-- Each ring was looked at since it was last used: one more look at it changes nothing.
pub record IsSettled (t : Network) (seats : List Seat) (stations : List StationState) : Type 0 where
  pub connected : AreConnected t seats stations
  pub wires : Wires
  pub links : AllZip (HasLinks t wires) (ids_of t) stations
  pub looked : (u d : NodeId) → is_world_channel t u d ≡ true → AreLooked wires wires u d

-- by some network
abbrev pub AreSettled : List Seat → List StationState → Type 0
AreSettled seats stations = (t : Network) × IsSettled t seats stations
