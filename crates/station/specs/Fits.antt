-- What holds of every station.
use Rattle.std.specs.{Prelude.{◌≡◌, ◌≤◌, ◌*◌, ◌^◌, ℕ, None, length, IsTrue}, List.AllByRecursion}
use Rattle.ason_base.specs.declared.limits.TheConstants.{MOST_EVENTS}
use Rattle.mesh_nodes.specs.LocalNodes.{is_neighbour}
use Rattle.mesh_rules.specs.LocalNodes.{LocalNode}
use Rattle.station_rings.specs.LinkStates.{IsBearing, LinkState}
use Rattle.round_rules.specs.{Entered.me_of, Moves.ArePeersApart, States.StationState, declared.held.HeldParcel.HeldParcel}
use Rattle.station.specs.{declared.parts.Parts.Parts, Sending.NoneAbove}

-- A link leads to a neighbour. After so many steps its frames have numbers left, and no stamp is above the clock.
pub record LinkKeeps (p : LocalNode) (steps clock : ℕ) (l : LinkState) : Type 0 where
  pub near : IsTrue (is_neighbour p l.peer)
  pub few : l.sent ≤ 2 ^ 40 * steps
  pub old : NoneAbove clock l

-- a parcel that is held came from a neighbour, bears something, and saw no more ticks than there were steps
pub record HeldKeeps (p : LocalNode) (steps : ℕ) (h : HeldParcel) : Type 0 where
  pub near : IsTrue (is_neighbour p h.from)
  pub ticks : h.ticks ≤ steps
  pub bears : IsBearing h.parcel

-- no node makes more than 50,000 lines, as many as its controller made steps, and no two links lead to one neighbour
pub record StationFits (s : StationState) : Type 0 where
  pub most : s.controller.steps ≤ MOST_EVENTS
  pub count : length s.log ≡ s.controller.steps
  pub apart : ArePeersApart s.links
  pub links : AllByRecursion (LinkKeeps s.controller.node.place s.controller.steps s.clock) s.links
  pub held : AllByRecursion (HeldKeeps s.controller.node.place s.controller.steps) s.held

-- The parts

-- a station as contracts see it, but for what it publishes
abbrev pub station_state : Parts → StationState
station_state p = record {
  controller = p.controller;
  desk = p.desk.items;
  spare = p.desk.spare;
  links = p.links.items;
  clock = p.clock;
  log = p.log.items;
  held = p.held.items;
  lines = p.lines.items;
  answer = p.answer;
  publisher = None;
}

pub record PartsFit (p : Parts) : Type 0 where
  pub station : StationFits (station_state p)
  pub me : p.me ≡ me_of (station_state p)
