-- One station makes its turns, and the others none.
use Rattle.std.proofs.Common.{◌≡◌, ℕ, true, List}
use Rattle.std.specs.List.{AllZip}
use Rattle.ason_base.specs.{Network.{Network, is_node_id}, declared.commands.Disturb.Disturb, declared.ids.NodeId.NodeId}
use Rattle.world_rules.specs.WorldRuns.{is_world_channel}
use Rattle.round_rules.specs.{OneWorker.ids_of, Records.Record, States.StationState, Fleets.{AreStanding, IsKnown, IsStationAt, Wires}, FleetOneWorker.IsPlaced, FleetTurns.{AfterTurns, HasMadeRound}}
use Rattle.round_rules.proofs.Choosing.{ThroughMiddle}

-- the stations that stand for the record, the node, what its turns come to, and the stations afterwards
pub record AloneTurns (t : Network) (lines : List Disturb) (r : Record) (w : Wires) : Type 0 where
  pub xs : List StationState
  pub all : AreStanding t lines r w xs
  pub n : NodeId
  pub node : is_node_id t.nodes n ≡ true
  pub many : ℕ
  pub y : AfterTurns
  pub made : ThroughMiddle (IsStationAt t lines r w) (HasMadeRound many) n y
  pub known : (d : NodeId) → is_world_channel t n d ≡ true → IsKnown w n d
  pub ys : List StationState
  pub placed : AllZip (IsPlaced t lines r w n y.station) (ids_of t) ys
