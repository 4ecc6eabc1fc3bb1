-- What holds of the stations of a fleet.
use Rattle.std.specs.Prelude.{◌≡◌, true, List}
use Rattle.ason_base.specs.{declared.ids.NodeId.NodeId, declared.commands.Disturb.Disturb, Network.Network}
use Rattle.world_rules.specs.WorldRuns.{is_world_channel}
use Rattle.round_rules.specs.{Records.Record, States.StationState, Fleets.{AreStanding, HasBegun, Wires}, PossibleRecords.IsRecord}

-- where what came out of each ring is a first part of what was handed to it, what the nodes did is a record, so its
-- logs are a run in whatever order
abbrev pub StationsAreARecord : Type 0
StationsAreARecord =
    (t : Network) (lines : List Disturb) (r : Record) (wires : Wires) (stations : List StationState) →
    AreStanding t lines r wires stations → ((u d : NodeId) → is_world_channel t u d ≡ true → HasBegun wires u d) →
    IsRecord t r
