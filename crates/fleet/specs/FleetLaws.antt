-- What holds of every fleet, whatever it stands for.
use Rattle.std.specs.Prelude.{◌≡◌, ◌↔◌, ◌==◌, IsTrue, List, length, true}
use Rattle.ason_base.specs.{declared.limits.TheConstants.MOST_EVENTS, declared.commands.Disturb.Disturb, declared.ids.NodeId.NodeId, Network.Network}
use Rattle.world_rules.specs.{Images.IsQuietWorld, WorldRuns.is_world_channel}
use Rattle.round_rules.specs.{Records.{Record, log_at, world_of}, Waiting.is_world_quiet, PossibleRecords.IsRecord}
use Rattle.fleet.specs.{Commands.is_log_full, Standing.{FleetState, HasMade, StandsFor}}

-- what the nodes did is a record: it could happen, so each merge of its logs and posts is a run of a world
abbrev pub StandingIsARecord : Type 0
StandingIsARecord =
    (t : Network) (lines : List Disturb) (f : FleetState) (r : Record) → StandsFor t lines f r → IsRecord t r

-- its logs and posts are those that the fleet has
abbrev pub StandingHasMade : Type 0
StandingHasMade =
    (t : Network) (lines : List Disturb) (f : FleetState) (r : Record) → StandsFor t lines f r → HasMade t f r

-- where nothing waits at the nodes and on their links, nothing waits in the world
abbrev pub QuietIsTheWorlds : Type 0
QuietIsTheWorlds =
    (t : Network) (lines : List Disturb) (f : FleetState) (r : Record) → StandsFor t lines f r →
    IsTrue (is_world_quiet t (world_of t r)) ↔ IsQuietWorld (world_of t r)

-- the log of a node that has a neighbour is full just where its station's is
abbrev pub FullIsTheLogs : Type 0
FullIsTheLogs =
    (t : Network) (lines : List Disturb) (f : FleetState) (r : Record) (u d : NodeId) → StandsFor t lines f r →
    is_world_channel t u d ≡ true → is_log_full d f ≡ (length (log_at r d.0) == MOST_EVENTS)
