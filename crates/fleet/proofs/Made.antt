-- A fleet has made what its record tells.
use Rattle.std.proofs.Common.{◌≡◌, nat_eq, List, [], ◌∷◌, length, map, refl, ap, ◌∙◌}
use Rattle.std.specs.List.{AllZip}
use Rattle.ason_base.specs.{declared.limits.TheConstants.MOST_EVENTS, declared.ids.NodeId.NodeId, declared.commands.Disturb.Disturb, Network.Network}
use Rattle.round_rules.specs.{OneWorker.ids_of, Records.{Record, log_at}, States.StationState, Fleets.{IsStationAt, Wires}}
use Rattle.round_rules.proofs.{Joined.standing-is-a-record as stations-are-a-record, Nodes.joins-nodes}
use Rattle.fleet.specs.{Commands.{station_lines, station_in}, FleetLaws.{FullIsTheLogs, StandingHasMade, StandingIsARecord}}
use Rattle.fleet.proofs.{Channels.{IsSeated, seated}, Merged.log_of_station}

pub standing-is-a-record : StandingIsARecord
standing-is-a-record t lines f r s = stations-are-a-record t lines r s.wires f.stations s.stations s.begun

logs_same : (t : Network) (lines : List Disturb) (r : Record) (w : Wires) (ns : List NodeId) (xs : List StationState) →
    AllZip (IsStationAt t lines r w) ns xs → map log_of_station xs ≡ map (λ (n : NodeId). log_at r n.0) ns
logs_same t lines r w [] [] all = refl
logs_same t lines r w [] (x ∷ xs) all = absurd all
logs_same t lines r w (n ∷ ns) [] all = absurd all
logs_same t lines r w (n ∷ ns) (x ∷ xs) all =
    λ i. (all.0.station.stands.sound.log i) ∷ (logs_same t lines r w ns xs all.1 i)

pub standing-has-made : StandingHasMade
standing-has-made t lines f r s = record {
  logs = logs_same t lines r s.wires (ids_of t) f.stations s.stations.each;
  posts = s.posts;
}

-- the station of a node has its log
pub full-is-the-logs : FullIsTheLogs
full-is-the-logs t lines f r u d s joined =
    ap (λ k. nat_eq k MOST_EVENTS) (ap station_lines (ap (station_in f) at.found ∙ at.there)
    ∙ ap length at.is.station.stands.sound.log)
  where
    at : IsSeated t lines r s.wires f.seats f.stations d
    at = seated t lines r s.wires f.seats f.stations s.seats s.stations d (joins-nodes t u d joined).to
