use Rattle.std.proofs.Common.{◌≤◌, ◌+◌, length, take}
use Rattle.std.specs.Prelude.{flat_map}
use Rattle.mesh_rules.specs.Failures.{changed_news}
use Rattle.fleet.specs.Posting.{IsStationTold}
use Rattle.fleet.proofs.telling.tell.Given as goal

abbrev pub invariant-loop-link : goal.invariant-loop-link
invariant-loop-link l = record {
  told : IsStationTold (flat_map (changed_news l.before l.after l.node.0) (take l.link-index l.link-items))
      l.initial.station
      l.station;
  room : length l.link-items ≤ l.station.spare + l.link-index;
}
