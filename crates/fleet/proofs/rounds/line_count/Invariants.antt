use Rattle.std.proofs.Common.{◌≡◌, ◌≤◌, ◌*◌, take}
use Rattle.ason_base.specs.declared.limits.TheConstants.{MOST_EVENTS}
use Rattle.fleet.specs.Turning.{line_count}
use Rattle.fleet.proofs.rounds.line_count.Given as goal

abbrev pub invariant-loop-station : goal.invariant-loop-station
invariant-loop-station l = record {
  sum : l.lines ≡ line_count (take l.station-index l.stations);
  few : l.lines ≤ MOST_EVENTS * l.station-index;
}
