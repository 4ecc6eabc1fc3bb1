use Rattle.std.proofs.Common.{◌≡◌, ◌≤◌, ◌*◌, length, take}
use Rattle.std.specs.Prelude.{sum_by}
use Rattle.ason_base.specs.declared.limits.TheConstants.{MOST_EVENTS}
use Rattle.round_rules.specs.States.{StationState}
use Rattle.fleet.proofs.merging.log_lines.Given as goal

abbrev pub invariant-loop-station : goal.invariant-loop-station
invariant-loop-station l = record {
  lines : l.lines ≡ sum_by (λ (s : StationState). length s.log) (take l.station-index l.stations);
  few : l.lines ≤ MOST_EVENTS * l.station-index;
}
