use Rattle.std.proofs.Common.{◌≡◌, ◌≤◌, ◌<◌, ◌^◌, ℕ, take}
use Rattle.std.specs.Prelude.{Some, slice_get, sum_by}
use Rattle.round_rules.specs.States.{StationState}
use Rattle.fleet.specs.Waiting.{unacked_of}
use Rattle.fleet.proofs.waiting.unacked_of.Given as goal

abbrev pub invariant-loop-station : goal.invariant-loop-station
invariant-loop-station l = record {
  sum : sum_by unacked_of l.stations < 2 ^ 64 → l.sum ≡ sum_by unacked_of (take l.station-index l.stations);
  few : (k : ℕ) (x : StationState) → k < l.station-index → slice_get l.stations k ≡ Some x → unacked_of x ≤ 2 ^ 40;
}
