use Rattle.std.proofs.Common.{◌≡◌, ◌≤◌, length}
use Rattle.std.specs.Prelude.{Result}
use Rattle.round_rules.specs.{Phases.rings_phase, States.StationState}
use Rattle.station.specs.{declared.halts.Halt.Halt, Fits.{PartsFit, station_state}, Leads.{IsMoving, StationLeads}}
use Rattle.station.proofs.Ringing.{DrainedBelow}
use Rattle.station.proofs.rings.take_rings.Given as goal

abbrev pub invariant-loop-place : goal.invariant-loop-place
invariant-loop-place g l = record {
  within : l.place ≤ l.count;
  many : l.count ≡ length l.parts.links.items;
  fit : PartsFit l.parts;
  on : (r : Result (Unit {0}) Halt) (end : StationState) →
      StationLeads r (rings_phase l.place) (station_state l.parts) end →
      StationLeads r (rings_phase 0) (station_state l.initial.parts) end;
  moves : IsMoving (station_state l.initial.parts) (station_state l.parts);
  drained : DrainedBelow l.place l.initial.parts.links.items l.parts.links.items;
}
