use Rattle.std.proofs.Common.{length}
use Rattle.std.specs.Prelude.{Result}
use Rattle.round_rules.specs.{Phases.due_phase, States.StationState}
use Rattle.station.specs.{declared.halts.Halt.Halt, Fits.{PartsFit, station_state}, Leads.{IsSending, StationLeads}}
use Rattle.station.proofs.dues.free_due.Given as goal

abbrev pub invariant-dues : goal.invariant-dues
invariant-dues g l = record {
  fit : PartsFit l.parts;
  on : (r : Result (Unit {0}) Halt) (end : StationState) → StationLeads r due_phase (station_state l.parts) end →
      StationLeads r due_phase (station_state l.initial.parts) end;
  sends : IsSending (station_state l.initial.parts) (station_state l.parts);
}

abbrev pub decreases-dues : goal.decreases-dues
decreases-dues g l = length l.parts.held.items
