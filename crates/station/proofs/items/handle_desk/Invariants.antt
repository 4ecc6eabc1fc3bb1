use Rattle.std.proofs.Common.{length}
use Rattle.std.specs.Prelude.{Result}
use Rattle.round_rules.specs.{Phases.desk_phase, States.StationState}
use Rattle.station.specs.{declared.halts.Halt.Halt, Fits.{PartsFit, station_state}, Leads.{IsSending, StationLeads}}
use Rattle.station.proofs.items.handle_desk.Given as goal

abbrev pub invariant-items : goal.invariant-items
invariant-items g l = record {
  fit : PartsFit l.parts;
  on : (r : Result (Unit {0}) Halt) (end : StationState) → StationLeads r desk_phase (station_state l.parts) end →
      StationLeads r desk_phase (station_state l.initial.parts) end;
  sends : IsSending (station_state l.initial.parts) (station_state l.parts);
}

abbrev pub decreases-items : goal.decreases-items
decreases-items g l = length l.parts.desk.items
