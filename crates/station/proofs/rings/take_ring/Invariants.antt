use Rattle.std.proofs.Common.{◌≡◌, ◌≤◌}
use Rattle.std.specs.Prelude.{Ok, Some, slice_get}
use Rattle.round_rules.specs.Moves.{peers_of}
use Rattle.station.specs.{Fits.{PartsFit, station_state}, Leads.{GoesOnAt, IsMoving}}
use Rattle.station.proofs.Ringing.{IsMovedBy}
use Rattle.station.proofs.rings.take_ring.Given as goal

abbrev pub invariant-loop-frame : goal.invariant-loop-frame
invariant-loop-frame g l = record {
  within : l._frame ≤ l.count;
  fit : PartsFit l.parts;
  on : GoesOnAt (Ok tt) l.place (station_state l.initial.parts) (station_state l.parts);
  moves : IsMoving (station_state l.initial.parts) (station_state l.parts);
  taken : IsMovedBy l.place l._frame l.initial.parts.links.items l.parts.links.items;
  from : slice_get (peers_of l.parts.links.items) l.place ≡ Some l.from;
}
