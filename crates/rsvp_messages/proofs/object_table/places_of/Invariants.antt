use Rattle.std.proofs.Common.{◌≡◌, length, take}
use Rattle.rsvp_messages.specs.{declared.object_table.TheConstants.NOTED, Places.HasPlaces}
use Rattle.rsvp_messages.proofs.object_table.places_of.Given as goal

abbrev pub invariant-loop-i : goal.invariant-loop-i
invariant-loop-i l = record {
  placed : HasPlaces (take l.i l.items) l.places;
  long : length l.places ≡ NOTED;
}
