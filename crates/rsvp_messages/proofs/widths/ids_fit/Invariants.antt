use Rattle.std.proofs.Common.{All, take}
use Rattle.rsvp_messages.specs.Writable.{FitsId}
use Rattle.rsvp_messages.proofs.widths.ids_fit.Given as goal

abbrev pub invariant-loop-id : goal.invariant-loop-id
invariant-loop-id l = All FitsId (take l.id-index l.ids)
