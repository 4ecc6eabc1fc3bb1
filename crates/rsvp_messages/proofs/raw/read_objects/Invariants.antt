use Rattle.std.proofs.Common.{◌+◌, ◌*◌, ◌≤◌, length}
use Rattle.wire_buf.proofs.Sequences.{ReadItems}
use Rattle.rsvp_messages.specs.{Objects.{BeginsWith, size_of}, Seen.all_seen}
use Rattle.rsvp_messages.proofs.raw.read_objects.Given as goal

-- each object takes four bytes at least
abbrev pub invariant-objects : goal.invariant-objects
invariant-objects l = record {
  read : ReadItems BeginsWith size_of l.bytes l.cursor (all_seen l.objects.items);
  few : 4 * length l.objects.items + length l.cursor ≤ length l.bytes;
}

abbrev pub decreases-objects : goal.decreases-objects
decreases-objects l = length l.cursor
