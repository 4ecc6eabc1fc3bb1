use Rattle.std.proofs.Common.{take}
use Rattle.rsvp_objects.specs.Bodies.{IsMsgId}
use Rattle.rsvp_messages.specs.{Objects.of_class, Seen.all_seen}
use Rattle.rsvp_messages.proofs.Eaches.{ReadEach}
use Rattle.rsvp_messages.proofs.ids.all_acks.Given as goal

abbrev pub invariant-objects : goal.invariant-objects
invariant-objects l = ReadEach 1 IsMsgId (of_class 24 (all_seen (take l.object-index l.objects))) l.acks
