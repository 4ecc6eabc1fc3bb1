use Rattle.std.proofs.Common.{◌≡◌, ◌++◌, map, take}
use Rattle.rsvp_messages.specs.Written.{ack_object, all_bytes}
use Rattle.rsvp_messages.proofs.ids.write_acks.Given as goal

abbrev pub invariant-loop-ack : goal.invariant-loop-ack
invariant-loop-ack l = l.out.items ≡ l.fn.out.items ++ all_bytes (map ack_object (take l.ack-index l.acks))
