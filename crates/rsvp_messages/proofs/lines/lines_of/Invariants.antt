use Rattle.std.proofs.Common.{◌≡◌, map, take}
use Rattle.rsvp_messages.specs.{Lines.line_of, Seen.all_seen}
use Rattle.rsvp_messages.proofs.lines.lines_of.Given as goal

abbrev pub invariant-loop-object : goal.invariant-loop-object
invariant-loop-object l = l.lines.items ≡ map (line_of l.body) (all_seen (take l.object-index l.objects))
