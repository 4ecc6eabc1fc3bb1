use Rattle.std.proofs.Common.{◌≡◌, take}
use Rattle.std.specs.Option.{option_map, option_to_list}
use Rattle.rsvp_messages.specs.{Objects.of_class, Seen.{all_seen, seen}}
use Rattle.rsvp_messages.proofs.object_table.at_most_one.Given as goal

abbrev pub invariant-objects : goal.invariant-objects
invariant-objects l =
    of_class l.class (all_seen (take l.object-index l.objects)) ≡ option_to_list (option_map seen l.found)
