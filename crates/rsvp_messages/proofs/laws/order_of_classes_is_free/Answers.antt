use Rattle.rsvp_messages.proofs.Moves.{move_packet}
use Rattle.rsvp_messages.proofs.laws.order_of_classes_is_free.Goals as goal

pub returns : goal.returns
returns c = move_packet
