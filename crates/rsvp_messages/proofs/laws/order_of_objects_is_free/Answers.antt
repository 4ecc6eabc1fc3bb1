use Rattle.rsvp_messages.proofs.Permuted.{permuted_message}
use Rattle.rsvp_messages.proofs.laws.order_of_objects_is_free.Goals as goal

pub returns : goal.returns
returns c = permuted_message
