use Rattle.rsvp_messages.proofs.Rewritable.{read_writable}
use Rattle.rsvp_messages.proofs.laws.what_is_read_can_be_written.Goals as goal

pub returns : goal.returns
returns c = read_writable
