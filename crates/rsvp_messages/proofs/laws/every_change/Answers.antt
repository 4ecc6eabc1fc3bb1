use Rattle.rsvp_messages.proofs.ChangedBytes.{bit-refused, byte-refused}
use Rattle.rsvp_messages.proofs.laws.every_change.Goals as goal

pub returns-clause-byte : goal.returns-clause-byte
returns-clause-byte c = byte-refused

pub returns-clause-bit : goal.returns-clause-bit
returns-clause-bit c = bit-refused
