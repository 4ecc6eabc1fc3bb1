use Rattle.trace_text.proofs.OneReading.{one_reading}
use Rattle.trace_text.proofs.laws.every_reading.Goals as goal

pub returns : goal.returns
returns c = one_reading
