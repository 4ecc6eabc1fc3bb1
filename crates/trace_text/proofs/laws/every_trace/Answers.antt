use Rattle.trace_text.proofs.{EntriesTold.all_read, LinesTold.line_read, TracesTold.trace_read}
use Rattle.trace_text.proofs.laws.every_trace.Goals as goal

pub returns-clause-line : goal.returns-clause-line
returns-clause-line c = line_read

pub returns-clause-lines : goal.returns-clause-lines
returns-clause-lines c = all_read

pub returns-clause-trace : goal.returns-clause-trace
returns-clause-trace c = trace_read
