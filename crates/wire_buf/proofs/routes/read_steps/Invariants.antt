use Rattle.std.proofs.Common.{length}
use Rattle.wire_buf.specs.Routes.{BeginsStep, step_size}
use Rattle.wire_buf.proofs.Sequences.{ReadItems}
use Rattle.wire_buf.proofs.routes.read_steps.Given as goal

abbrev pub invariant-steps : goal.invariant-steps
invariant-steps l = ReadItems BeginsStep step_size l.body l.cursor l.steps.items

abbrev pub decreases-steps : goal.decreases-steps
decreases-steps l = length l.cursor
