use Rattle.std.proofs.Common.{List, ℕ, subst}
use Rattle.wire_buf.specs.{Codecs.Reads, Routes.IsRouteStep}
use Rattle.wire_buf.proofs.routes.next_step.Goals as goal

pub returns-clause-step : goal.returns-clause-step
returns-clause-step c =
    subst (λ (bytes : List ℕ). Reads (IsRouteStep bytes) c.step_of.result) c.in_ok-bytes.ensures.value.1
    c.step_of.ensures
