use Rattle.std.proofs.Common.{◌≡◌, ◌≤◌, ◌+◌, ◌-◌, ◌*◌, ◌++◌, length, take, vec_len, vec_capacity}
use Rattle.wire_buf.specs.Routes.{route_bytes}
use Rattle.wire_buf.proofs.routes.put_steps.Given as goal

abbrev pub invariant-loop-step : goal.invariant-loop-step
invariant-loop-step l = record {
  items : l.out.items ≡ l.fn.out.items ++ route_bytes (take l.step-index l.steps);
  room : vec_len l.out + 12 * (length l.steps - l.step-index) ≤ vec_capacity l.out;
}
