use Rattle.std.proofs.Common.{All, take}
use Rattle.wire_buf.specs.Routes.{HasIds}
use Rattle.rsvp_messages.proofs.widths.steps_fit.Given as goal

abbrev pub invariant-loop-step : goal.invariant-loop-step
invariant-loop-step l = All HasIds (take l.step-index l.steps)
