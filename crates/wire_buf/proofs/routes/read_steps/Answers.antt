use Rattle.std.proofs.Common.{ap, arith, length}
use Rattle.wire_buf.proofs.{Codecs.{decodes_none, decodes_some}, Sequences.{goes_on, is_empty, not_empty, stops}, Steps.{is_route, out_of_size, steps_once}, routes.read_steps.Goals.{then-is_empty-via-then-is_empty, then-is_empty-via-else-is_empty+then-body}}
use Rattle.wire_buf.proofs.routes.read_steps.Goals as goal

pub returns-then-is_empty : goal.returns-then-is_empty
returns-then-is_empty c = decodes_none (λ steps route.
    let o = out_of_size c.args.body.now steps route in
    elim c.then-is_empty.branch [
      | then-is_empty-via-then-is_empty w ↦
          let none = is_empty _ _ c.is_empty.ensures w.if-is_empty.true in absurd (omega (arith, o.0, ap length none))
      | then-is_empty-via-else-is_empty+then-body w ↦ absurd (omega (arith, o.1))
    ])

pub returns-in_default-next_step : goal.returns-in_default-next_step
returns-in_default-next_step c = decodes_none (λ steps route.
    stops _ _ _ (not_empty _ _ c.is_empty-in-steps.ensures c.steps-test.true)
    (λ s is. c.in_default-next_step.not-Some s (c.next_step.ensures.step.only s is)) c.steps.invariant steps route.2)

pub steps-preserved : goal.steps-preserved
steps-preserved c =
    rw c.in-Ok-push.ensures.items
    (goes_on steps_once _ _ _ _ _ c.in-Some.ensures.step.found c.in-Some.ensures.left c.steps.invariant)

pub returns : goal.returns
returns c =
    let route =
    is_route _ _ _ (is_empty _ _ c.is_empty-in-steps.ensures c.steps-test.false)
    (not_empty _ _ c.is_empty.ensures c.if-is_empty.false) (omega arith) c.steps.invariant in
    rw c.from_vec.ensures (decodes_some _ route.0 route.1)
