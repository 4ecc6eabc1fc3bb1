use Rattle.std.proofs.Common.{arith, sym, ◌∙◌}
use Rattle.plan_reader.proofs.Places.{place_within}
use Rattle.plan_reader.proofs.calls.NamedCalls.find.Goals as goal

pub returns-clause-within : goal.returns-clause-within
returns-clause-within c =
    let text = c.as_str.result.now in
    let found = sym (c.self.invariant.1 text) ∙ sym c.in_ok-place.ensures.value in
    let below = place_within c.self.inside.names.items text c.in_ok-place.field-0.now found in
    let few = c.self.invariant.0 in
    omega (arith, below, few)
