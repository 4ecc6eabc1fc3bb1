use Rattle.std.proofs.Common.{is_some, ap, sym, ◌∙◌}
use Rattle.plan_reader.specs.{Names.has_name, PlanCalls.CallList}
use Rattle.plan_reader.proofs.Places.{has_place}
use Rattle.plan_reader.proofs.calls.NamedCalls.has.Goals as goal

pub returns : goal.returns
returns c =
    let text = c.as_str.result.now in
    c.contains_key.ensures
    ∙ (ap is_some (c.self.invariant.1 text) ∙ (sym (has_place c.self.inside.names.items text)
    ∙ (ap (λ (l : CallList). has_name l.names text) c.self.view_is
    ∙ ap (has_name c.args.self.now.names) c.as_str.ensures)))
