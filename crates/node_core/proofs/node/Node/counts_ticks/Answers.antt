use Rattle.std.proofs.Common.{◌≡◌, ℕ, ap, arith, ◌∙◌}
use Rattle.mesh_rules.specs.Waits.{all_ticked}
use Rattle.call_control.proofs.Ticked.{none-wait}
use Rattle.node_core.proofs.node.Node.counts_ticks.Goals as goal

pub returns : goal.returns
returns c = λ none.
    let t = c.self.inside.tables in
    let wait : t.wait ≡ 0 = grind arith in
    rw (← c.self.view_is)
    (ap (λ (n : ℕ). all_ticked n t.legs c.self.inside.calls.calls) wait ∙ none-wait t.legs c.self.inside.calls.calls)
