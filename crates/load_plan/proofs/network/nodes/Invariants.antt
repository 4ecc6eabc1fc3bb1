use Rattle.std.proofs.Common.{◌≡◌, ◌-◌, ◌++◌}
use Rattle.load_plan.specs.{Draws.after_draws, Networks.nodes_from}
use Rattle.load_plan.proofs.network.nodes.Given as goal

abbrev pub invariant-loop-i : goal.invariant-loop-i
invariant-loop-i l =
    (l.nodes.items ++ nodes_from l.i (l.n - l.i) l.draws.state ≡ nodes_from 0 l.n l.fn.draws.state)
    × (after_draws (l.n - l.i) l.draws.state ≡ after_draws l.n l.fn.draws.state)
