use Rattle.std.proofs.Common.{◌≡◌, ◌-◌, ◌+◌, ◌*◌, ◌/◌, ◌++◌}
use Rattle.load_plan.specs.{Draws.after_draws, Networks.links_from}
use Rattle.load_plan.proofs.network.links.Given as goal

abbrev pub invariant-loop-i : goal.invariant-loop-i
invariant-loop-i l =
    (l.links.items ++ links_from l.n l.i (l.n + l.n / 2 - l.i) l.draws.state
    ≡ links_from l.n 0 (l.n + l.n / 2) l.fn.draws.state)
    × (after_draws (2 * (l.n + l.n / 2 - l.i)) l.draws.state ≡ after_draws (2 * (l.n + l.n / 2)) l.fn.draws.state)
