use Rattle.std.proofs.Common.{◌≤◌, ◌^◌, sym, subst}
use Rattle.controller.proofs.FloodCounts.{rows-few}
use Rattle.controller.proofs.controller.Controller.pending.Goals as goal

pub returns-clause-few_flood : goal.returns-clause-few_flood
returns-clause-few_flood c =
    subst (λ n. n ≤ 2 ^ 40) (sym c.pending-2.ensures) (rows-few c.self.inside.flood c.counts.ensures)
