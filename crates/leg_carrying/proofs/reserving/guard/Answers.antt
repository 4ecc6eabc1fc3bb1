use Rattle.share_check.proofs.Places.{guards-same}
use Rattle.leg_carrying.proofs.reserving.guard.Goals as goal

pub returns-in-Work-clause-ok : goal.returns-in-Work-clause-ok
returns-in-Work-clause-ok c = rw c.in-Work.is
    (guards-same c.args.label.now.fibre c.args.label.now.label c.args.leg.now.lsp c.args.shares.now c.requires)
