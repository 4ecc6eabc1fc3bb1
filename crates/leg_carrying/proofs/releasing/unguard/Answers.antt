use Rattle.std.proofs.Common.{ap}
use Rattle.mesh_rules.specs.Legs.{is_work}
use Rattle.share_check.proofs.Places.{guards-same}
use Rattle.leg_carrying.proofs.releasing.unguard.Goals as goal

pub returns-in-Work : goal.returns-in-Work
returns-in-Work c =
    let label = c.args.label.now in
    guards-same label.fibre label.label c.args.leg.now.lsp c.args.shares.now (c.requires (ap is_work c.in-Work.is))
