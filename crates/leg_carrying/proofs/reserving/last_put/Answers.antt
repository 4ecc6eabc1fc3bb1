use Rattle.std.proofs.Common.{◌∙◌, sym}
use Rattle.leg_carrying.proofs.NewLabels.{last-get}
use Rattle.leg_carrying.proofs.reserving.last_put.Goals as goal

pub returns-in-Some : goal.returns-in-Some
returns-in-Some c =
    c.leg_put.ensures ∙ sym (last-get c.args.changes.now c.in-Some.change.now (sym c.in-Some.ensures.value))
