use Rattle.std.proofs.Common.{sym}
use Rattle.share_check.proofs.Fitting.{is-met, not-met}
use Rattle.share_check.proofs.labels.LabelGuards.meets.Goals as goal

pub returns-in-None : goal.returns-in-None
returns-in-None c = sym (not-met c.args.self.now.guarded c.args.r.now c.in-None.ensures.none)

pub returns-in-Some : goal.returns-in-Some
returns-in-Some c = sym (is-met c.args.self.now.guarded c.args.r.now c.in-Some.field-0 c.in-Some.ensures.first)
