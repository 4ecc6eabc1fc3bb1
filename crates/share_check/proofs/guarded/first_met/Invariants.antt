use Rattle.std.proofs.Common.{length, ◌+◌, ◌-◌, ◌≤◌}
use Rattle.ason_base.proofs.RiskOrder.{Apart}
use Rattle.share_check.proofs.Walked.{risks_in}
use Rattle.share_check.proofs.guarded.first_met.Given as goal

abbrev pub invariant-loop-i : goal.invariant-loop-i
invariant-loop-i l = record {
  i_within : l.i ≤ length l.risks;
  j_within : l.j ≤ length l.guarded;
  asked : Apart l.risks (risks_in l.guarded) l.i;
  guards : Apart (risks_in l.guarded) l.risks l.j;
}

abbrev pub decreases-loop-i : goal.decreases-loop-i
decreases-loop-i l = (length l.risks - l.i) + (length l.guarded - l.j)
