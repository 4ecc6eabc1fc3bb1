use Rattle.std.proofs.Common.{length, ◌+◌, ◌-◌, ◌≤◌}
use Rattle.ason_base.proofs.RiskOrder.{Apart}
use Rattle.ason_base.proofs.risks.are_disjoint.Given as goal

abbrev pub invariant-loop-i : goal.invariant-loop-i
invariant-loop-i l = record {
  i_within : l.i ≤ length l.a;
  j_within : l.j ≤ length l.b;
  left : Apart l.a l.b l.i;
  right : Apart l.b l.a l.j;
}

abbrev pub decreases-loop-i : goal.decreases-loop-i
decreases-loop-i l = (length l.a - l.i) + (length l.b - l.j)
