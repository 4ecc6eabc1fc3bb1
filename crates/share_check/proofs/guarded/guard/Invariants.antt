use Rattle.std.proofs.Common.{◌≡◌, ◌+◌, ◌-◌, ◌≤◌, length, take, vec_capacity, vec_len}
use Rattle.std.specs.Prelude.{◌&&◌, ◌||◌}
use Rattle.ason_base.specs.{declared.ids.Lsp.Lsp, declared.risks.Risk.Risk, Lsps.same_lsp, Risks.has_risk}
use Rattle.share_check.specs.Guards.{AreRisksInOrder, has_guard}
use Rattle.share_check.proofs.guarded.guard.Given as goal

abbrev pub invariant-loop-risk : goal.invariant-loop-risk
invariant-loop-risk l = record {
  ordered : AreRisksInOrder l.guarded.items;
  has : (m : Lsp) (q : Risk) → has_guard m q l.guarded.items ≡
      ((has_risk (take l.risk-index l.risks) q && same_lsp l.lsp m) || has_guard m q l.initial.guarded.items);
  room : vec_len l.guarded + (length l.risks - l.risk-index) ≤ vec_capacity l.guarded;
}
