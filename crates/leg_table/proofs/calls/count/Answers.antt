use Rattle.std.proofs.Common.{◌≡◌, ◌<◌, ◌-◌, ℕ, suc, length, sym, arith}
use Rattle.leg_table.proofs.CallOrder.{few-calls}
use Rattle.leg_table.proofs.calls.count.Goals as goal

pub returns-then-count-gt0-clause-few : goal.returns-then-count-gt0-clause-few
returns-then-count-gt0-clause-few c =
    few-calls c.args.calls.now c.requires (length c.args.calls.now - 1) c.index-calls-count.result
    c.index-calls-count.result (before (length c.args.calls.now) c.if-count-gt0.true) (sym c.index-calls-count.is)
    c.number_of-last.ensures.small
  where
    before : (k : ℕ) → 0 < k → k ≡ suc (k - 1)
    before k some = omega arith
