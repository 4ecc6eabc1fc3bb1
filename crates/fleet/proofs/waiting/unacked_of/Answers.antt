use Rattle.std.proofs.Common.{◌≡◌, ◌≤◌, ◌^◌, ap, ◌∙◌, subst, arith}
use Rattle.control_channels.specs.{Controllers.ControllerState, ReadyControllers.unacknowledged}
use Rattle.fleet.specs.Waiting.{unacked_of}
use Rattle.fleet.proofs.Fitting.{few-all, few-more, sum-more}
use Rattle.fleet.proofs.waiting.unacked_of.Goals as goal

pub loop-station-preserved : goal.loop-station-preserved
loop-station-preserved c =
    let xs = c.args.stations.now in
    let i = c.loop-station.station-index in
    let s = c.station-item.result in
    let is : c.pending.result.hop ≡ unacked_of s = c.pending.ensures.hop
    ∙ ap (λ (x : ControllerState). unacknowledged x.adjacencies) c.controller.ensures in
    record {
      sum = sum-more unacked_of xs i c.loop-station.sum c.pending.result.hop c.saturating_add-sum.result s
          c.loop-station-test.true c.loop-station.invariant.sum (is ∙ ap unacked_of c.station-item.is)
          c.saturating_add-sum.ensures;
      few = few-more unacked_of xs i s c.loop-station.invariant.few c.station-item.is
          (subst (λ k. k ≤ 2 ^ 40) is c.pending.ensures.few_hop) c.loop-station-test.true;
    }

pub returns-clause-few : goal.returns-clause-few
returns-clause-few c = few-all unacked_of c.args.stations.now c.loop-station.station-index
    (omega (arith, c.loop-station-test.false))
    c.loop-station.invariant.few
