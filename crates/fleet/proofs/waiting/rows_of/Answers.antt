use Rattle.std.proofs.Common.{◌++◌, sym, ap, ◌∙◌}
use Rattle.fleet.specs.Waiting.{call_rows_of, leg_rows_of}
use Rattle.fleet.proofs.Fitting.{flat-more}
use Rattle.fleet.proofs.waiting.rows_of.Goals as goal

pub loop-station-preserved : goal.loop-station-preserved
loop-station-preserved c =
    let xs = c.args.stations.now in
    let i = c.loop-station.station-index in
    let s = c.station-item.result in
    record {
      calls =
          c.in_ok-add_rows.ensures.calls ∙ ap (λ rows. rows ++ call_rows_of s) c.loop-station.invariant.calls
          ∙ sym (flat-more call_rows_of xs i s c.station-item.is c.loop-station-test.true);
      legs =
          c.in_ok-add_rows.ensures.legs ∙ ap (λ rows. rows ++ leg_rows_of s) c.loop-station.invariant.legs
          ∙ sym (flat-more leg_rows_of xs i s c.station-item.is c.loop-station-test.true);
    }
