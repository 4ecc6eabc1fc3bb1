use Rattle.std.proofs.{Common.{sym, ap, ◌∙◌, set}, lemmas.List.Edits.map_over_more}
use Rattle.fleet.specs.Posting.{with_clock}
use Rattle.fleet.proofs.posts.set_clocks.Goals as goal

pub loop-station-preserved : goal.loop-station-preserved
loop-station-preserved c =
    let i = c.loop-station.station-index in
    let change = with_clock c.args.stamp in
    let more = map_over_more change c.args.stations.now c.loop-station.stations i c.station-item.result
    c.loop-station-test.true c.loop-station.invariant c.station-item.is in
    ap (set c.loop-station.stations i) (c.set_clock.ensures ∙ ap change (sym c.station-item.is)) ∙ more
