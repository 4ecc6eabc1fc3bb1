use Rattle.std.proofs.{Common.{◌∷◌, [], ◌++◌, sym, ap, ◌∙◌}, lemmas.List.map-append}
use Rattle.world_merge.specs.Lines.{lists_of}
use Rattle.fleet.proofs.Fitting.{logs-more}
use Rattle.fleet.proofs.merging.lists_of.Goals as goal

pub loop-station-preserved : goal.loop-station-preserved
loop-station-preserved c =
    let s = c.station-item.result in
    ap lists_of c.in_ok-push-2.ensures.items
    ∙ map-append (λ l. l.now) c.loop-station.lists.items (c.log.result ∷ [])
    ∙ (λ j. c.loop-station.invariant j ++ c.log.ensures.log j ∷ [])
    ∙ sym (ap (λ ys. c.args.posts.now ∷ ys) (logs-more c.args.stations.now c.loop-station.station-index s
    c.station-item.is c.loop-station-test.true))
