use Rattle.std.proofs.{Common.{sym, ap, ◌∙◌, subst, set, inr}, lemmas.List.Edits.map_over_more}
use Rattle.std.specs.List.{AllZip}
use Rattle.station.specs.Watched.{IsUnpublished, publishing}
use Rattle.fleet.specs.Views.{MayPublish}
use Rattle.fleet.proofs.Published.{cut-all, may-all, may-cut, read-left}
use Rattle.fleet.proofs.views.publish_all.Goals as goal

pub returns-in_err-publish-clause-may : goal.returns-in_err-publish-clause-may
returns-in_err-publish-clause-may g c =
    let xs = c.args.stations.now in
    let i = c.loop-station.station-index in
    let x = c.station-item.result in
    let y = c.publish.new.self in
    subst (λ ys. AllZip MayPublish xs (set ys i y)) (sym c.loop-station.invariant)
    (may-cut xs i x y (inr (subst (λ k. IsUnpublished k y) (sym c.station-item.is) c.in_err-publish.ensures.err))
    (read-left xs c.loop-station.stations i x c.loop-station-test.true c.loop-station.invariant c.station-item.is))

pub loop-station-preserved : goal.loop-station-preserved
loop-station-preserved g c =
    let i = c.loop-station.station-index in
    let more = map_over_more publishing c.args.stations.now c.loop-station.stations i c.station-item.result
    c.loop-station-test.true c.loop-station.invariant c.station-item.is in
    ap (set c.loop-station.stations i) (c.in_ok-publish.ensures.ok ∙ ap publishing (sym c.station-item.is)) ∙ more

pub returns-clause-may : goal.returns-clause-may
returns-clause-may g c =
    let xs = c.args.stations.now in
    subst (AllZip MayPublish xs)
    (sym (c.loop-station.invariant ∙ cut-all xs c.loop-station.station-index c.loop-station-test.false)) (may-all xs)
