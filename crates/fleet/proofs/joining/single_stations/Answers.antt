use Rattle.std.proofs.{Common.{◌+◌, ◌∷◌, [], length, ap, ◌∙◌, arith, sym, subst}, lemmas.List.length-append}
use Rattle.fleet.specs.Views.{AreUnwatched}
use Rattle.fleet.proofs.{JoinStart.{joined-start, known-read, single-more}, Unwatched.unwatched-more}
use Rattle.fleet.proofs.joining.single_stations.Goals as goal

pub add_station-requires : goal.add_station-requires
add_station-requires c =
    known-read c.args.t.now c.nodes-node-items.result.now c.loop-node.node-index _ c.nodes-node-items.ensures.list
    c.loop-node-test.true

pub unmake_all-requires : goal.unmake_all-requires
unmake_all-requires c = subst AreUnwatched (sym c.in-Err.ensures.err) c.loop-node.invariant.unwatched

pub loop-node-preserved : goal.loop-node-preserved
loop-node-preserved c =
    let stations = c.loop-node.stations.items in
    let more = c.in-Ok.ensures.ok in
    let s = more.station in
    record {
      count =
          ap length more.stations ∙ length-append stations (s ∷ []) ∙ ap (λ k. k + 1) c.loop-node.invariant.count;
      each =
          single-more c.args.t.now c.nodes-node-items.result.now stations c.loop-node.node-index _ s _
          c.nodes-node-items.ensures.list c.loop-node-test.true c.loop-node.invariant.count c.loop-node.invariant.each
          more.is_new more.stations;
      unwatched = unwatched-more c.args.t.now _ stations _ more c.loop-node.invariant.unwatched;
    }

pub returns-clause-new : goal.returns-clause-new
returns-clause-new c =
    let all = ap length c.nodes-node-items.ensures.list in
    joined-start c.args.alloc c.args.t.now c.loop-node.stations.items c.nodes-node-items.ensures.valid
    (omega (arith, all, c.loop-node-test.false, c.loop-node.auto.node-index-end, c.loop-node.invariant.count))
    c.loop-node.invariant.each
