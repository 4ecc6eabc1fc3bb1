use Rattle.std.proofs.Common.{get_or, refl, sym, subst}
use Rattle.ason_base.specs.declared.steps.Step.{Step}
use Rattle.route_least.specs.{Marking.Crosses, Trace.{FollowsArc, IsLeastArc, IsTrace}}
use Rattle.route_least.proofs.{BestArc.{leads_there, rise_falls, trace_push}, PlaceLists.node_at}
use Rattle.route_least.proofs.trace.follow.Goals as goal

pub loop-place-init : goal.loop-place-init
loop-place-init c = record {
  trace = subst (IsTrace
      (Crosses c.args.places.now c.args.closed.now) c.args.costs.now c.args.marks.now c.args.places.now c.args.ends.0
      c.args.ends.0) (sym c.new-route.ensures) refl;
  within = c.requires.from;
  leads = c.requires.leads;
}

pub best_arc-requires-clause-place : goal.best_arc-requires-clause-place
best_arc-requires-clause-place c = c.loop-place.invariant.within

pub unreachable-requires : goal.unreachable-requires
unreachable-requires c =
    let leads = leads_there (Crosses c.args.places.now c.args.closed.now) c.args.costs.now c.args.marks.now
    c.loop-place.place c.args.ends.1 c.requires.marked c.loop-place.invariant.leads c.loop-place-test.true in
    c.in-None.ensures leads.0 leads.1

pub loop-place-smaller : goal.loop-place-smaller
loop-place-smaller c =
    let best : IsLeastArc (Crosses c.args.places.now c.args.closed.now) c.args.costs.now c.args.marks.now
    c.loop-place.place c.in-Some.arc = c.in-Some.ensures in
    rise_falls c.args.costs.now c.loop-place.place c.in-Some.arc c.requires.small best.leads.tight
    (c.requires.sound.within c.loop-place.place c.in-Some.arc best.leads.goes.0).positive

pub loop-place-preserved : goal.loop-place-preserved
loop-place-preserved c =
    let places = c.args.places.now in
    let goes = Crosses places c.args.closed.now in
    let costs = c.args.costs.now in
    let marks = c.args.marks.now in
    let place = c.loop-place.place in
    let arc = c.in-Some.arc in
    let best : IsLeastArc goes costs marks place arc = c.in-Some.ensures in
    let step : Step = record { node = (get_or places place c.index-places-place.result).node; link = arc.link } in
    let follows : FollowsArc goes costs marks places place step arc =
    record {
      best = best;
      node = node_at places place c.index-places-place.result
          c.loop-place.invariant.within;
      link = refl;
    } in
    record {
      trace = subst (IsTrace goes costs marks places c.args.ends.0 arc.head) (sym c.in_ok-push.ensures.ok)
          (trace_push goes costs marks places c.args.ends.0 place c.loop-place.route step arc
          c.loop-place.invariant.trace follows);
      within = (c.requires.sound.within place arc best.leads.goes.0).head;
      leads = best.leads.marked;
    }

pub returns : goal.returns
returns c = subst (λ p. IsTrace (Crosses c.args.places.now c.args.closed.now) c.args.costs.now c.args.marks.now
    c.args.places.now c.args.ends.0 p c.loop-place.route) c.loop-place-test.false c.loop-place.invariant.trace
