use Rattle.std.proofs.Common.{◌∙◌, ◌+◌, ◌<◌, get_or, sym, subst, take, take_all, arith}
use Rattle.route_least.proofs.{BestArc.{IsBestOfArcs, best_of_all, better_at, no_better_at, none_best}, PlaceLists.{arc_read, no_arc}, trace.best_arc.Goals.{then-leads_on+then-is_less, else-leads_on, else-leads_on-via-then-leads_on+else-is_less, else-leads_on-via-else-leads_on}}
use Rattle.route_least.proofs.trace.best_arc.Goals as goal

pub loop-arc-init : goal.loop-arc-init
loop-arc-init c = none_best c.args.closed.now c.args.costs.now c.args.marks.now c.in-Some.cost

pub leads_on-requires-clause-row : goal.leads_on-requires-clause-row
leads_on-requires-clause-row c =
    (arc_read c.args.place c.index-places-place.result c.loop-arc.arc-index c.requires.sound
    c.deref-arc-items.ensures.value c.requires.place c.loop-arc-test.true).row

pub leads_on-requires-clause-head : goal.leads_on-requires-clause-head
leads_on-requires-clause-head c =
    subst (λ n. (get_or c.deref-arc-items.result.now c.loop-arc.arc-index no_arc).head < n) (sym c.requires.costs)
    (arc_read c.args.place c.index-places-place.result c.loop-arc.arc-index c.requires.sound
    c.deref-arc-items.ensures.value c.requires.place c.loop-arc-test.true).head

pub leads_on-requires-clause-metric : goal.leads_on-requires-clause-metric
leads_on-requires-clause-metric c =
    let h =
    (arc_read c.args.place c.index-places-place.result c.loop-arc.arc-index c.requires.sound
    c.deref-arc-items.ensures.value c.requires.place c.loop-arc-test.true).metric in
    omega (arith, h)

pub loop-arc-preserved : goal.loop-arc-preserved
loop-arc-preserved c =
    let closed = c.args.closed.now in
    let costs = c.args.costs.now in
    let marks = c.args.marks.now in
    let cost = c.in-Some.cost in
    let arcs = c.deref-arc-items.result.now in
    let i = c.loop-arc.arc-index in
    elim c.if-leads_on.branch [
      | then-leads_on+then-is_less w ↦
          subst (IsBestOfArcs closed costs marks cost (take (i + 1) arcs)) (sym w.best-is)
          (better_at closed costs marks cost arcs i no_arc c.loop-arc.best c.loop-arc-test.true c.loop-arc.invariant
          (c.leads_on.ensures.0 w.if-leads_on.true) (w.is_less.ensures.0 w.if-is_less.true))
      | else-leads_on w ↦
          subst (IsBestOfArcs closed costs marks cost (take (i + 1) arcs)) (sym w.best-is)
          (elim w.else-leads_on.branch [
            | else-leads_on-via-then-leads_on+else-is_less v ↦ no_better_at closed costs marks cost arcs i no_arc
                c.loop-arc.best c.loop-arc-test.true c.loop-arc.invariant
                (λ t less. absurd (let h = v.is_less.ensures.1 less in let k = v.if-is_less.false in cc (h, k)))
            | else-leads_on-via-else-leads_on v ↦ no_better_at closed costs marks cost arcs i no_arc c.loop-arc.best
                c.loop-arc-test.true c.loop-arc.invariant
                (λ t less. absurd (let h = c.leads_on.ensures.1 t in let k = v.if-leads_on.false in cc (h, k)))
          ])
    ]

pub returns : goal.returns
returns c =
    let arcs = c.deref-arc-items.result.now in
    best_of_all c.args.places.now c.args.closed.now c.args.costs.now c.args.marks.now c.args.place c.in-Some.cost
    c.index-places-place.result c.requires.place c.in-Some.is c.loop-arc.best
    (subst (λ seen. IsBestOfArcs c.args.closed.now c.args.costs.now c.args.marks.now c.in-Some.cost seen
    c.loop-arc.best)
    (take_all c.loop-arc.arc-index arcs c.loop-arc-test.false ∙
    c.deref-arc-items.ensures.value) c.loop-arc.invariant)
