use Rattle.std.proofs.Common.{◌≡◌, ◌∙◌, ◌+◌, ◌<◌, get_or, length, ap, set, sym, subst, take, take_all, true, arith}
use Rattle.route_least.specs.Network.{IsArcWithin}
use Rattle.route_least.proofs.{Marked.{IsMarkingBefore, all_before, marked_more, marked_same_more, marking_none}, PlaceLists.{arc_read, no_arc, read_arc}, leading.mark_before.Goals.{then-comes_by+then-not-marks-arc+in_ok-push, else-comes_by, else-comes_by-via-then-comes_by+else-not-marks-arc, else-comes_by-via-else-comes_by}}
use Rattle.route_least.proofs.leading.mark_before.Goals as goal

pub loop-arc-init : goal.loop-arc-init
loop-arc-init c = marking_none c.args.places.now c.args.closed.now c.args.costs.now c.requires.sound c.args.marks.now
    c.args.waiting.now.items c.args.place c.in-Some.cost c.requires.marked

pub comes_by-requires-clause-row : goal.comes_by-requires-clause-row
comes_by-requires-clause-row c =
    (arc_read c.args.place c.index-places-place.result c.loop-arc.arc-index c.requires.sound
    c.deref-arc-items.ensures.value c.requires.place c.loop-arc-test.true).row

pub comes_by-requires-clause-head : goal.comes_by-requires-clause-head
comes_by-requires-clause-head c =
    subst (λ n. (get_or c.deref-arc-items.result.now c.loop-arc.arc-index no_arc).head < n) (sym c.requires.costs)
    (arc_read c.args.place c.index-places-place.result c.loop-arc.arc-index c.requires.sound
    c.deref-arc-items.ensures.value c.requires.place c.loop-arc-test.true).head

pub comes_by-requires-clause-metric : goal.comes_by-requires-clause-metric
comes_by-requires-clause-metric c =
    let h =
    (arc_read c.args.place c.index-places-place.result c.loop-arc.arc-index c.requires.sound
    c.deref-arc-items.ensures.value c.requires.place c.loop-arc-test.true).metric in
    omega (arith, h)

pub loop-arc-preserved : goal.loop-arc-preserved
loop-arc-preserved c =
    let places = c.args.places.now in
    let closed = c.args.closed.now in
    let costs = c.args.costs.now in
    let arcs = c.deref-arc-items.result.now in
    let i = c.loop-arc.arc-index in
    let arc = get_or arcs i no_arc in
    let old = c.args.marks.now in
    let first = c.args.waiting.now.items in
    let there = read_arc places c.args.place c.index-places-place.result arcs i no_arc
    c.deref-arc-items.ensures.value c.requires.place c.loop-arc-test.true in
    let within : IsArcWithin (length places) (length closed) arc = c.requires.sound.within c.args.place arc there in
    let long : length c.loop-arc.marks ≡ length old = c.loop-arc.auto.marks in
    let inside : arc.head < length c.loop-arc.marks =
    subst (λ n. arc.head < n) (sym (long ∙ c.requires.marks)) within.head in
    elim c.if-comes_by.branch [
      | then-comes_by+then-not-marks-arc+in_ok-push w ↦
          subst (λ marks. IsMarkingBefore places closed costs old first c.args.place c.in-Some.cost
          (take (i + 1) arcs) marks c.if-comes_by.waiting.items) (sym w.marks-is)
          (subst (λ waiting. IsMarkingBefore places closed costs old first c.args.place c.in-Some.cost
          (take (i + 1) arcs) (set c.loop-arc.marks arc.head true) waiting)
          (sym (ap (λ v. v.items) w.waiting-is ∙ w.in_ok-push.ensures.items))
          (marked_more places closed costs c.requires.sound old first c.args.place c.in-Some.cost arcs i no_arc
          c.loop-arc.marks c.loop-arc.waiting.items c.loop-arc-test.true c.loop-arc.invariant
          there c.in-Some.is (c.comes_by.ensures.0 w.if-comes_by.true) long inside w.if-not-marks-arc.true))
      | else-comes_by w ↦
          subst (λ marks. IsMarkingBefore places closed costs old first c.args.place c.in-Some.cost
          (take (i + 1) arcs) marks c.if-comes_by.waiting.items) (sym w.marks-is)
          (subst (λ waiting. IsMarkingBefore places closed costs old first c.args.place c.in-Some.cost
          (take (i + 1) arcs) c.loop-arc.marks waiting) (sym (ap (λ v. v.items) w.waiting-is))
          (marked_same_more places closed costs c.requires.sound old first c.args.place c.in-Some.cost arcs i no_arc
          c.loop-arc.marks c.loop-arc.waiting.items c.loop-arc-test.true c.loop-arc.invariant
          (elim w.else-comes_by.branch [
            | else-comes_by-via-then-comes_by+else-not-marks-arc v ↦ λ by. v.if-not-marks-arc.false
            | else-comes_by-via-else-comes_by v ↦ λ by. absurd
                (let h = c.comes_by.ensures.1 by in let k = v.if-comes_by.false in cc (h, k))
          ])))
    ]

pub returns-clause-marked : goal.returns-clause-marked
returns-clause-marked c = c.loop-arc.invariant.has

pub returns-clause-onward : goal.returns-clause-onward
returns-clause-onward c = c.loop-arc.invariant.onward

pub returns-clause-before : goal.returns-clause-before
returns-clause-before c =
    let arcs = c.deref-arc-items.result.now in
    let done = c.loop-arc.invariant in
    all_before c.args.places.now c.args.closed.now c.args.costs.now c.requires.sound c.args.marks.now
    c.args.waiting.now.items c.args.place c.in-Some.cost c.index-places-place.result c.loop-arc.marks
    c.loop-arc.waiting.items c.in-Some.is
    (subst (λ xs. IsMarkingBefore c.args.places.now c.args.closed.now c.args.costs.now c.args.marks.now
    c.args.waiting.now.items c.args.place c.in-Some.cost xs c.loop-arc.marks c.loop-arc.waiting.items)
    (take_all c.loop-arc.arc-index arcs c.loop-arc-test.false ∙ c.deref-arc-items.ensures.value) done)
