use Rattle.std.proofs.Common.{◌≡◌, ◌∙◌, ◌+◌, ◌<◌, ◌≤◌, get_or, length, sym, subst, take, take_all, true}
use Rattle.ason_base.specs.declared.limits.TheConstants.{MOST_NODES}
use Rattle.route_least.specs.Network.{IsArcWithin}
use Rattle.route_least.proofs.{Lowered.small, PlaceLists.{arc_read, no_arc, read_arc}, Relaxed.{IsRelaxing, all_relaxed, relaxed, relaxed_none, relaxing}, costs.relax.Goals.{then-lower, else-lower}}
use Rattle.route_least.proofs.costs.relax.Goals as goal

pub loop-arc-init : goal.loop-arc-init
loop-arc-init c = relaxing c.args.places.now c.args.closed.now c.args.banned.now c.args.place c.in-Some.cost
    c.args.costs.now c.args.lowered.now c.in-Some.is c.requires.bounded

pub lower-requires-clause-arc : goal.lower-requires-clause-arc
lower-requires-clause-arc c =
    let same : length c.loop-arc.costs ≡ length c.args.places.now = c.loop-arc.auto.costs ∙ c.requires.costs in
    subst (λ n. IsArcWithin n (length c.args.closed.now)
    (get_or c.deref-arc-items.result.now c.loop-arc.arc-index no_arc))
    (sym same)
    (arc_read c.args.place c.index-places-place.result c.loop-arc.arc-index c.requires.sound
    c.deref-arc-items.ensures.value c.requires.place c.loop-arc-test.true)

pub lower-requires-clause-small : goal.lower-requires-clause-small
lower-requires-clause-small c =
    let few : length c.args.costs.now ≤ MOST_NODES = subst (λ n. n ≤ MOST_NODES)
    (sym c.requires.costs) c.requires.sound.few in
    small c.args.costs.now c.requires.bounded few c.args.place c.in-Some.cost c.in-Some.is

pub bounds-lowered-arc : goal.bounds-lowered-arc
bounds-lowered-arc c =
    subst (λ n. (get_or c.deref-arc-items.result.now c.loop-arc.arc-index no_arc).head < n)
    (sym (c.loop-arc.auto.lowered ∙ c.requires.lowered))
    (arc_read c.args.place c.index-places-place.result c.loop-arc.arc-index c.requires.sound
    c.deref-arc-items.ensures.value c.requires.place c.loop-arc-test.true).head

pub loop-arc-preserved : goal.loop-arc-preserved
loop-arc-preserved c =
    let places = c.args.places.now in
    let closed = c.args.closed.now in
    let banned = c.args.banned.now in
    let place = c.args.place in
    let cost = c.in-Some.cost in
    let arcs = c.deref-arc-items.result.now in
    let i = c.loop-arc.arc-index in
    let there = read_arc places place c.index-places-place.result arcs i no_arc c.deref-arc-items.ensures.value
    c.requires.place c.loop-arc-test.true in
    let within = c.requires.sound.within place (get_or arcs i no_arc) there in
    let costs : length c.loop-arc.costs ≡ length places = c.loop-arc.auto.costs ∙ c.requires.costs in
    let marks : length c.loop-arc.lowered ≡ length places = c.loop-arc.auto.lowered ∙ c.requires.lowered in
    let few : length c.args.costs.now ≤ MOST_NODES = subst (λ n. n ≤ MOST_NODES)
    (sym c.requires.costs) c.requires.sound.few in
    let low = small c.args.costs.now c.requires.bounded few place cost c.in-Some.is in
    elim c.if-lower.branch [
      | then-lower w ↦
          subst (λ b. IsRelaxing places closed banned place cost c.args.costs.now c.args.lowered.now
          (take (i + 1) arcs) c.lower.new.costs c.if-lower.lowered b) (sym w.changed-is)
          (subst (λ on. IsRelaxing places closed banned place cost c.args.costs.now c.args.lowered.now
          (take (i + 1) arcs) c.lower.new.costs on true) (sym w.lowered-is)
          (relaxed places closed banned place cost c.args.costs.now c.args.lowered.now arcs i no_arc c.loop-arc.costs
          c.lower.new.costs c.loop-arc.lowered c.loop-arc.changed c.loop-arc-test.true c.loop-arc.invariant
          (there, c.lower.ensures.free w.if-lower.true)
          (subst (λ n. (get_or arcs i no_arc).head < n) (sym costs) within.head)
          (subst (λ n. (get_or arcs i no_arc).head < n) (sym marks) within.head) within.metric low
          (c.lower.ensures.lowered w.if-lower.true)))
      | else-lower w ↦
          subst (λ b. IsRelaxing places closed banned place cost c.args.costs.now c.args.lowered.now
          (take (i + 1) arcs) c.lower.new.costs c.if-lower.lowered b) (sym w.changed-is)
          (subst (λ on. IsRelaxing places closed banned place cost c.args.costs.now c.args.lowered.now
          (take (i + 1) arcs) c.lower.new.costs on c.loop-arc.changed) (sym w.lowered-is)
          (relaxed_none places closed banned place cost c.args.costs.now c.args.lowered.now arcs i no_arc
          c.loop-arc.costs c.lower.new.costs c.loop-arc.lowered c.loop-arc.changed c.loop-arc-test.true
          c.loop-arc.invariant
          (c.lower.ensures.kept w.if-lower.false) (c.lower.ensures.settled w.if-lower.false)))
    ]

pub returns-clause-step : goal.returns-clause-step
returns-clause-step c = c.loop-arc.invariant.step

pub returns-clause-settled : goal.returns-clause-settled
returns-clause-settled c =
    let arcs = c.deref-arc-items.result.now in
    let done = c.loop-arc.invariant in
    all_relaxed c.args.places.now c.args.closed.now c.args.banned.now c.args.place c.in-Some.cost c.args.costs.now
    c.args.lowered.now c.index-places-place.result c.loop-arc.costs c.loop-arc.lowered c.loop-arc.changed
    (subst (λ xs. IsRelaxing c.args.places.now c.args.closed.now c.args.banned.now c.args.place c.in-Some.cost
    c.args.costs.now c.args.lowered.now xs c.loop-arc.costs c.loop-arc.lowered c.loop-arc.changed)
    (take_all c.loop-arc.arc-index arcs c.loop-arc-test.false ∙ c.deref-arc-items.ensures.value) done)

pub returns-clause-kept : goal.returns-clause-kept
returns-clause-kept c = c.loop-arc.invariant.kept

pub returns-clause-falls : goal.returns-clause-falls
returns-clause-falls c = c.loop-arc.invariant.falls
