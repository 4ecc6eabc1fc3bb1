use Rattle.std.proofs.Common.{◌≡◌, ◌∙◌, ◌≤◌, false, length, sym, subst, set, replicate, None, Some, true}
use Rattle.ason_base.specs.declared.limits.TheConstants.{MOST_NODES}
use Rattle.route_least.specs.{Costs.is_place_marked, Network.Goes}
use Rattle.route_least.proofs.{Lowered.small, Passed.{IsCostTable, first_table, round_table, settled_least, written_back}}
use Rattle.route_least.proofs.costs.least_costs.Goals as goal

pub loop-init : goal.loop-init
loop-init c =
    let goes = Goes c.args.places.now c.args.closed.now c.args.banned.now in
    let count = length c.args.places.now in
    subst (λ costs. IsCostTable goes c.args.start count (set costs c.args.start (Some 0))
    (set c.in_ok-lowered.lowered.items c.args.start true)) (sym c.in_ok-costs.ensures)
    (subst (λ marks. IsCostTable goes c.args.start count (set (replicate count None) c.args.start (Some 0))
    (set marks c.args.start true)) (sym c.in_ok-lowered.ensures)
    (first_table goes c.args.start count c.requires.start))

pub loop-preserved : goal.loop-preserved
loop-preserved c =
    round_table (Goes c.args.places.now c.args.closed.now c.args.banned.now) c.args.start
    (length c.args.places.now) c.loop.costs.len c.loop.lowered.len
    c.loop.costs.items c.deref_mut.result.now c.pass.new.costs c.loop.lowered.items c.deref_mut-in-loop.result.now
    c.pass.new.lowered c.loop.invariant
    c.deref_mut.ensures.value c.deref_mut-in-loop.ensures.value c.deref_mut.ensures.len
    c.deref_mut-in-loop.ensures.len c.pass.auto.costs c.pass.auto.lowered
    c.pass.ensures.step c.pass.ensures.settled

pub returns-clause-least : goal.returns-clause-least
returns-clause-least c =
    let table = round_table _ c.args.start _ _ _ _ _ c.pass.new.costs _ _ c.pass.new.lowered c.loop.invariant
    c.deref_mut.ensures.value c.deref_mut-in-loop.ensures.value c.deref_mut.ensures.len c.deref_mut-in-loop.ensures.len
    c.pass.auto.costs c.pass.auto.lowered c.pass.ensures.step c.pass.ensures.settled in
    let marks = written_back c.loop.lowered.len c.pass.new.lowered c.loop.lowered.items
    (c.pass.auto.lowered ∙ c.deref_mut-in-loop.ensures.len) in
    settled_least _ c.args.start (length c.args.places.now) _ _ table
    (λ p. subst (λ on. is_place_marked on p ≡ false) (sym marks) (c.pass.ensures.none c.loop-test.false p))

pub returns-clause-small : goal.returns-clause-small
returns-clause-small c =
    let table = round_table _ c.args.start _ _ _ _ _ c.pass.new.costs _ _ c.pass.new.lowered c.loop.invariant
    c.deref_mut.ensures.value c.deref_mut-in-loop.ensures.value c.deref_mut.ensures.len c.deref_mut-in-loop.ensures.len
    c.pass.auto.costs c.pass.auto.lowered c.pass.ensures.step c.pass.ensures.settled in
    small _ table.bounded (subst (λ n. n ≤ MOST_NODES) (sym table.len) c.requires.sound.few)
