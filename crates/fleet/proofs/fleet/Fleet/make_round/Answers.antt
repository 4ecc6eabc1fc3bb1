use Rattle.std.proofs.Common.{refl, sym, ap, ◌∙◌, arith}
use Rattle.fleet.specs.{Standing.FleetState, Views.publishers_of}
use Rattle.fleet.proofs.Whole.{filled, filled-settled, fleet-rounds}
use Rattle.fleet.proofs.fleet.Fleet.make_round.Goals as goal

pub invariant_of-self : goal.invariant_of-self
invariant_of-self g c =
    let f = c.self.inside in
    filled-settled c.deref.result.now f.seats.items f.stations.items c.round_in_order.new.stations f.stations.len
    c.deref.ensures.value c.self.invariant c.round_in_order.ensures.settled f.stations.ok.0

pub invariant_of-self-else-workers-eq1 : goal.invariant_of-self-else-workers-eq1
invariant_of-self-else-workers-eq1 g c =
    let f = c.self.inside in
    filled-settled c.deref-else-workers-eq1.result.now f.seats.items f.stations.items c.round_on_threads.new.stations
    f.stations.len c.deref-else-workers-eq1.ensures.value c.self.invariant c.round_on_threads.ensures.settled
    f.stations.ok.0

pub returns-then-workers-eq1-clause-rounds : goal.returns-then-workers-eq1-clause-rounds
returns-then-workers-eq1-clause-rounds g c =
    let f = c.self.inside in
    fleet-rounds _ c.args.self.now c.deref.result.now c.deref_mut.result.now c.round_in_order.new.stations _ 1
    c.args.workers c.round_in_order.result c.self.view_is c.deref.ensures.value c.deref_mut.ensures.value (omega
    (arith, c.if-workers-eq1.true))
    (filled c.deref.result.now f.seats.items f.stations.items c.round_in_order.new.stations f.stations.len
    c.deref.ensures.value c.self.invariant c.round_in_order.ensures.settled f.stations.ok.0)
    c.round_in_order.ensures.rounds

pub returns-else-workers-eq1-clause-rounds : goal.returns-else-workers-eq1-clause-rounds
returns-else-workers-eq1-clause-rounds g c =
    let f = c.self.inside in
    fleet-rounds _ c.args.self.now c.deref-else-workers-eq1.result.now c.deref_mut-else-workers-eq1.result.now
    c.round_on_threads.new.stations _ c.args.workers c.args.workers c.round_on_threads.result c.self.view_is
    c.deref-else-workers-eq1.ensures.value c.deref_mut-else-workers-eq1.ensures.value refl
    (filled c.deref-else-workers-eq1.result.now f.seats.items f.stations.items c.round_on_threads.new.stations
    f.stations.len c.deref-else-workers-eq1.ensures.value c.self.invariant c.round_on_threads.ensures.settled
    f.stations.ok.0) c.round_on_threads.ensures.rounds

pub returns-then-workers-eq1-clause-publishers : goal.returns-then-workers-eq1-clause-publishers
returns-then-workers-eq1-clause-publishers g c =
    let f = c.self.inside in
    ap publishers_of (sym
    (filled c.deref.result.now f.seats.items f.stations.items c.round_in_order.new.stations f.stations.len
    c.deref.ensures.value c.self.invariant c.round_in_order.ensures.settled f.stations.ok.0))
    ∙ c.round_in_order.ensures.publishers ∙ ap publishers_of c.deref_mut.ensures.value
    ∙ ap (λ (x : FleetState). publishers_of x.stations) c.self.view_is

pub returns-else-workers-eq1-clause-publishers : goal.returns-else-workers-eq1-clause-publishers
returns-else-workers-eq1-clause-publishers g c =
    let f = c.self.inside in
    ap publishers_of (sym
    (filled c.deref-else-workers-eq1.result.now f.seats.items f.stations.items c.round_on_threads.new.stations
    f.stations.len c.deref-else-workers-eq1.ensures.value c.self.invariant c.round_on_threads.ensures.settled
    f.stations.ok.0))
    ∙ c.round_on_threads.ensures.publishers ∙ ap publishers_of c.deref_mut-else-workers-eq1.ensures.value
    ∙ ap (λ (x : FleetState). publishers_of x.stations) c.self.view_is
