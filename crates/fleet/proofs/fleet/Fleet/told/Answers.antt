use Rattle.std.proofs.Common.{◌≡◌, sym, ap, subst}
use Rattle.std.specs.Prelude.{IfOk, Option}
use Rattle.mgmt_view.specs.Publishing.{PublisherState}
use Rattle.round_rules.specs.States.{StationState}
use Rattle.station.specs.Watched.{tables_by}
use Rattle.fleet.specs.Views.{publisher_in}
use Rattle.fleet.proofs.FoundStation.{found-kept, found-same, found-station, station-found, station-within}
use Rattle.fleet.proofs.fleet.Fleet.told.Goals as goal

pub index_mut-requires : goal.index_mut-requires
index_mut-requires c =
    station-within c.args.node c.self.invariant c.deref.ensures.value c.in-Some.ensures c.self.inside.stations.ok.0

pub invariant_of-self : goal.invariant_of-self
invariant_of-self c =
    found-kept (station-found c.args.node c.self.view_is c.self.invariant c.deref.ensures.value c.in-Some.ensures
    c.index_mut.ensures.value) c.told.new.self (ap (λ (s : StationState). s.links) c.told.ensures.same)

pub returns-in-Some-clause-told : goal.returns-in-Some-clause-told
returns-in-Some-clause-told c =
    subst (λ (p : Option PublisherState). IfOk c.told.result (λ told. told ≡ tables_by p))
    (sym (ap publisher_in (found-station (station-found c.args.node c.self.view_is c.self.invariant
    c.deref.ensures.value c.in-Some.ensures c.index_mut.ensures.value)))) c.told.ensures.told

pub returns-in-Some-clause-same : goal.returns-in-Some-clause-same
returns-in-Some-clause-same c =
    found-same (station-found c.args.node c.self.view_is c.self.invariant c.deref.ensures.value c.in-Some.ensures
    c.index_mut.ensures.value) c.told.new.self c.told.ensures.same
