use Rattle.std.proofs.Common.{ap}
use Rattle.std.specs.Prelude.{slice_set}
use Rattle.fleet.specs.Standing.{FleetState}
use Rattle.fleet.proofs.{FoundStation.{found-kept, station-found, station-within}, Watching.watches-links}
use Rattle.fleet.proofs.fleet.Fleet.watch.Goals as goal

pub index_mut-requires : goal.index_mut-requires
index_mut-requires g c =
    station-within c.args.node c.self.invariant c.deref.ensures.value c.in-Some.ensures c.self.inside.stations.ok.0

pub invariant_of-self : goal.invariant_of-self
invariant_of-self g c =
    found-kept (station-found c.args.node c.self.view_is c.self.invariant c.deref.ensures.value c.in-Some.ensures
    c.index_mut.ensures.value) c.watch.new.self (watches-links c.watch.result _ c.watch.new.self c.watch.ensures)

pub returns : goal.returns
returns g c =
    let is = station-found c.args.node c.self.view_is c.self.invariant c.deref.ensures.value c.in-Some.ensures
    c.index_mut.ensures.value in
    record {
      place = c.in-Some.place;
      found = is.found;
      before = c.index_mut.result.now;
      there = is.there;
      after = c.watch.new.self;
      watches = c.watch.ensures;
      fleet =
          ap (λ (x : FleetState). record x { stations = slice_set x.stations c.in-Some.place c.watch.new.self })
          c.self.view_is;
    }
