use Rattle.std.proofs.Common.{nat_eq, sym, ap, ◌∙◌, subst}
use Rattle.std.specs.Prelude.{position, slice_set}
use Rattle.ason_base.specs.{declared.limits.TheConstants.MOST_EVENTS, Network.Network}
use Rattle.ason_base.proofs.Results.{on_err, on_ok}
use Rattle.world_rules.specs.WorldRuns.{is_world_channel}
use Rattle.round_rules.proofs.Nodes.{joins-nodes}
use Rattle.fleet.specs.{Commands.{is_seat, station_lines}, Standing.FleetState, Views.ShowNoiseMore}
use Rattle.station.specs.Watched.{ShowsNoiseMore}
use Rattle.fleet.proofs.{Finding.seat-lost, FoundStation.{found-kept, found-same, found-station, station-found, station-within}, KeptSeats.rest-kept, Lines.noise-stands, Heard.shows-self, Places.{zip-self, zip-set}}
use Rattle.fleet.proofs.fleet.Fleet.noise.Goals as goal

pub index_mut-requires : goal.index_mut-requires
index_mut-requires c =
    station-within c.args.to c.self.invariant c.deref.ensures.value c.in-Some.ensures c.self.inside.stations.ok.0

pub hear-requires-clause-room : goal.hear-requires-clause-room
hear-requires-clause-room c =
    sym (ap (λ s. nat_eq (station_lines s) MOST_EVENTS)
    (found-station (station-found c.args.to c.self.view_is c.self.invariant
    c.deref.ensures.value c.in-Some.ensures c.index_mut.ensures.value))) ∙ c.requires.room

pub invariant_of-self : goal.invariant_of-self
invariant_of-self c =
    found-kept (station-found c.args.to c.self.view_is c.self.invariant c.deref.ensures.value c.in-Some.ensures
    c.index_mut.ensures.value) c.hear.new.station c.hear.ensures.links

pub returns-in-None-clause-on : goal.returns-in-None-clause-on
returns-in-None-clause-on c t lines r s =
    absurd (seat-lost t c.args.self.now.seats c.args.to s.seats
    (ap (position (is_seat c.args.to)) (sym (c.deref.ensures.value ∙ ap (λ (x : FleetState). x.seats) c.self.view_is))
    ∙ sym c.in-None.ensures)
    (joins-nodes t c.args.from c.args.to (ap (λ (k : Network). is_world_channel k c.args.from c.args.to) (sym s.network)
    ∙ c.requires.near)).to)

pub returns-in-Some-clause-on : goal.returns-in-Some-clause-on
returns-in-Some-clause-on c =
    let is = station-found c.args.to c.self.view_is c.self.invariant c.deref.ensures.value c.in-Some.ensures
    c.index_mut.ensures.value in
    on_ok c.hear.result _ _
    (λ hears. noise-stands c.args.from c.args.to c.args.bytes.now c.args.self.now _ c.in-Some.place _
    c.hear.new.station c.requires.near is.found is.there hears
    (ap (λ (x : FleetState). slice_set x.stations c.in-Some.place c.hear.new.station) c.self.view_is)
    (ap (λ (x : FleetState). x.seats) c.self.view_is) (rest-kept c.self.view_is)) c.hear.ensures.ok

pub returns-in-Some-clause-err : goal.returns-in-Some-clause-err
returns-in-Some-clause-err c =
    on_err c.hear.result _ _ (found-same (station-found c.args.to c.self.view_is c.self.invariant c.deref.ensures.value
    c.in-Some.ensures c.index_mut.ensures.value) c.hear.new.station) c.hear.ensures.err

pub returns-in-None-clause-shown : goal.returns-in-None-clause-shown
returns-in-None-clause-shown c = zip-self ShowsNoiseMore shows-self c.args.self.now.stations

pub returns-in-Some-clause-shown : goal.returns-in-Some-clause-shown
returns-in-Some-clause-shown c =
    let is = station-found c.args.to c.self.view_is c.self.invariant c.deref.ensures.value c.in-Some.ensures
    c.index_mut.ensures.value in
    subst (λ (x : FleetState). ShowNoiseMore x.stations (slice_set c.self.inside.stations.items c.in-Some.place
    c.hear.new.station)) c.self.view_is
    (zip-set ShowsNoiseMore shows-self c.self.inside.stations.items c.in-Some.place _ c.hear.new.station is.at
    c.hear.ensures.shown)
