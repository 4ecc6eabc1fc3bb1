use Rattle.std.proofs.Common.{nat_eq, sym, ap, ◌∙◌}
use Rattle.ason_base.specs.declared.limits.TheConstants.{MOST_EVENTS}
use Rattle.fleet.specs.Commands.{station_lines}
use Rattle.fleet.proofs.FoundStation.{found-station, station-found, station-within}
use Rattle.fleet.proofs.fleet.Fleet.full.Goals as goal

pub index-requires : goal.index-requires
index-requires c =
    station-within c.args.node c.self.invariant c.deref.ensures.value c.in-Some.ensures c.self.inside.stations.ok.0

pub returns-in-Some : goal.returns-in-Some
returns-in-Some c =
    ap (λ k. nat_eq k MOST_EVENTS) (c.made.ensures.lines
    ∙ sym (ap station_lines (found-station (station-found c.args.node c.self.view_is c.self.invariant c.deref.ensures.value
    c.in-Some.ensures c.index.ensures))))
