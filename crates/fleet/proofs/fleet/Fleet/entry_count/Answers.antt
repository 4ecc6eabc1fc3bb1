use Rattle.std.proofs.Common.{length, ap, ◌∙◌, arith}
use Rattle.std.specs.Prelude.{sum_by}
use Rattle.round_rules.specs.States.{StationState}
use Rattle.fleet.specs.Standing.{FleetState}
use Rattle.fleet.proofs.{Fitting.few-stations, Merged.lines-stand}
use Rattle.fleet.proofs.fleet.Fleet.entry_count.Goals as goal

pub log_lines-requires : goal.log_lines-requires
log_lines-requires c =
    omega (
      arith,
      ap length c.deref.ensures.value,
      few-stations c.self.inside.seats.items c.self.inside.stations.items c.self.invariant,
    )

pub returns-clause-count : goal.returns-clause-count
returns-clause-count c =
    let logs = c.log_lines.ensures.lines
    ∙ ap (sum_by (λ (x : StationState). length x.log)) (c.deref.ensures.value
    ∙ ap (λ (x : FleetState). x.stations) c.self.view_is) in
    omega (
      arith,
      logs,
      c.len.ensures,
      c.self.inside.posts.ok.0,
      ap (λ (x : FleetState). length x.posts) c.self.view_is,
    )

pub returns-clause-record : goal.returns-clause-record
returns-clause-record c t lines r s =
    omega (arith, returns-clause-count c, lines-stand t lines c.args.self.now r s, ap length s.posts)
