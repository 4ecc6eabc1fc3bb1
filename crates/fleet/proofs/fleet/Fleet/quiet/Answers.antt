use Rattle.std.proofs.Common.{ap, ◌∙◌}
use Rattle.std.specs.List.{list_all}
use Rattle.fleet.specs.{Standing.FleetState, Waiting.has_nothing}
use Rattle.fleet.proofs.Sums.{quiet-stands}
use Rattle.fleet.proofs.fleet.Fleet.quiet.Goals as goal

pub returns : goal.returns
returns c t lines r s =
    c.are_quiet.ensures
    ∙ ap (list_all has_nothing) (c.deref.ensures.value ∙ ap (λ (x : FleetState). x.stations) c.self.view_is)
    ∙ quiet-stands t lines c.args.self.now r s
