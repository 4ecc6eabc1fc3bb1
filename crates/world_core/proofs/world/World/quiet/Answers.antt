use Rattle.std.proofs.Common.{◌≡◌, sym, ◌∙◌, ap}
use Rattle.std.specs.List.{list_all}
use Rattle.world_core.specs.{Replays.WorldState, Seats.is_quiet}
use Rattle.world_core.proofs.Tabled.{is-quiet, quiet-is}
use Rattle.world_core.proofs.world.World.quiet.Goals as goal

pub returns : goal.returns
returns c t w stands =
    let all : list_all is_quiet c.args.self.now.seats ≡ c.are_quiet.result =
    ap (λ (k : WorldState). list_all is_quiet k.seats) (sym c.self.view_is) ∙
    ap (list_all is_quiet) (sym c.deref.ensures.value)
    ∙ sym c.are_quiet.ensures in
    (λ h. quiet-is t c.args.self.now w stands (all ∙ h), λ quiet. sym all ∙ is-quiet t c.args.self.now w stands quiet)
