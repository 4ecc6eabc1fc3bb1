use Rattle.std.proofs.Common.{◌≡◌, false, refl, subst, sym}
use Rattle.std.specs.Prelude.{◌&&◌}
use Rattle.round_rules.specs.{Waiting.is_world_quiet, Records.world_of}
use Rattle.ason_main.proofs.runner.rounds.rests.Goals as goal

pub returns-then-until_quiet : goal.returns-then-until_quiet
returns-then-until_quiet c t lines r stands =
    subst (λ b. c.quiet.result ≡ (b && is_world_quiet t (world_of t r))) (sym c.if-until_quiet.true)
    (c.quiet.ensures t lines r stands)

pub returns-else-until_quiet : goal.returns-else-until_quiet
returns-else-until_quiet c t lines r stands =
    subst (λ b. false ≡ (b && is_world_quiet t (world_of t r))) (sym c.if-until_quiet.false) refl
