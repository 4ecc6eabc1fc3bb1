use Rattle.std.proofs.Common.{subst}
use Rattle.fleet.specs.Rounds.{Rounds}
use Rattle.script_rules.specs.Outputs.{How}
use Rattle.ason_main.proofs.runner.crew.Crew.make_round.Goals as goal

pub returns-clause-rounds : goal.returns-clause-rounds
returns-clause-rounds g c =
    subst (λ (how : How). Rounds how.workers c.args.fleet.now c.round.new.self c.round.result) c.self.view_is
    c.round.ensures.rounds
