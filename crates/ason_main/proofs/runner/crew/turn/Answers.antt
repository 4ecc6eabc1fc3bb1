use Rattle.ason_main.proofs.runner.crew.turn.Goals as goal

pub returns : goal.returns
returns g c = record { rounds = c.round.ensures.rounds; publishes = c.round.ensures.publishes }
