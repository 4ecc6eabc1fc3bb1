use Rattle.std.proofs.Common.{rules}
use Rattle.ason_main.proofs.InView.{made-rounds}
use Rattle.ason_main.proofs.runner.crew.Crew.round_beside.Goals as goal

pub returns-clause-rounds : goal.returns-clause-rounds
returns-clause-rounds g c = made-rounds _ _ c.self.view_is _ _ _ (search rules)
