use Rattle.std.proofs.Common.{rules}
use Rattle.control_channels.proofs.Resting.{resting-committed}
use Rattle.controller.proofs.reactions.commit_handed.Goals as goal

pub returns-else-heard-eq4 : goal.returns-else-heard-eq4
returns-else-heard-eq4 c = resting-committed c.args.adjacencies.now (c.requires (λ e. search rules))
