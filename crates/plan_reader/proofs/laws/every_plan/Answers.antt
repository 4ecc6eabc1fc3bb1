use Rattle.plan_reader.proofs.PostablePlans.{names_found, network_valid}
use Rattle.plan_reader.proofs.laws.every_plan.Goals as goal

pub returns-clause-valid : goal.returns-clause-valid
returns-clause-valid c = network_valid

pub returns-clause-names : goal.returns-clause-names
returns-clause-names c = names_found
