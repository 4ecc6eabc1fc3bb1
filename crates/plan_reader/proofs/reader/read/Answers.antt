use Rattle.std.proofs.lemmas.Result.{IfOk-weaker}
use Rattle.plan_reader.proofs.PostablePlans.{plan_is_named, plan_is_postable}
use Rattle.plan_reader.proofs.reader.read.Goals as goal

pub returns-in-Ok-clause-postable : goal.returns-in-Ok-clause-postable
returns-in-Ok-clause-postable c =
    IfOk-weaker c.read_table.result _ _ (λ p h. plan_is_postable _ _ p h) c.read_table.ensures.plan

pub returns-in-Ok-clause-named : goal.returns-in-Ok-clause-named
returns-in-Ok-clause-named c =
    IfOk-weaker c.read_table.result _ _ (λ p h. plan_is_named _ _ p h) c.read_table.ensures.plan
