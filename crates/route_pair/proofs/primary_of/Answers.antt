use Rattle.std.proofs.{Common.{◌∙◌, [], length, refl}, lemmas.Result.{IfErr-weaker, IfOk-weaker}}
use Rattle.std.specs.List.{Contains}
use Rattle.route_least.specs.{Answers.{IsLeastFound, IsRefusal}, Network.IsClosed}
use Rattle.route_pair.specs.Pairs.{IsFault, IsPrimary}
use Rattle.route_pair.proofs.Found.{primary_err, primary_ok}
use Rattle.route_pair.proofs.primary_of.Goals as goal

pub returns-clause-found : goal.returns-clause-found
returns-clause-found c =
    let rows = c.args.rows.now in
    IfOk-weaker c.least.result (IsLeastFound rows c.deref.result.now [] c.args.ends.0 c.args.ends.1)
    (IsPrimary rows c.args.ends.0 c.args.ends.1)
    (primary_ok rows c.args.ends.0 c.args.ends.1 c.deref.result.now [] (length rows)
    (c.deref.ensures.value ∙ c.in_ok-closed.ensures) refl) (c.least.ensures.found rows c.requires)

pub returns-clause-fault : goal.returns-clause-fault
returns-clause-fault c =
    let rows = c.args.rows.now in
    IfErr-weaker c.least.result (IsRefusal rows (IsClosed rows c.deref.result.now) (Contains []) c.args.ends.0 c.args.ends.1)
    (IsFault rows c.args.ends.0 c.args.ends.1)
    (primary_err rows c.args.ends.0 c.args.ends.1 c.deref.result.now [] (length rows)
    (c.deref.ensures.value ∙ c.in_ok-closed.ensures) refl) (c.least.ensures.none rows c.requires)
