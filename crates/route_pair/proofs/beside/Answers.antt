use Rattle.std.specs.List.{Contains}
use Rattle.std.proofs.lemmas.Result.{IfErr-weaker, IfOk-weaker}
use Rattle.route_least.specs.{Answers.{IsLeastFound, IsRefusal}, Network.IsClosed}
use Rattle.route_pair.proofs.Found.{backup_err, backup_ok, kept_off}
use Rattle.route_pair.proofs.beside.Goals as goal

pub returns-clause-found : goal.returns-clause-found
returns-clause-found c =
    let rows = c.args.rows.now in
    let off = kept_off c.in_ok-bans.ensures c.deref.ensures.value c.items.ensures in
    IfOk-weaker c.least.result (IsLeastFound rows c.deref.result.now c.items.result.now c.args.ends.0 c.args.ends.1) _
    (backup_ok rows c.args.primary.now c.args.ends.0 c.args.ends.1 _ _ off.0 off.1)
    (c.least.ensures.found rows c.requires)

pub returns-clause-none : goal.returns-clause-none
returns-clause-none c =
    let rows = c.args.rows.now in
    let off = kept_off c.in_ok-bans.ensures c.deref.ensures.value c.items.ensures in
    IfErr-weaker c.least.result
    (IsRefusal rows (IsClosed rows c.deref.result.now) (Contains c.items.result.now) c.args.ends.0 c.args.ends.1) _
    (backup_err rows c.args.primary.now c.args.ends.0 c.args.ends.1 _ _ off.0 off.1)
    (c.least.ensures.none rows c.requires)
