use Rattle.std.proofs.Common.{length, ◌≤◌, arith}
use Rattle.route_pair.proofs.TestRows.{few}
use Rattle.node_tests.proofs.row_checks.has_few_ends.Goals as goal

pub returns : goal.returns
returns c = λ h. few c.args.rows.now (let le : length c.args.rows.now ≤ 32 = grind arith in le)
