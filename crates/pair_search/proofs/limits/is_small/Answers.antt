use Rattle.std.proofs.Common.{◌≡◌, ◌≤◌, ◌<◌, length, ap, arith}
use Rattle.pair_search.specs.{declared.limits.TheConstants.MOST_ENDS, Searches.ends_of}
use Rattle.pair_search.proofs.EndLists.{large-ends, small-rows}
use Rattle.pair_search.proofs.limits.is_small.Goals as goal

pub returns-clause-small : goal.returns-clause-small
returns-clause-small c = λ e.
    (let rows = c.args.rows.now in
    let most : c.len.result ≤ MOST_ENDS = grind arith in
    let same : length c.in_ok-ends.ends.items ≡ length (ends_of rows) = ap length c.in_ok-ends.ensures in
    small-rows rows c.if-rows-gt-MOST_ROWS.false
    (omega (arith, most, same, c.len.ensures, c.in_ok-ends.ends.ok.0)))

pub returns-clause-large : goal.returns-clause-large
returns-clause-large c = λ e.
    (let rows = c.args.rows.now in
    let more : MOST_ENDS < c.len.result = grind arith in
    let same : length c.in_ok-ends.ends.items ≡ length (ends_of rows) = ap length c.in_ok-ends.ensures in
    large-ends rows (omega (arith, more, same, c.len.ensures, c.in_ok-ends.ends.ok.0)))
