use Rattle.std.proofs.Common.{arith}
use Rattle.pair_search.proofs.Explored.{row-cost}
use Rattle.pair_search.proofs.prefixes.longer.Goals as goal

pub overflow_add-cost : goal.overflow_add-cost
overflow_add-cost c =
    let small = row-cost c.args.search.now c.requires.search c.args.prefix.now c.requires.prefix c.args.row.now
    c.args.next c.requires.leads in
    omega (arith, small)
