use Rattle.std.proofs.Common.{◌∙◌}
use Rattle.pair_search.specs.Searches.{Search}
use Rattle.pair_search.proofs.AllRoutes.{is-search, searched}
use Rattle.pair_search.proofs.prefixes.search_rows.Goals as goal

pub explore-requires-clause-search : goal.explore-requires-clause-search
explore-requires-clause-search c =
    let rows = c.args.rows.now in
    is-search rows c.args.network.now c.deref.result.now c.args.from c.args.to c.in_ok-goal.goal c.requires.network
    c.requires.small (c.deref.ensures.value ∙ c.in_ok-closed.ensures)
    (c.in_ok-goal.ensures rows c.requires.network)

pub returns : goal.returns
returns c =
    let rows = c.args.rows.now in
    let search : Search = record {
      network = c.args.network.now;
      rows = rows;
      from = c.args.from;
      to = c.args.to;
      goal = c.in_ok-goal.goal;
    } in
    searched search
    (is-search rows c.args.network.now c.deref.result.now c.args.from c.args.to c.in_ok-goal.goal c.requires.network
    c.requires.small (c.deref.ensures.value ∙ c.in_ok-closed.ensures)
    (c.in_ok-goal.ensures rows c.requires.network))
    c.new.result c.new.ensures c.explore.new.best c.in_ok-tree.tree c.in_ok-tree.ensures
