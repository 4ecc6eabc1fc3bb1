use Rattle.std.proofs.{Common.{◌≡◌, ◌≢◌, ◌-◌, ◌∷◌, drop, take, length, sym, ap, subst, arith}, lemmas.Result.IfOk-weaker}
use Rattle.mesh_nodes.proofs.routes.Walked.{node_test}
use Rattle.pair_search.specs.{declared.cert.Children.End, declared.cert.Children.TheViews.More, Searches.{AreRows, HasChildren, HasTree, Search}}
use Rattle.pair_search.proofs.Trees.{branch-tree, end-children, far-tree, first-rest, more-row, no-rows, onward-less, onward-prefix, rest-rows, skip-row}
use Rattle.pair_search.proofs.prefixes.+explore.Goals as goal

pub branch-returns-in_default : goal.branch-returns-in_default
branch-returns-in_default t c =
    let search = c.args.search.now in
    let prefix = c.args.prefix.now in
    let rows = c.args.rows.now in
    let row = c.row-item.result in
    let rest = take (length rows - 1) (drop 1 rows) in
    let old = c.args.best.now in
    let new = c.branch-alloc.new.best in
    let parts = first-rest rows row c.in-len1-up.len_at_least c.row-item.is in
    IfOk-weaker c.branch-alloc.result (HasChildren search prefix rest old new)
    (HasChildren search prefix rows old new)
    (λ children has. subst (λ all. HasChildren search prefix all old new children) (sym parts)
    (skip-row search c.requires.search prefix row rest old new children (sym c.in_default.ensures) has))
    c.branch-alloc.ensures

pub branch-explore-requires : goal.branch-explore-requires
branch-explore-requires t c =
    let search = c.args.search.now in
    let prefix = c.args.prefix.now in
    let rows = c.args.rows.now in
    let row = c.row-item.result in
    let rest = take (length rows - 1) (drop 1 rows) in
    let parts = first-rest rows row c.in-len1-up.len_at_least c.row-item.is in
    let are = subst (AreRows search) parts c.requires.rows in
    let onward = c.in_ok-onward-in-len1-up.onward in
    let is = c.in_ok-onward-in-len1-up.ensures in
    let next = c.in-Some.next in (
      onward-less search c.requires.search prefix c.requires.prefix row rest are next c.in-Some.ensures onward is
          (length rows) t c.decreases,
      (
        c.requires.search,
        (
          onward-prefix search c.requires.search prefix c.requires.prefix row rest are next c.in-Some.ensures onward is,
          c.requires.sound,
        ),
      ),
    )

pub branch-branch-alloc-requires-in-len1-up : goal.branch-branch-alloc-requires-in-len1-up
branch-branch-alloc-requires-in-len1-up t c =
    let search = c.args.search.now in
    let rows = c.args.rows.now in
    let row = c.row-item.result in
    let rest = take (length rows - 1) (drop 1 rows) in
    let parts = first-rest rows row c.in-len1-up.len_at_least c.row-item.is in (
      (let more : length rows ≡ length (row ∷ rest) = ap length parts in omega (arith, more, c.decreases)),
      (
        c.requires.search,
        (
          c.requires.prefix,
          (
            rest-rows search row rest (subst (AreRows search) parts c.requires.rows),
            c.in_ok-tree-in-len1-up.ensures.tried.gone.sound,
          ),
        ),
      ),
    )

pub branch-returns-in-empty : goal.branch-returns-in-empty
branch-returns-in-empty t c =
    let search = c.args.search.now in
    let prefix = c.args.prefix.now in
    let best = c.args.best.now in
    subst (λ rows. HasChildren search prefix rows best best End) (sym (no-rows c.args.rows.now c.in-empty.len_below))
    (end-children search prefix best c.requires.sound)

pub branch-returns-in_ok-new-in-len1-up : goal.branch-returns-in_ok-new-in-len1-up
branch-returns-in_ok-new-in-len1-up t c =
    let search = c.args.search.now in
    let prefix = c.args.prefix.now in
    let rows = c.args.rows.now in
    let row = c.row-item.result in
    let rest = take (length rows - 1) (drop 1 rows) in
    let parts = first-rest rows row c.in-len1-up.len_at_least c.row-item.is in
    let are = subst (AreRows search) parts c.requires.rows in
    let old = c.args.best.now in
    let first = c.explore.new.best in
    let new = c.branch-alloc-in-len1-up.new.best in
    let tree = c.in_ok-tree-in-len1-up.tree in
    let has = subst (λ p. HasTree search p old first tree) c.in_ok-onward-in-len1-up.ensures
    c.in_ok-tree-in-len1-up.ensures in
    let others = subst (HasChildren search prefix rest first new) (sym c.in_ok-new-in-len1-up.ensures.ok)
    c.in_ok-others-in-len1-up.ensures in
    let box = c.in_ok-new-in-len1-up.field-0 in
    subst (λ all. HasChildren search prefix all old new (More row.link tree box))
    (sym parts)
    (more-row search c.requires.search prefix row rest are c.in-Some.next (sym c.in-Some.ensures) old first new tree _
    box.value has others)

pub explore-returns-then-is_far : goal.explore-returns-then-is_far
explore-returns-then-is_far t c =
    far-tree c.args.search.now c.requires.search c.args.prefix.now c.args.best.now c.requires.sound
    (sym c.if-is_far.ensures)

pub explore-returns : goal.explore-returns
explore-returns t c =
    let search = c.args.search.now in
    let prefix = c.args.prefix.now in
    let old = c.args.best.now in
    let new = c.branch-alloc.new.best in
    let other : prefix.at ≢ search.to = subst (λ (s : Search). prefix.at ≢ s.to) c.search.view_is
    (λ same. (let yes = node_test prefix.at c.search.inside.to same in cc (yes, c.if-eq.ensures))) in
    let has = subst (λ (s : Search). HasChildren search prefix s.rows old new c.in_ok-children.children)
    c.search.view_is c.in_ok-children.ensures in
    branch-tree search prefix old new _ c.in_ok-new.field-0.value other
    (subst (HasChildren search prefix search.rows old new) (sym c.in_ok-new.ensures.ok) has)
