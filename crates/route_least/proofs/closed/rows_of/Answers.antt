use Rattle.std.proofs.Common.{◌≡◌, ◌≤◌, ◌+◌, ◌↔◌, true, length, sym, subst, arith}
use Rattle.std.specs.List.{Contains}
use Rattle.route_least.specs.Bans.{AreRowsWith}
use Rattle.route_least.proofs.Bans.{all_rows, no_rows, row_more, set_has}
use Rattle.route_least.proofs.closed.rows_of.Goals as goal

pub loop-row-init : goal.loop-row-init
loop-row-init c = no_rows (λ row. Contains c.args.links.now row.link) c.args.rows.now _ c.in_ok-closed.ensures.items

pub loop-row-preserved : goal.loop-row-preserved
loop-row-preserved c =
    let row = c.row-item.result in
    let has = set_has c.args.links.now c.in_ok-set.set c.in_ok-set.ensures row.link in
    subst (AreRowsWith (λ row. Contains c.args.links.now row.link) c.args.rows.now (c.loop-row.row-index + 1))
    (sym c.in_ok-push.ensures.items)
    (row_more (λ row. Contains c.args.links.now row.link) c.args.rows.now c.loop-row.row-index row
    c.loop-row.closed.items c.contains.result c.row-item.is
    (subst (λ b. (b ≡ true) ↔ Contains c.args.links.now row.link) (sym c.contains.ensures) has) c.loop-row.invariant)

pub returns : goal.returns
returns c =
    let past : length c.args.rows.now ≤ c.loop-row.row-index = c.loop-row-test.false in
    let inside : c.loop-row.row-index ≤ length c.args.rows.now = c.loop-row.auto.row-index-end in
    all_rows (λ row. Contains c.args.links.now row.link) c.args.rows.now c.loop-row.row-index c.loop-row.closed.items
    (omega arith) c.loop-row.invariant
