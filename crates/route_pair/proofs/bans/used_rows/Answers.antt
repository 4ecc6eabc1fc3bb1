use Rattle.std.proofs.Common.{◌∙◌, length, sym, subst}
use Rattle.route_least.specs.Bans.{AreRowsWith}
use Rattle.route_least.proofs.Passed.{written_back}
use Rattle.route_pair.specs.Closed.{AreClosedToo, RowHasLink, IsRowOnRoute}
use Rattle.route_pair.proofs.{Closing.closed_alone, Flags.on_route}
use Rattle.route_pair.proofs.bans.used_rows.Goals as goal

pub returns : goal.returns
returns c =
    let rows = c.args.rows.now in
    let route = c.args.route.now in
    let links = c.in_ok-links.links.items in
    let old = c.deref_mut.result.now in
    let new = c.close_links.new.closed in
    let too : AreClosedToo rows (RowHasLink links) (length rows) old new =
    subst (λ xs. AreClosedToo rows (RowHasLink xs) (length rows) old new) c.deref-2.ensures.value c.close_links.ensures
    in
    let back = written_back c.in_ok-used.used.len new c.in_ok-used.used.items
    (c.close_links.ensures.len ∙ c.deref_mut.ensures.len) in
    subst (AreRowsWith (IsRowOnRoute route) rows (length rows)) (sym back)
    (closed_alone rows (RowHasLink links) (IsRowOnRoute route) old new
    (λ row. on_route route row links c.in_ok-links.ensures)
    (c.deref_mut.ensures.value ∙ c.in_ok-used.ensures) too)
