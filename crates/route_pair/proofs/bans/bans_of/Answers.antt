use Rattle.std.proofs.Common.{◌∙◌, length, subst}
use Rattle.route_least.proofs.Passed.{written_back}
use Rattle.route_pair.specs.Closed.{AreClosedToo, AreSrlgsOf, HasOneSrlg}
use Rattle.route_pair.proofs.{Closing.shares_iff, Found.bans_back}
use Rattle.route_pair.proofs.bans.bans_of.Goals as goal

pub returns : goal.returns
returns c =
    let rows = c.args.rows.now in
    let route = c.args.primary.now in
    let used = c.in_ok-closed.closed.items in
    let srlgs = c.in_ok-srlgs.srlgs.items in
    let n = length rows in
    let listed : AreSrlgsOf rows used n srlgs = subst
    (λ u. AreSrlgsOf rows u n srlgs) c.deref.ensures.value c.in_ok-srlgs.ensures in
    let too : AreClosedToo rows (λ row. HasOneSrlg row srlgs) n used c.close.new.closed =
    subst (λ old. AreClosedToo rows (λ row. HasOneSrlg row srlgs) n old c.close.new.closed) c.deref_mut.ensures.value
    (subst (λ xs. AreClosedToo rows (λ row. HasOneSrlg row xs) n c.deref_mut.result.now c.close.new.closed)
    c.deref-3.ensures.value
    c.close.ensures)
    in
    let back = written_back c.in_ok-closed.closed.len c.close.new.closed used
    (c.close.ensures.len ∙ c.deref_mut.ensures.len) in
    bans_back rows route c.args.from c.args.to c.close.new.closed _ back (too.len ∙ c.in_ok-closed.ensures.len)
    (shares_iff rows route used c.close.new.closed srlgs c.in_ok-closed.ensures listed too) c.in_ok-nodes.ensures
