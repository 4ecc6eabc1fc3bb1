use Rattle.std.proofs.{Common.{◌≡◌, IfOk, ap, ◌∙◌, subst}, lemmas.Result.IfOk-weaker}
use Rattle.route_least.specs.Network.{IsNetworkOf}
use Rattle.pair_search.specs.Searches.{closed_rows, AreEndBounds, HasWhole, Search}
use Rattle.pair_search.proofs.Leaves.{whole-taken}
use Rattle.pair_search.proofs.partners.take_whole.Goals as goal

pub returns : goal.returns
returns c =
    let search = c.args.search.now in
    let prefix = c.args.prefix.now in
    let old = c.args.best.now in
    let new = c.offer.new.best in
    let bounds = subst (λ (s : Search). IsNetworkOf search.rows s.network →
    IfOk c.end_bounds.result (AreEndBounds search.rows c.deref-2.result.now s.from s.to)) c.search.view_is
    (c.end_bounds.ensures search.rows) c.requires.search.network in
    let closed : c.deref-2.result.now ≡ closed_rows search prefix.done =
    c.deref-2.ensures.value ∙ c.in_ok-closed.ensures ∙ ap (closed_rows search) c.items.ensures in
    IfOk-weaker c.end_bounds.result (AreEndBounds search.rows _ search.from search.to)
    (HasWhole search prefix old new)
    (λ ps are. whole-taken search c.requires.search prefix old new ps c.in_ok-offer.ensures are)
    (subst (λ rows. IfOk c.end_bounds.result (AreEndBounds search.rows rows search.from search.to)) closed bounds)
