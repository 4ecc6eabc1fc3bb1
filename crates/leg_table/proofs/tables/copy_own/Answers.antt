use Rattle.std.proofs.{Common.{◌≡◌, ◌<◌, ◌+◌, ◌++◌, ◌∙◌, ℕ, Bool, List, [], ◌∷◌, ap, get_or, length, sym, take}, lemmas.List.Elements.filter_more}
use Rattle.std.specs.Prelude.{filter}
use Rattle.ason_base.specs.Network.{touches}
use Rattle.leg_table.proofs.tables.copy_own.Goals as goal

filter-next : {X : Type 0} (p : X → Bool) (xs : List X) (i : ℕ) (x : X) → i < length xs → x ≡ get_or xs i x →
    filter p (take (i + 1) xs) ≡ filter p (take i xs) ++ filter p (x ∷ [])
filter-next p xs i x within is =
    filter_more p xs i x within ∙ ap (λ y. filter p (take i xs) ++ filter p (y ∷ [])) (sym is)

pub loop-link-preserved : goal.loop-link-preserved
loop-link-preserved c =
    c.in_ok-copy_if_own.ensures
    ∙ ap (λ own. own ++ filter (touches c.args.n) (c.link-item.result ∷ [])) c.loop-link.invariant
    ∙ sym (filter-next (touches c.args.n) c.args.links.now c.loop-link.link-index c.link-item.result
    c.loop-link-test.true c.link-item.is)
