use Rattle.std.proofs.Common.{◌<◌, sym, ◌∙◌, ap, subst, get_or, length, map, take_all}
use Rattle.std.specs.Prelude.{filter}
use Rattle.ason_base.specs.Network.{touches}
use Rattle.link_owner.specs.Owners.{HasFibresInto, fibre_unclaimed}
use Rattle.link_owner.proofs.FibresInto.{has_fibres_into, narrow-link}
use Rattle.link_owner.proofs.owner.unclaimed_fibres.Goals as goal

pub unclaimed_fibre-requires : goal.unclaimed_fibre-requires
unclaimed_fibre-requires c =
    let links = c.links-link-items.ensures in
    let i = c.loop-link.link-index in
    let below : i < length c.args.t.now.links = subst (λ xs. i < length xs) links.list c.loop-link-test.true in
    narrow-link c.args.t.now links.valid i c.link-item.result below
    (c.link-item.is ∙ ap (λ xs. get_or xs i c.link-item.result) links.list)

pub returns-clause-fibres : goal.returns-clause-fibres
returns-clause-fibres c =
    let n = c.args.node in
    let links = c.links-link-items.ensures in
    let all = take_all c.loop-link.link-index c.links-link-items.result.now c.loop-link-test.false ∙ links.list in
    let value = c.loop-link.invariant ∙ ap (λ ls. map (fibre_unclaimed n) (filter (touches n) ls)) all in
    subst (HasFibresInto c.args.t.now n) (sym value) (has_fibres_into c.args.t.now links.valid n)
