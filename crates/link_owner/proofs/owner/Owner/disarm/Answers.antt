use Rattle.link_owner.proofs.LitFibres.{darkens, is-lit-at}
use Rattle.link_owner.proofs.owner.Owner.disarm.Goals as goal

pub returns : goal.returns
returns c =
    let read =
    is-lit-at c.args.f c.args.self.now c.index_mut.result.now c.lit_place-place.ensures.first
    c.index_mut.ensures.value c.self.view_is in
    darkens read c.args.l c.args.lsp c.disarm.new.self c.disarm.ensures
