use Rattle.link_owner.specs.Claims.{freed}
use Rattle.link_owner.proofs.FibrePlaces.{is-read, put-back}
use Rattle.link_owner.proofs.owner.Owner.free.Goals as goal

pub returns : goal.returns
returns c =
    let read =
    is-read c.args.f c.args.self.now c.index_mut.result.now c.requires c.place-place.ensures.first
    c.index_mut.ensures.value c.self.view_is in
    put-back read c.free.new.self
    (freed c.args.l c.args.lsp) c.free.ensures
