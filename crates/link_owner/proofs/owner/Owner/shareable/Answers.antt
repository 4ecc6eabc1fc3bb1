use Rattle.link_owner.proofs.FibrePlaces.{is-read, read-claims, read-labels}
use Rattle.link_owner.proofs.owner.Owner.shareable.Goals as goal

pub returns : goal.returns
returns c =
    let read = is-read _ _ _ c.requires c.place-place.ensures.first c.index.ensures c.self.view_is in
    rw (← read-labels read, ← read-claims read) c.shareable.ensures
