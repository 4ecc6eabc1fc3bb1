use Rattle.std.proofs.Common.{ap}
use Rattle.link_owner.specs.Owners.{is_fibre}
use Rattle.link_owner.proofs.FibrePlaces.{first-read, place-found}
use Rattle.link_owner.proofs.owner.Owner.place.Goals as goal

pub unreachable-requires : goal.unreachable-requires
unreachable-requires c = place-found (is_fibre c.args.f) _ c.requires
    (first-read _ c.in-None.ensures c.deref.ensures.value (ap (λ o. o.claims) c.self.view_is))

pub returns-clause-first : goal.returns-clause-first
returns-clause-first c = first-read _ c.in-Some.ensures c.deref.ensures.value (ap (λ o. o.claims) c.self.view_is)
