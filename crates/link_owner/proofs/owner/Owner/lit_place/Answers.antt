use Rattle.std.proofs.Common.{ap}
use Rattle.link_owner.specs.Marks.{is_marked_fibre}
use Rattle.link_owner.proofs.FibrePlaces.{first-read, place-found}
use Rattle.link_owner.proofs.owner.Owner.lit_place.Goals as goal

pub unreachable-requires : goal.unreachable-requires
unreachable-requires c = place-found (is_marked_fibre c.args.f) _ c.requires
    (first-read _ c.in-None.ensures c.deref.ensures.value (ap (λ o. o.marks) c.self.view_is))

pub returns-clause-first : goal.returns-clause-first
returns-clause-first c = first-read _ c.in-Some.ensures c.deref.ensures.value (ap (λ o. o.marks) c.self.view_is)
