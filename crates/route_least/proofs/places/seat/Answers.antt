use Rattle.std.proofs.Common.{ℕ, subst}
use Rattle.route_least.specs.Network.{HasNode}
use Rattle.route_least.proofs.PlaceLists.{seated_old}
use Rattle.route_least.proofs.places.seat.Goals as goal

pub returns-in-Some : goal.returns-in-Some
returns-in-Some c =
    seated_old c.args.places.now.items c.args.node c.in-Some.place c.requires
    (subst (λ ps. HasNode ps c.in-Some.place c.args.node) c.deref.ensures.value c.in-Some.ensures)

pub new_seat-requires-clause-absent : goal.new_seat-requires-clause-absent
new_seat-requires-clause-absent c =
    subst (λ ps. (p : ℕ) → ¬ HasNode ps p c.args.node) c.deref.ensures.value c.in_default.ensures
