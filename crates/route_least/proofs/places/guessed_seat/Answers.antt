use Rattle.std.proofs.Common.{◌%◌, slice_index_or, subst}
use Rattle.route_least.specs.{declared.places.TheConstants.GUESSES, Network.HasNode}
use Rattle.route_least.proofs.PlaceLists.{seated_old}
use Rattle.route_least.proofs.places.guessed_seat.Goals as goal

pub returns-then-is_at-clause-seated : goal.returns-then-is_at-clause-seated
returns-then-is_at-clause-seated c =
    let guess = slice_index_or c.args.guesses.now (c.args.node.0 % GUESSES) 0 in
    seated_old c.args.places.now.items c.args.node guess c.requires.once
    (subst (λ ps. HasNode ps guess c.args.node) c.deref.ensures.value (c.is_at.ensures c.if-is_at.true))
