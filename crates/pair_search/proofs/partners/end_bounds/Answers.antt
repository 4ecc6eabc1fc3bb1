use Rattle.std.proofs.Common.{[], subst, Contains}
use Rattle.route_least.specs.{Answers.{IsRefusal, JoinsNone}, Network.IsClosed}
use Rattle.pair_search.proofs.partners.end_bounds.Goals as goal

pub returns-in-Ok : goal.returns-in-Ok
returns-in-Ok c = λ rows is.
    (let f = c.in-Ok.ensures.found rows is in record { potential = f.potential; certificate = f.certificate })

pub returns-in-Err-NoRoute : goal.returns-in-Err-NoRoute
returns-in-Err-NoRoute c = λ rows is.
    (let closed = IsClosed rows c.args.closed.now in
    let f : JoinsNone rows closed (Contains []) c.args.ends.1 c.args.ends.0 c.in-Err-NoRoute.potential =
    subst (IsRefusal rows closed (Contains []) c.args.ends.1 c.args.ends.0) c.in-Err-NoRoute.field-0-is
    (c.in-Err-NoRoute.ensures.none rows is) in
    record { potential = f.potential; certificate = f.certificate })
