use Rattle.std.proofs.Common.{[], subst, Contains}
use Rattle.route_least.specs.{Answers.{IsLeastFound, IsRefusal}, Network.{IsClosed, IsNetworkOf}}
use Rattle.pair_search.specs.Searches.{Search}
use Rattle.pair_search.proofs.PartnerWalks.{partner-found, partner-none}
use Rattle.pair_search.proofs.partners.partner_of.Goals as goal

pub returns-in-Ok : goal.returns-in-Ok
returns-in-Ok c =
    let search = c.args.search.now in
    let found = c.in-Ok.found in
    let least = subst (λ (s : Search). IsNetworkOf search.rows s.network →
    IsLeastFound search.rows c.args.closed.now [] s.from s.to found) c.search.view_is
    (c.in-Ok.ensures.found search.rows) c.requires.search.network in
    partner-found search c.requires.search.network.links c.args.route.now found
    (subst (λ closed. IsLeastFound search.rows closed [] search.from search.to found) c.requires.closed least)

pub returns-in-Err-NoRoute : goal.returns-in-Err-NoRoute
returns-in-Err-NoRoute c =
    let search = c.args.search.now in
    let fault = c.in-Err-NoRoute.field-0 in
    let none = subst (λ (s : Search). IsNetworkOf search.rows s.network →
    IsRefusal search.rows (IsClosed search.rows c.args.closed.now) (Contains []) s.from s.to fault) c.search.view_is
    (c.in-Err-NoRoute.ensures.none search.rows) c.requires.search.network in
    let closed = subst (λ closed. IsRefusal search.rows (IsClosed search.rows closed) (Contains []) search.from
    search.to fault) c.requires.closed none in
    partner-none search c.requires.search.network.links c.args.route.now c.in-Err-NoRoute.field-0-0
    (subst (IsRefusal search.rows (IsClosed search.rows _) (Contains []) search.from search.to)
    c.in-Err-NoRoute.field-0-is closed)
