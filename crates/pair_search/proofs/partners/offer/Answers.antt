use Rattle.std.proofs.Common.{◌≡◌, ◌≤◌, ap, ◌∙◌, subst, arith}
use Rattle.pair_search.specs.Searches.{pair_of, weighed, IsOneOf, IsPartner, IsPairReached}
use Rattle.pair_search.proofs.Leaves.{found-cost, offered-none, offered-some, prefix-cost}
use Rattle.pair_search.proofs.partners.offer.Goals as goal

pub returns-in_default : goal.returns-in_default
returns-in_default c =
    let search = c.args.search.now in
    let prefix = c.args.prefix.now in
    offered-none search c.requires.search prefix c.requires.prefix c.requires.end
    (subst (IsPartner search prefix.done) c.in_default.is c.in_ok-partner.ensures) c.args.best.now c.requires.sound

pub pair_of-requires : goal.pair_of-requires
pair_of-requires c =
    let search = c.args.search.now in
    let prefix = c.args.prefix.now in
    let partner = c.in-Some.partner in
    let least = subst (IsPartner search prefix.done) c.in-Some.is c.in_ok-partner.ensures in
    let one : prefix.cost ≤ 4128705 = prefix-cost search c.requires.search prefix c.requires.prefix in
    let other : partner.cost ≤ 4128705 =
    found-cost search c.requires.search prefix c.requires.prefix c.requires.end partner least in
    omega (arith, one, other)

pub returns : goal.returns
returns c =
    let search = c.args.search.now in
    let prefix = c.args.prefix.now in
    let partner = c.in-Some.partner in
    let old = c.args.best.now in
    let new = c.keep_better.new.best in
    let least = subst (IsPartner search prefix.done) c.in-Some.is c.in_ok-partner.ensures in
    let same : c.pair_of.result ≡ pair_of prefix.done prefix.cost partner =
    c.pair_of.ensures ∙ ap (λ route. pair_of route prefix.cost partner) c.in_ok-route.ensures in
    offered-some search c.requires.search prefix c.requires.prefix c.requires.end partner least old new
    c.requires.sound c.keep_better.ensures.kept
    (subst (λ pair. IsPairReached new (weighed pair)) same c.keep_better.ensures.reached)
    (subst (λ pair. IsOneOf old pair new) same c.keep_better.ensures.one)
