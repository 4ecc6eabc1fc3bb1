use Rattle.std.proofs.{Common.{ℕ, subst}, lemmas.Result.{IfErr-weaker, IfOk-weaker}}
use Rattle.std.specs.List.{Contains}
use Rattle.route_least.specs.{Answers.{IsLeastFound, IsRefusal}, Network.{HasNode, IsClosed}, Searches.{IsFoundAlone, IsFoundFrom, IsMissedAlone, IsMissedFrom}}
use Rattle.route_least.proofs.{PlaceLists.node_within, RouteLaws.{found_alone, found_from, missed_alone, missed_from, searchable}}
use Rattle.route_least.proofs.network.RouteNetwork.least.Goals as goal

pub least_from-requires-clause-network : goal.least_from-requires-clause-network
least_from-requires-clause-network c = searchable c.requires.0 c.args.self.now c.args.closed.now c.requires.1
    c.requires.2

pub least_from-requires-clause-start : goal.least_from-requires-clause-start
least_from-requires-clause-start c =
    let places = c.args.self.now.places.items in
    node_within places c.in-Some.start c.args.from
    (subst (λ ps. HasNode ps c.in-Some.start c.args.from) c.deref.ensures.value c.in-Some.ensures)

pub returns-in-None-clause-found : goal.returns-in-None-clause-found
returns-in-None-clause-found c = λ rows is.
    let absent : (p : ℕ) → ¬ HasNode c.args.self.now.places.items p c.args.from =
    subst (λ ps. (p : ℕ) → ¬ HasNode ps p c.args.from) c.deref.ensures.value c.in-None.ensures in
    IfOk-weaker c.alone.result (IsFoundAlone c.args.from c.args.to)
    (IsLeastFound rows c.args.closed.now c.args.banned.now c.args.from c.args.to)
    (found_alone rows c.args.self.now _ _ is c.args.from c.args.to absent) c.alone.ensures.ok

pub returns-in-None-clause-none : goal.returns-in-None-clause-none
returns-in-None-clause-none c = λ rows is.
    let absent : (p : ℕ) → ¬ HasNode c.args.self.now.places.items p c.args.from =
    subst (λ ps. (p : ℕ) → ¬ HasNode ps p c.args.from) c.deref.ensures.value c.in-None.ensures in
    IfErr-weaker c.alone.result (IsMissedAlone c.args.from c.args.to)
    (IsRefusal rows (IsClosed rows c.args.closed.now) (Contains c.args.banned.now) c.args.from c.args.to)
    (missed_alone rows c.args.self.now _ _ is c.args.from c.args.to absent) c.alone.ensures.err

pub returns-in-Some-clause-found : goal.returns-in-Some-clause-found
returns-in-Some-clause-found c = λ rows is.
    let network = c.args.self.now in
    let start = subst (λ ps. HasNode ps c.in-Some.start c.args.from) c.deref.ensures.value c.in-Some.ensures in
    IfOk-weaker c.least_from.result (IsFoundFrom network c.args.closed.now c.args.banned.now c.in-Some.start c.args.to)
    (IsLeastFound rows c.args.closed.now c.args.banned.now c.args.from c.args.to)
    (found_from rows network c.args.closed.now c.args.banned.now is c.args.from c.args.to c.in-Some.start start)
    c.least_from.ensures.ok

pub returns-in-Some-clause-none : goal.returns-in-Some-clause-none
returns-in-Some-clause-none c = λ rows is.
    let network = c.args.self.now in
    let start = subst (λ ps. HasNode ps c.in-Some.start c.args.from) c.deref.ensures.value c.in-Some.ensures in
    IfErr-weaker c.least_from.result (IsMissedFrom network c.args.closed.now c.args.banned.now c.in-Some.start c.args.to)
    (IsRefusal rows (IsClosed rows c.args.closed.now) (Contains c.args.banned.now) c.args.from c.args.to)
    (missed_from rows network c.args.closed.now c.args.banned.now is c.args.from c.args.to c.in-Some.start start)
    c.least_from.ensures.err
