-- The least walk as a function is the least of all walks.
use Rattle.std.proofs.Common.{◌≡◌, ◌≤◌, ℕ, true, List, length, subst, arith, Contains}
use Rattle.ason_base.specs.{Network.is_distinct, Walks.{HaveMetrics, IsWalk, NoLink, NoNode}, declared.ids.NodeId.NodeId, declared.network.TeRow.TeRow, declared.steps.Step.Step}
use Rattle.mesh_rules.specs.{declared.limits.TheConstants.MOST_LINKS_OF_ROUTE, LeastRoutes.{Trip, trips}}
use Rattle.mesh_nodes.specs.Routes.{AreSearchable, LeastTripIsLeast, LeastTripVisitsOnce, NoTripIsNoWalk}
use Rattle.mesh_nodes.proofs.{routes.Least.{IsLeastTrip, Represents, chosen-is, least-iff, none-iff}, routes.Order.precedes-cost, routes.Shorter.{few_links, shorten, visited}, routes.Walked.{each-leads, each-there, one_walk}}

walks-represent : (rows : List TeRow) (a b : NodeId) → AreSearchable rows →
    Represents (IsWalk rows NoLink NoNode a b) (trips rows MOST_LINKS_OF_ROUTE a b)
walks-represent rows a b searchable = record {
  sound = λ r there. (each-leads rows MOST_LINKS_OF_ROUTE a b r there).0;
  good = λ steps cost walk.
      (let q = shorten rows searchable.metrics b steps a cost walk in
      record {
        trip = record { steps = q.is.part; cost = q.is.less };
        there = each-there rows MOST_LINKS_OF_ROUTE a b q.is.part q.is.less q.is.walk
            (few_links rows searchable.ends a b q.is.part q.is.less q.is.walk q.is.once);
        most = q.is.most;
        same = q.same;
      });
  one = λ x y c d v w same. one_walk rows searchable.links b x y a c d v w same;
}

pub least_trip-least : LeastTripIsLeast
least_trip-least rows a b r searchable =
    least-iff (IsWalk rows NoLink NoNode a b) (trips rows MOST_LINKS_OF_ROUTE a b)
    (walks-represent rows a b searchable) r

pub no_trip-none : NoTripIsNoWalk
no_trip-none rows a b searchable =
    none-iff (IsWalk rows NoLink NoNode a b) (trips rows MOST_LINKS_OF_ROUTE a b) (walks-represent rows a b searchable)

-- of a list of walks the first visits no node twice, where the list has each walk of no more links and no other steps
pub first-once : (rows : List TeRow) → HaveMetrics rows → (a b : NodeId) (xs : List Trip) (r : Trip) →
    IsLeastTrip xs r →
    IsWalk rows NoLink NoNode a b r.steps r.cost →
    ((part : List Step) (less : ℕ) → IsWalk rows NoLink NoNode a b part less → length part ≤ length r.steps →
    ((s : Step) → Contains part s → Contains r.steps s) → Contains xs (record { steps = part; cost = less })) →
    is_distinct (visited r.steps b) ≡ true
first-once rows metrics a b xs r is walk has =
    let q = shorten rows metrics b r.steps a r.cost walk in
    let there = has q.is.part q.is.less q.is.walk q.is.short q.is.among in
    let first : r.cost ≤ q.is.less = precedes-cost r (record { steps = q.is.part; cost = q.is.less })
    (is.before _ there) in
    let most : q.is.less ≤ r.cost = q.is.most in
    let same : q.is.less ≡ r.cost = omega arith in
    subst (λ steps. is_distinct (visited steps b) ≡ true) (q.same same) q.is.once

pub least_trip-once : LeastTripVisitsOnce
least_trip-once rows a b r metrics e =
    let is = chosen-is (trips rows MOST_LINKS_OF_ROUTE a b) r e in
    let leads = each-leads rows MOST_LINKS_OF_ROUTE a b r is.there in
    let short : length r.steps ≤ MOST_LINKS_OF_ROUTE = leads.1 in
    first-once rows metrics a b (trips rows MOST_LINKS_OF_ROUTE a b) r is leads.0
    (λ part less walk shorter among. each-there rows MOST_LINKS_OF_ROUTE a b part less walk (omega arith))
