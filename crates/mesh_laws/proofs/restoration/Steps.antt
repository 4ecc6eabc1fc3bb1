-- The steps of a route that leads from end to end: each goes from its place to the next one.
use Rattle.std.proofs.{Common.{◌≡◌, ◌<◌, ℕ, suc, true, List, [], ◌∷◌, length, refl, sym, ap, ◌∙◌, arith}, lemmas.Option.slice_get_within}
use Rattle.std.specs.Prelude.{Some, slice_get}
use Rattle.ason_base.specs.{Network.{Network, find_link, other_end, touches}, Routes.makes_route, declared.ids.NodeId.NodeId, declared.network.LinkSpec.LinkSpec, declared.steps.Step.Step}
use Rattle.lsp_laws.specs.ReportLaw.{place_at}
use Rattle.lsp_laws.proofs.hops.Plans.{IsPlanRoute, distinct, joined, link_at, node_at, plan, route_made}
use Rattle.mesh_laws.proofs.reports.ReportLaws.{place-is}

-- a step over a link of the network, at this place of a route to e
pub record GoesOn (route : List Step) (e : NodeId) (i : ℕ) (hop : Step) (link : LinkSpec) : Type 0 where
  pub near : place_at route e i ≡ hop.node
  pub far : place_at route e (suc i) ≡ other_end link hop.node
  pub touches_far : touches (place_at route e (suc i)) link ≡ true

pub ends-at : (route : List Step) (e : NodeId) → place_at route e (length route) ≡ e
ends-at [] e = refl
ends-at (hop ∷ route) e = ends-at route e

module _ (t : Network) (from e : NodeId) (route : List Step) (made : makes_route t from e route ≡ true) where
  pub begins-at : 0 < length route → place_at route e 0 ≡ from
  begins-at long = place-is route e 0 ∙ (route_made t from e route long made).first

  pub goes-on : (i : ℕ) (hop : Step) (link : LinkSpec) → slice_get route i ≡ Some hop →
      find_link t hop.link ≡ Some link → GoesOn route e i hop link
  goes-on i hop link there found =
      let below : i < length route = slice_get_within route i hop there in
      let is : IsPlanRoute t from (plan route e) = route_made t from e route (omega arith) made in
      let over = is.links i below in
      let node : node_at (plan route e) i ≡ hop.node = rw there refl in
      let on : link_at (plan route e) i ≡ hop.link = rw there refl in
      let one : over.link ≡ link =
      (let x = over.found in let y : find_link t (link_at (plan route e) i) ≡ Some link = rw on found in cc (x, y)) in
      let apart = distinct t from (plan route e) is i (suc i) (omega arith) (omega arith) (omega arith) in
      record {
        near = place-is route e i ∙ node;
        far = place-is route e (suc i) ∙ sym over.far ∙ ap (other_end over.link) node
            ∙ ap (λ k. other_end k hop.node) one;
        touches_far = rw (place-is route e (suc i), ← one)
            (joined t (link_at (plan route e) i) (node_at (plan route e) i) (node_at (plan route e) (suc i)) apart
            over).touches_far;
      }
