-- The risks of a route, over the rows that a node knows, are those over the rows of all links.
use Rattle.std.proofs.Common.{◌≡◌, true, false, nat_eq, List, refl, sym, ap, ◌∙◌, subst, Contains}
use Rattle.std.specs.Prelude.{Some, is_some}
use Rattle.ason_base.specs.{Network.{Network, find_link, row_of}, Risks.{HasRisk, route_risks, unknown_link}, declared.messages.PathRole.PathRole, declared.messages.PathRole.TheVariants.{Work, Back}, declared.network.TeRow.TeRow, declared.risks.Risk.Risk, declared.steps.Step.Step}
use Rattle.ason_base.proofs.{Ordered.any-there, RiskUnion.{risks-exact, route_risks-are, route_risks-rise, same_link}, Bools.and-left, Members.{there-map, there-from_map}}
use Rattle.mesh_rules.specs.{Commands.is_searchable, Paths.{is_primary_unknown, recorded}}
use Rattle.mesh_nodes.specs.Routes.{AreRowsOf}
use Rattle.mesh_nodes.proofs.{routes.Beside.knows-each, routes.Nodes.{find-there, found-link}}
use Rattle.lsp_laws.specs.RiskLaw.{rows_of}
use Rattle.lsp_laws.proofs.{hops.Purposes.{Purpose, Carries, Guards, Tells}, hops.Chain.RisksFit}

module _ (t : Network) (searchable : is_searchable t ≡ true) (rows : List TeRow) (are : AreRowsOf t rows)
    (route : List Step) (known : is_some (unknown_link rows route) ≡ false) where
  -- the row of a link that is found
  row-there : (row : TeRow) → Contains rows row → Contains (rows_of t) row
  row-there row there =
      let is = are row there in
      subst (Contains (rows_of t)) (sym is.is)
      (there-map row_of t.links is.link (find-there (λ m. nat_eq m.id.0 row.link.0) t.links is.link is.found))

  risk-there : (r : Risk) → HasRisk rows route r → HasRisk (rows_of t) route r
  risk-there r has = (has.0, has.1, row-there has.0 has.2, has.3, has.4, has.5)

  -- a row of a link of the route is known
  row-known : (row : TeRow) (s : Step) → Contains (rows_of t) row → Contains route s → row.link ≡ s.link →
      Contains rows row
  row-known row s there on is =
      let own = there-from_map row_of t.links row there in
      let known_row = any-there (λ r. nat_eq r.link.0 s.link.0) rows (knows-each rows route known s on) in
      let its = are known_row.0 known_row.1 in
      let number : own.0.id ≡ known_row.0.link =
      ap (λ (r : TeRow). r.link) own.2 ∙ is ∙ sym (same_link known_row.0.link s.link known_row.2) in
      let found : find_link t own.0.id ≡ Some own.0 =
      found-link t.links own.0 (and-left _ _ searchable) own.1 in
      let found' : find_link t own.0.id ≡ Some its.link = ap (find_link t) number ∙ its.found in
      let one : its.link ≡ own.0 = cc (found, found') in
      subst (Contains rows) (its.is ∙ ap row_of one ∙ own.2) known_row.1

  risk-known : (r : Risk) → HasRisk (rows_of t) route r → HasRisk rows route r
  risk-known r has = (has.0, has.1, row-known has.0 has.1 has.2 has.3 has.4, has.3, has.4, has.5)

  pub known-risks : route_risks rows route ≡ route_risks (rows_of t) route
  known-risks =
      risks-exact (rows_of t) route (route_risks rows route) (route_risks-rise rows route)
      (λ r. (
        (λ there. risk-there r ((route_risks-are rows route r).0 there)),
        (λ has. (route_risks-are rows route r).1 (risk-known r has)),
      ))

-- what a leg records of a Path whose primary's links are known
pub recorded-fit : (t : Network) (q : Purpose) (rows : List TeRow) (r : PathRole) →
    (is_searchable t ≡ true → AreRowsOf t rows) → Tells q r → is_primary_unknown rows r ≡ false →
    RisksFit t q (recorded rows r)
recorded-fit t Carries rows (Work guard) are tells known = refl
recorded-fit t Carries rows (Back active work primary) are tells known = absurd tells
recorded-fit t (Guards w route) rows (Work guard) are tells known = absurd tells
recorded-fit t (Guards w route) rows (Back active work primary) are tells known =
    λ searchable. known-risks t searchable rows (are searchable) primary known ∙ ap (route_risks (rows_of t)) tells.1
