-- A route of which a fibre is physically down: which step has it; and while one group alone has failed, the group is a
-- risk of the route.
use Rattle.std.proofs.{Common.{◌≡◌, ℕ, true, List, [], ◌∷◌, refl, ap, ◌∙◌, Contains}, lemmas.Option.slice_get-get_or}
use Rattle.std.specs.{Prelude.{Option, Some, None, slice_get}, List.AllByRecursion}
use Rattle.ason_base.specs.{Network.{Network, find_link}, declared.commands.Group.Group, declared.network.LinkSpec.LinkSpec, declared.steps.Step.Step}
use Rattle.ason_base.proofs.{Ordered.{any-there, there-any}, Bools.or-first, Members.all-then}
use Rattle.mesh_rules.specs.Failures.{is_cut, is_risk_of}
use Rattle.mesh_laws.specs.{AloneLaw.{is_on_link, is_on_route}, RestorationLaw.{is_link_cut, is_route_cut}}
use Rattle.mesh_laws.proofs.{alone.Failures.cut-by, alone.One.is-only}

module _ (t : Network) (failed : List Group) where
  -- a step whose link is cut
  pub record IsCutAt (route : List Step) (hop : Step) : Type 0 where
    pub place : ℕ
    pub link : LinkSpec
    pub there : slice_get route place ≡ Some hop
    pub found : find_link t hop.link ≡ Some link
    pub cut : is_cut failed link ≡ true

  link-cut : (o : Option LinkSpec) → is_link_cut failed o ≡ true → (l : LinkSpec) × (o ≡ Some l) ×
      (is_cut failed l ≡ true)
  link-cut None e = absurd (cc e)
  link-cut (Some l) e = (l, refl, e)

  pub cut-at : (route : List Step) → is_route_cut t failed (Some route) ≡ true → (hop : Step) × IsCutAt route hop
  cut-at route e =
      let one = any-there (λ (h : Step). is_link_cut failed (find_link t h.link)) route e in
      let its = link-cut (find_link t one.0.link) one.2 in (
        one.0,
        record {
          place = one.1.0;
          link = its.0;
          there = slice_get-get_or route one.1.0 one.0 one.1.1 ∙ ap Some (one.1.2);
          found = its.1;
          cut = its.2;
        },
      )

  pub cut-concerns : (g : Group) (route : List Step) → AllByRecursion (λ h. h ≡ g) failed →
      is_route_cut t failed (Some route) ≡ true → is_on_route t g route ≡ true
  cut-concerns g route all e =
      let one = any-there (λ (h : Step). is_link_cut failed (find_link t h.link)) route e in
      let its = link-cut (find_link t one.0.link) one.2 in
      let these = all-then (λ h. h ≡ g) (Contains (g ∷ [])) failed (is-only g) all in
      let on : is_on_link t g one.0.link ≡ true =
      rw its.1 (or-first (is_risk_of its.0 g) (cut-by t (g ∷ []) failed its.0 these its.2)) in
      there-any (λ (h : Step). is_on_link t g h.link) route one.0 one.1 on
