-- A route with one of the groups has it among its risks, and none of them is a risk of two routes that stand apart.
use Rattle.std.proofs.Common.{◌≡◌, true, false, List, [], ◌∷◌, Contains, refl, sym, subst, inl, inr}
use Rattle.ason_base.specs.{Network.{Network, find_link}, Risks.{has_risk, route_risks}, Routes.routes_share_risk, declared.commands.Group.Group, declared.steps.Step.Step}
use Rattle.ason_base.proofs.{Ordered.{any-there, there-any}, Members.{contains-cases, contains-none}}
use Rattle.lsp_laws.specs.RiskLaw.{rows_of}
use Rattle.mesh_laws.specs.AloneLaw.{is_risk_there, risk_of, is_on_link as is_one_on_link, is_on_route as is_one_on_route}
use Rattle.mesh_laws.proofs.{alone.Risks.{not_beside, recorded-risk}, alone.Groups.{are_many, has_one, any_on_link, any_on_route}}

-- the one group of a list
pub only-one : (g h : Group) → Contains (g ∷ []) h → h ≡ g
only-one g h there = elim (contains-cases g h [] there) [
  | inl is ↦ sym is
  | inr none ↦ absurd (contains-none h none)
]

module _ (t : Network) (gs : List Group) where
  -- one of them is on it
  pub on-one : (route : List Step) → any_on_route t gs route ≡ true →
      (g : Group) × Contains gs g × (is_one_on_route t g route ≡ true)
  on-one route e =
      let hop = any-there (λ (h : Step). any_on_link t gs h.link) route e in
      let one = any-there (is_risk_there (find_link t hop.0.link)) gs hop.2 in (
        one.0,
        one.1,
        there-any (λ (h : Step). is_one_on_link t one.0 h.link) route hop.0 hop.1 one.2,
      )

  -- the risks of the route have one of them
  pub recorded-one : (route : List Step) → any_on_route t gs route ≡ true →
      has_one (route_risks (rows_of t) route) gs ≡ true
  recorded-one route e =
      let one = on-one route e in
      there-any (λ (g : Group). has_risk (route_risks (rows_of t) route) (risk_of g)) gs one.0 one.1
      (recorded-risk t one.0 route one.2)

  -- where a route has one of them, and one beside it has one, there are two
  pub beside-many : (a b : List Step) → routes_share_risk t a b ≡ false → any_on_route t gs a ≡ true →
      any_on_route t gs b ≡ true → are_many gs ≡ true
  beside-many a b apart on_a on_b =
      let p = on-one a on_a in
      let q = on-one b on_b in
      go gs p.0 q.0 p.1 q.1 p.2 q.2
    where
      go : (gs : List Group) (g h : Group) → Contains gs g → Contains gs h → is_one_on_route t g a ≡ true →
          is_one_on_route t h b ≡ true → are_many gs ≡ true
      go [] g h at_g at_h p q = absurd (contains-none g at_g)
      go (k ∷ []) g h at_g at_h p q =
          absurd (not_beside t k a b apart (subst (λ x. is_one_on_route t x a ≡ true) (only-one k g at_g) p)
          (subst (λ x. is_one_on_route t x b ≡ true) (only-one k h at_h) q))
      go (k ∷ l ∷ gs) g h at_g at_h p q = refl
