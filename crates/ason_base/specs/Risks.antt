-- Risks in their order, SRLGs before links, each by number; the risks of links and of routes.
use Rattle.std.specs.{Prelude.{◌≡◌, ◌==◌, Bool, true, false, not, nat_lt, List, [], ◌∷◌, ◌++◌, map, filter, Option}, List.{Contains, find, flat_map, list_any}}
use Rattle.ason_base.specs.{InOrder.{RisesBy, in_order}, declared.ids.LinkId.LinkId, declared.network.TeRow.TeRow, declared.risks.Risk.Risk, declared.risks.Risk.TheVariants.{Srlg, Link}, declared.steps.Step.Step}

abbrev pub is_below : Risk → Risk → Bool
is_below (Srlg a) (Srlg b) = nat_lt a b
is_below (Srlg a) (Link b) = true
is_below (Link a) (Srlg b) = false
is_below (Link a) (Link b) = nat_lt a.0 b.0

-- each risk is below all later ones
abbrev pub AreRising : List Risk → Type 0
AreRising risks = RisesBy is_below risks

-- no risk is in both lists
abbrev pub AreDisjoint : List Risk → List Risk → Type 0
AreDisjoint xs ys = (r : Risk) → Contains xs r → ¬ Contains ys r

-- one risk, and lists that have one in common
abbrev pub same_risk : Risk → Risk → Bool
same_risk (Srlg a) (Srlg b) = a == b
same_risk (Srlg a) (Link b) = false
same_risk (Link a) (Srlg b) = false
same_risk (Link a) (Link b) = a.0 == b.0

abbrev pub has_risk : List Risk → Risk → Bool
has_risk risks r = list_any (same_risk r) risks

abbrev pub have_common : List Risk → List Risk → Bool
have_common xs ys = list_any (has_risk ys) xs

-- the declared SRLGs of a link, and the link itself
abbrev pub risks_of : TeRow → List Risk
risks_of row = map Srlg row.srlgs ++ (Link row.link ∷ [])

-- the risk is one of a link of the route
abbrev pub HasRisk : List TeRow → List Step → Risk → Type 0
HasRisk rows route r = (row : TeRow) × (s : Step) × Contains rows row × Contains route s × (row.link ≡ s.link) ×
    Contains (risks_of row) r

abbrev pub passes : List Step → LinkId → Bool
passes route l = list_any (λ s. s.link.0 == l.0) route

-- the risks of the route's links, rising, each once
abbrev pub route_risks : List TeRow → List Step → List Risk
route_risks rows route = in_order is_below (flat_map risks_of (filter (λ row. passes route row.link) rows))

-- no risk is one of both routes
abbrev pub AreRiskDisjoint : List TeRow → List Step → List Step → Type 0
AreRiskDisjoint rows a b = (r : Risk) → HasRisk rows a r → ¬ HasRisk rows b r

-- whether a row is the link's
abbrev pub has_link_row : List TeRow → LinkId → Bool
has_link_row rows l = list_any (λ row. row.link.0 == l.0) rows

-- the first link of the route that has no row
abbrev pub unknown_link : List TeRow → List Step → Option LinkId
unknown_link rows route = find (λ l. not (has_link_row rows l)) (map (λ s. s.link) route)
