-- Routes in a network: where they lead, what they share.
use Rattle.std.specs.{Prelude.{ℕ, ◌==◌, ◌&&◌, ◌||◌, Bool, false, not, List, [], ◌∷◌, ◌++◌, map, drop, fold, Option, Some, None, if◌then◌else◌}, List.list_any}
use Rattle.ason_base.specs.{declared.ids.NodeId.NodeId, declared.steps.Step.Step, declared.network.LinkSpec.LinkSpec, Network.{Network, find_link, is_distinct, other_end, touches}}

-- the other end of a link of n
abbrev pub across : Option LinkSpec → NodeId → Option NodeId
across None n = None
across (Some l) n = if touches n l then Some (other_end l n) else None

-- where one step leads from a node
abbrev pub one_step : Network → Option NodeId → Step → Option NodeId
one_step t None hop = None
one_step t (Some n) hop = if hop.node.0 == n.0 then across (find_link t hop.link) n else None

-- where a route leads from a node
abbrev pub route_end : Network → NodeId → List Step → Option NodeId
route_end t n route = fold (one_step t) (Some n) route

abbrev pub is_end : Option NodeId → NodeId → Bool
is_end None e = false
is_end (Some n) e = n.0 == e.0

abbrev pub nodes_of : List Step → List ℕ
nodes_of route = map (λ h. h.node.0) route

-- the route leads from one node to the other, with no node twice
abbrev pub makes_route : Network → NodeId → NodeId → List Step → Bool
makes_route t from to route = is_end (route_end t from route) to && is_distinct (nodes_of route ++ to.0 ∷ [])

-- Risks

-- the links are one, or have an SRLG in common
abbrev pub shares_risk : Option LinkSpec → Option LinkSpec → Bool
shares_risk None m = false
shares_risk (Some l) None = false
shares_risk (Some l) (Some m) = l.id.0 == m.id.0 || list_any (λ s. list_any (λ r. r == s) m.srlgs) l.srlgs

abbrev pub routes_share_risk : Network → List Step → List Step → Bool
routes_share_risk t a b = list_any (λ h. list_any (λ k. shares_risk (find_link t h.link) (find_link t k.link)) b) a

abbrev pub inner_nodes : List Step → List ℕ
inner_nodes route = drop 1 (nodes_of route)

abbrev pub routes_share_node : List Step → List Step → Bool
routes_share_node a b = list_any (λ n. list_any (λ m. m == n) (inner_nodes b)) (inner_nodes a)

-- a backup route stands beside a working route, from which it is risk-disjoint and with which it shares no inner node
abbrev pub is_beside : Network → NodeId → NodeId → Option (List Step) → List Step → Bool
is_beside t from to None backup = false
is_beside t from to (Some via) backup =
    makes_route t from to backup && (not (routes_share_risk t via backup) && not (routes_share_node via backup))
