-- Which commands are valid for a topology.
use Rattle.std.specs.{Prelude.{◌==◌, ◌&&◌, ◌||◌, nat_le, Bool, false, not, List, map, Option, Some, None}, List.{list_all, list_any}}
use Rattle.ason_base.specs.{declared.limits.TheConstants.MOST_METRIC, declared.ids.NodeId.NodeId, declared.ids.CallNo.CallNo, declared.steps.Step.Step, declared.commands.Group.Group, declared.commands.Group.TheVariants.{Srlg, Link}, declared.commands.Command.Command, declared.commands.Command.TheVariants.{Setup, Release, Protect, Retry, Revert, Fail, Repair}, declared.network.LinkSpec.LinkSpec, Network.{Network, is_distinct, is_node_id}, Routes.{is_beside, makes_route}}

-- Routes

abbrev pub has_metric : LinkSpec → Bool
has_metric l = nat_le 1 l.metric && nat_le l.metric MOST_METRIC

-- each link has a number of its own and a metric of 1 to 65,535, as in every topology: routes can be searched for
abbrev pub is_searchable : Network → Bool
is_searchable t = is_distinct (map (λ l. l.id.0) t.links) && list_all has_metric t.links

-- a route that is given leads there; else the ingress searches for one
abbrev pub has_way : Network → NodeId → NodeId → Option (List Step) → Bool
has_way t from to None = is_searchable t
has_way t from to (Some route) = makes_route t from to route

-- a backup that is given is that of a protected call and stands beside the working route; else the ingress of a protected
-- call searches for one
abbrev pub has_backup_way : Network → NodeId → NodeId → Bool → Option (List Step) → Option (List Step) → Bool
has_backup_way t from to protected via None = not protected || is_searchable t
has_backup_way t from to protected via (Some backup) = protected && is_beside t from to via backup

-- Commands

abbrev pub is_group : Network → Group → Bool
is_group t (Link k) = list_any (λ l. l.id.0 == k.0) t.links
is_group t (Srlg s) = list_any (λ l. list_any (λ r. r == s) l.srlgs) t.links

abbrev pub is_valid : Network → Command → Bool
is_valid t (Setup n from to protected both via backup) =
    is_node_id t.nodes from && is_node_id t.nodes to && not (from.0 == to.0)
    && has_way t from to via && has_backup_way t from to protected via backup
is_valid t (Release n from) = is_node_id t.nodes from
is_valid t (Protect n from) = is_node_id t.nodes from && is_searchable t
is_valid t (Retry n from) = is_node_id t.nodes from
is_valid t (Revert n from) = is_node_id t.nodes from
is_valid t (Fail g) = is_group t g
is_valid t (Repair g) = is_group t g

-- a setup of a call number that was posted before
abbrev pub is_again : List CallNo → Command → Bool
is_again posted (Setup n from to protected both via backup) = list_any (λ m. m.0 == n.0) posted
is_again posted (Release n from) = false
is_again posted (Protect n from) = false
is_again posted (Retry n from) = false
is_again posted (Revert n from) = false
is_again posted (Fail g) = false
is_again posted (Repair g) = false
