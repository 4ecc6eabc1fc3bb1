-- The checks of a certificate, one by one.
use Rattle.std.specs.{Prelude.{◌≡◌, ◌↔◌, ℕ, ◌+◌, ◌*◌, ◌==◌, ◌&&◌, ◌||◌, nat_le, nat_lt, Bool, true, false, not, List, [], ◌∷◌, ◌++◌, find, Option, Some, None, if◌then◌else◌}, List.{list_any, list_all}}
use Rattle.ason_base.specs.{Walks.HaveDistinctLinks, declared.ids.LinkId.LinkId, declared.ids.NodeId.NodeId, declared.network.TeRow.TeRow, declared.steps.Step.Step}
use Rattle.pair_search.specs.{declared.cert.Cert.Cert, declared.cert.Tree.{Tree, Far, Whole, Branch'}, declared.cert.Children.{Children, End, More'}, Certificates.{Certifies, bound_at}}

-- from a node with the bound b to one with the bound a the bound rises by at most the metric
abbrev pub is_within : Option ℕ → Option ℕ → ℕ → Bool
is_within a None metric = true
is_within None (Some b) metric = false
is_within (Some a) (Some b) metric = nat_le a (b + metric)

abbrev pub is_row_within : List (NodeId × ℕ) → TeRow → Bool
is_row_within bounds row =
    is_within (bound_at bounds row.low) (bound_at bounds row.high) row.metric
    && is_within (bound_at bounds row.high) (bound_at bounds row.low) row.metric

abbrev pub is_zero : Option ℕ → Bool
is_zero None = false
is_zero (Some n) = n == 0

abbrev pub are_bounds : List TeRow → NodeId → List (NodeId × ℕ) → Bool
are_bounds rows to bounds = is_zero (bound_at bounds to) && list_all (is_row_within bounds) rows

abbrev pub is_far : Option ℕ → Option ℕ → ℕ → Bool
is_far total None cost = true
is_far None (Some b) cost = false
is_far (Some total) (Some b) cost = nat_lt total (2 * (cost + b))

abbrev pub is_enough : Option ℕ → Option ℕ → ℕ → Bool
is_enough total None cost = true
is_enough None (Some b) cost = false
is_enough (Some total) (Some b) cost = nat_le total (cost + b)

-- rows that a partner may use

abbrev pub share : TeRow → TeRow → Bool
share a b = a.link.0 == b.link.0 || list_any (λ s. list_any (λ r. r == s) b.srlgs) a.srlgs

abbrev pub has_link : List Step → LinkId → Bool
has_link steps k = list_any (λ s. s.link.0 == k.0) steps

abbrev pub is_inner : NodeId → NodeId → List Step → NodeId → Bool
is_inner from to steps n = list_any (λ s. s.node.0 == n.0) steps && (not (n.0 == from.0) && not (n.0 == to.0))

abbrev pub may_partner : List TeRow → List Step → NodeId → NodeId → TeRow → Bool
may_partner rows done from to row =
    not (list_any (λ other. has_link done other.link && share row other) rows)
    && (not (is_inner from to done row.low) && not (is_inner from to done row.high))

abbrev pub are_partner_bounds : List TeRow → List Step → NodeId → NodeId → List (NodeId × ℕ) → Bool
are_partner_bounds rows done from to bounds =
    is_zero (bound_at bounds to)
    && list_all (λ row. not (may_partner rows done from to row) || is_row_within bounds row) rows

-- The tree

abbrev pub far_end : TeRow → NodeId → Option NodeId
far_end row at = if row.low.0 == at.0 then Some row.high else (if row.high.0 == at.0 then Some row.low else None)

abbrev pub is_visited : List Step → NodeId → NodeId → Bool
is_visited done at n = n.0 == at.0 || list_any (λ s. s.node.0 == n.0) done

abbrev pub unvisited : List Step → NodeId → Option NodeId → Option NodeId
unvisited done at None = None
unvisited done at (Some n) = if is_visited done at n then None else Some n

-- the node to which the row leads on
abbrev pub onward : List Step → NodeId → TeRow → Option NodeId
onward done at row = unvisited done at (far_end row at)

abbrev pub has_child : Children → LinkId → Bool
has_child End k = false
has_child (More' link tree p rest) k = link.0 == k.0 || has_child rest k

abbrev pub is_some_node : Option NodeId → Bool
is_some_node None = false
is_some_node (Some n) = true

abbrev pub is_told : List Step → NodeId → Children → TeRow → Bool
is_told done at children row = not (is_some_node (onward done at row)) || has_child children row.link

abbrev pub are_told : List TeRow → List Step → NodeId → Children → Bool
are_told rows done at children = list_all (is_told done at children) rows

abbrev pub with_metric : Option NodeId → ℕ → Option (NodeId × ℕ)
with_metric None metric = None
with_metric (Some n) metric = Some (n, metric)

abbrev pub over_row : List Step → NodeId → Option TeRow → Option (NodeId × ℕ)
over_row done at None = None
over_row done at (Some row) = with_metric (onward done at row) row.metric

abbrev pub next_over : List TeRow → List Step → NodeId → LinkId → Option (NodeId × ℕ)
next_over rows done at k = over_row done at (find (λ row. row.link.0 == k.0) rows)

abbrev pub if_leads : Option (NodeId × ℕ) → (NodeId → ℕ → Bool) → Bool
if_leads None rest = false
if_leads (Some n) rest = rest n.0 n.1

abbrev mutual
  pub stands : List TeRow → NodeId → NodeId → Option ℕ → List (NodeId × ℕ) → Tree → List Step → NodeId → ℕ → Bool
  stands rows from to total goal Far done at cost = is_far total (bound_at goal at) cost
  stands rows from to total goal (Whole bounds) done at cost =
      at.0 == to.0 && (are_partner_bounds rows done from to bounds
      && is_enough total (bound_at bounds from) cost)
  stands rows from to total goal (Branch' p children) done at cost =
      not (at.0 == to.0)
      && (are_told rows done at children && children_stand rows from to total goal children done at cost)

  pub children_stand : List TeRow → NodeId → NodeId → Option ℕ → List (NodeId × ℕ) → Children → List Step →
      NodeId → ℕ → Bool
  children_stand rows from to total goal End done at cost = true
  children_stand rows from to total goal (More' link tree p rest) done at cost =
      not (has_child rest link) && (if_leads (next_over rows done at link)
      (λ next metric. stands rows from to total goal tree (done ++ record { node = at; link = link } ∷ []) next
      (cost + metric)) && children_stand rows from to total goal rest done at cost)

-- the certificate passes all checks
abbrev pub passes : List TeRow → NodeId → NodeId → Option ℕ → Cert → Bool
passes rows from to total cert =
    are_bounds rows to cert.goal && stands rows from to total cert.goal cert.tree [] from 0

-- it does so exactly where it certifies the total
abbrev pub ChecksAreExact : Type 0
ChecksAreExact =
    (rows : List TeRow) (from to : NodeId) (total : Option ℕ) (cert : Cert) → HaveDistinctLinks rows →
    (passes rows from to total cert ≡ true) ↔ Certifies rows from to total cert
