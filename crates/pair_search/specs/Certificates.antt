-- What shows that no pair of routes is better.
use Rattle.std.specs.Prelude.{◌≡◌, ◌≢◌, ◌≤◌, ◌<◌, ◌⊎◌, ◌+◌, ◌*◌, ℕ, List, [], ◌∷◌, ◌++◌, find, ◌==◌, Option, Some, None, Contains}
use Rattle.ason_base.specs.{Walks.{IsInner, Joins, SharesRisk}, declared.ids.LinkId.LinkId, declared.ids.NodeId.NodeId, declared.network.TeRow.TeRow, declared.steps.Step.Step}
use Rattle.pair_search.specs.{Pairs.NoneIsBetter, declared.cert.Cert.Cert, declared.cert.Tree.{Tree, Far, Whole, Branch'}, declared.cert.Children.{Children, End, More'}}

-- Bounds

abbrev pub bound_cost : Option (NodeId × ℕ) → Option ℕ
bound_cost None = None
bound_cost (Some b) = Some b.1

-- the bound of a node, where it has one
abbrev pub bound_at : List (NodeId × ℕ) → NodeId → Option ℕ
bound_at bounds n = bound_cost (find (λ b. b.0.0 == n.0) bounds)

-- 0 at the end; across each row that may be used it rises by at most the metric; and it is none only where no such row
-- leads to a bound
pub record AreBounds (rows : List TeRow) (May : TeRow → Type 0) (to : NodeId)
    (bounds : List (NodeId × ℕ)) : Type 0 where
  pub zero : bound_at bounds to ≡ Some 0
  pub rises : (a b : NodeId) (row : TeRow) (q : ℕ) → Contains rows row → May row → Joins row a b →
      bound_at bounds b ≡ Some q → (p : ℕ) × (bound_at bounds a ≡ Some p) × (p ≤ q + row.metric)

abbrev pub AnyRow : TeRow → Type 0
AnyRow row = Unit {0}

-- a row that a partner of the route may use: it has no risk of the route, and touches no node of it between the ends
pub record MayPartner (rows : List TeRow) (route : List Step) (from to : NodeId) (row : TeRow) : Type 0 where
  pub risks : ¬ SharesRisk rows route row.link
  pub low : ¬ IsInner from to route row.low
  pub high : ¬ IsInner from to route row.high

-- Prefixes

-- a row that leads from the prefix's end to a node that isn't visited
pub record RowLeadsOn (rows : List TeRow) (done : List Step) (at : NodeId) (row : TeRow) (next : NodeId) : Type 0 where
  pub known : Contains rows row
  pub joins : Joins row at next
  pub other : next ≢ at
  pub fresh : (y : Step) → Contains done y → y.node ≢ next

-- what is left costs so much that no pair of it has a lesser total, or the end can't be reached at all
abbrev pub IsFar : Option ℕ → Option ℕ → ℕ → Type 0
IsFar total None cost = Unit {0}
IsFar None (Some b) cost = ⊥
IsFar (Some total) (Some b) cost = total < 2 * (cost + b)

-- no partner makes a lesser total, or there is none
abbrev pub IsEnough : Option ℕ → Option ℕ → ℕ → Type 0
IsEnough total None cost = Unit {0}
IsEnough None (Some b) cost = ⊥
IsEnough (Some total) (Some b) cost = total ≤ cost + b

-- the links of the children, in order
abbrev pub child_links : Children → List LinkId
child_links End = []
child_links (More' link tree p rest) = link ∷ child_links rest

-- no link twice
abbrev pub AreLinksOnce : List LinkId → Type 0
AreLinksOnce [] = Unit {0}
AreLinksOnce (k ∷ ks) = ¬ Contains ks k × AreLinksOnce ks

-- one child for each row that leads on, and no other
pub record AreChildren (rows : List TeRow) (done : List Step) (at : NodeId) (links : List LinkId) : Type 0 where
  pub once : AreLinksOnce links
  pub leads : (k : LinkId) → Contains links k → (row : TeRow) × (next : NodeId) × (row.link ≡ k) ×
      RowLeadsOn rows done at row next

abbrev mutual
  -- what the tree says of the routes that begin with these steps, to this node, at this cost
  pub TreeHolds : List TeRow → NodeId → NodeId → Option ℕ → List (NodeId × ℕ) → Tree → List Step → NodeId → ℕ → Type 0
  TreeHolds rows from to total goal Far done at cost = IsFar total (bound_at goal at) cost
  TreeHolds rows from to total goal (Whole bounds) done at cost =
      (at ≡ to) × AreBounds rows (MayPartner rows done from to) to bounds
      × IsEnough total (bound_at bounds from) cost
  TreeHolds rows from to total goal (Branch' at_p all) done at cost =
      (at ≢ to) × AreChildren rows done at (child_links all)
      × ((row : TeRow) (next : NodeId) → RowLeadsOn rows done at row next →
      ChildStands rows from to total goal all done at cost row next)

  -- a child is of this row, which leads on to this node
  pub ChildStands : List TeRow → NodeId → NodeId → Option ℕ → List (NodeId × ℕ) → Children → List Step →
      NodeId → ℕ → TeRow → NodeId → Type 0
  ChildStands rows from to total goal End done at cost row next = ⊥
  ChildStands rows from to total goal (More' link tree p rest) done at cost row next =
      ((link ≡ row.link)
      × TreeHolds rows from to total goal tree (done ++ record { node = at; link = link } ∷ []) next
      (cost + row.metric))
      ⊎ ChildStands rows from to total goal rest done at cost row next

pub record Certifies (rows : List TeRow) (from to : NodeId) (total : Option ℕ) (cert : Cert) : Type 0 where
  pub goal : AreBounds rows AnyRow to cert.goal
  pub tree : TreeHolds rows from to total cert.goal cert.tree [] from 0

-- where a certificate certifies the total, no pair is better
abbrev pub CertificatesAreRight : Type 0
CertificatesAreRight =
    (rows : List TeRow) (from to : NodeId) (total : Option ℕ) (cert : Cert) → Certifies rows from to total cert →
    NoneIsBetter rows from to total
