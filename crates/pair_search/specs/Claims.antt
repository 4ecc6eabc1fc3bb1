-- What the checker of a certificate goes over.
use Rattle.std.specs.Prelude.{ℕ, Bool, List, Option}
use Rattle.ason_base.specs.{declared.ids.NodeId.NodeId, declared.network.TeRow.TeRow}
use Rattle.pair_search.specs.{Checks.{children_stand, stands}, declared.cert.Children.Children, declared.cert.Tree.Tree, declared.checker.Place.Place}

-- what a certificate is to show
pub record Claim : Type 0 where
  pub rows : List TeRow
  pub from : NodeId
  pub to : NodeId
  pub total : Option ℕ
  pub goal : List (NodeId × ℕ)

abbrev pub tree_stands : Claim → Tree → Place → Bool
tree_stands claim tree place =
    stands claim.rows claim.from claim.to claim.total claim.goal tree place.done.items place.at place.cost

abbrev pub all_stand : Claim → Children → Place → Bool
all_stand claim children place =
    children_stand claim.rows claim.from claim.to claim.total claim.goal children place.done.items place.at place.cost
