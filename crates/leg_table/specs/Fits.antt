-- The tables, the owner and the shares of one node.
use Rattle.std.specs.Prelude.{ℕ, ◌≤◌, List}
use Rattle.link_owner.specs.Owners.{OwnerState}
use Rattle.share_check.specs.Guards.{Guard}
use Rattle.mesh_nodes.specs.{FitNodes.LegsFit, LocalNodes.LocalNodeFits}
use Rattle.leg_table.specs.{LegClaims.AreOfOneNode, States.local_of, LegTables.LegTable}

-- the legs fit, with some next LSP number that is above those of the LSPs that begin here
abbrev pub OwnLegsFit : LegTable → Type 0
OwnLegsFit t = (next : ℕ) × (1 ≤ next) × LegsFit (local_of t) next t.legs

-- the node is an end of each of its links; its legs come and go over them; the owner has the fibres of these links, its
-- claims are the labels that the legs take, and its marks those that marked ones use; the shares guard the risks that
-- backups among the legs record
pub record TablesFit (t : LegTable) (o : OwnerState) (s : List Guard) : Type 0 where
  pub links : LocalNodeFits (local_of t)
  pub legs : OwnLegsFit t
  pub node : AreOfOneNode t o s
