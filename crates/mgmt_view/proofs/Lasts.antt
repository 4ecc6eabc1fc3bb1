-- The last of some tables.
use Rattle.std.proofs.Common.{◌≡◌, List, [], ◌∷◌, ◌++◌, refl}
use Rattle.std.specs.Prelude.{Some}
use Rattle.mgmt_view.specs.{Tables.last_in, declared.node_table.NodeTable.NodeTable}

-- it is the one that was put at the end
pub last-snoc : (all : List NodeTable) (t : NodeTable) → last_in (all ++ t ∷ []) ≡ Some t
last-snoc [] t = refl
last-snoc (u ∷ []) t = refl
last-snoc (u ∷ (v ∷ all)) t = last-snoc (v ∷ all) t
