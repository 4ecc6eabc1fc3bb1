-- The tables that were published, the first one first.
use Rattle.std.specs.Prelude.{◌≡◌, List, [], ◌∷◌, ◌++◌, Option, Some, None}
use Rattle.mgmt_view.specs.{declared.node_table.NodeTable.NodeTable, declared.past.Past.Past, declared.past.Past.TheVariants.{First, Then'}}

abbrev pub tables_of : Past → List NodeTable
tables_of (First t) = t ∷ []
tables_of (Then' t marker before) = tables_of before ++ t ∷ []

abbrev pub last_table : Past → NodeTable
last_table (First t) = t
last_table (Then' t marker before) = t

-- these tables stand first in the others
abbrev pub StartsWith : List NodeTable → List NodeTable → Type 0
StartsWith all front = (rest : List NodeTable) × (all ≡ front ++ rest)

abbrev pub last_in : List NodeTable → Option NodeTable
last_in [] = None
last_in (t ∷ []) = Some t
last_in (t ∷ (u ∷ ts)) = last_in (u ∷ ts)

-- this table stands last
abbrev pub EndsWith : List NodeTable → NodeTable → Type 0
EndsWith all t = last_in all ≡ Some t
