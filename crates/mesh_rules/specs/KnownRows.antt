-- The links that a node knows, as routing knows them.
use Rattle.std.specs.{Prelude.{◌==◌, Bool, List, ◌++◌, map}, List.list_any}
use Rattle.ason_base.specs.{declared.ids.LinkId.LinkId, declared.network.TeRow.TeRow, Network.row_of}
use Rattle.mesh_rules.specs.{LocalNodes.LocalNode, State.NodeState}

-- the rows of its own links, in order of number, and then those that it learnt, in the order in which they came
abbrev pub known_rows : LocalNode → NodeState → List TeRow
known_rows p s = map row_of p.own ++ s.learnt

-- a row of this link is one of them
abbrev pub has_row : List TeRow → LinkId → Bool
has_row rows k = list_any (λ r. r.link.0 == k.0) rows
