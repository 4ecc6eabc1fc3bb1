-- A link that a neighbour knows (flooding of links: RFC 3630, section 2). p is the node; s is what it keeps.
use Rattle.std.specs.Prelude.{Option, Some, None, if◌then◌else◌}
use Rattle.ason_base.specs.{declared.network.LinkSpec.LinkSpec, declared.network.TeRow.TeRow, Network.row_of}
use Rattle.mesh_rules.specs.{Changes.{Answer, nothing, learns}, KnownRows.{has_row, known_rows}, LocalNodes.LocalNode, State.NodeState}

-- its row becomes known; what is known stays as it is
abbrev pub on_row : LocalNode → NodeState → TeRow → Answer
on_row p s row = if has_row (known_rows p s) row.link then nothing else learns row

-- the row is that of the network's link
abbrev pub on_link : LocalNode → NodeState → Option LinkSpec → Answer
on_link p s None = nothing
on_link p s (Some l) = on_row p s (row_of l)
