-- What waits for a neighbour's acknowledgement.
use Rattle.std.specs.Prelude.{◌==◌, Bool, length}
use Rattle.flood.specs.State.{NeighbourState}
use Rattle.control_channels.specs.declared.adjacencies.Adjacency.{Adjacency}

-- whether the neighbour has acknowledged every message
abbrev pub has_acked : Adjacency → Bool
has_acked a = length a.hop.state.unacked == 0

-- whether it has acknowledged every row
abbrev pub has_all : NeighbourState → Bool
has_all n = length n.due == 0
