-- What a node keeps.
use Rattle.std.specs.Prelude.{ℕ, List, []}
use Rattle.ason_base.specs.{declared.ids.Fibre.Fibre, declared.network.TeRow.TeRow, declared.tables.CallRec.CallRec, declared.tables.Leg.Leg}

-- its legs in order of LSP, its calls in order of number, the numbers that it gives out next, the rows of other nodes'
-- links that it learnt, in the order in which they came, and the fibres in that it knows to be down
pub record NodeState : Type 0 where
  pub legs : List Leg
  pub calls : List CallRec
  pub tunnel : ℕ
  pub lsp : ℕ
  pub learnt : List TeRow
  pub down : List Fibre

abbrev pub new_node : NodeState
new_node = record { legs = []; calls = []; tunnel = 1; lsp = 1; learnt = []; down = [] }
