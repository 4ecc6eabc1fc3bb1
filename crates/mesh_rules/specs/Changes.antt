-- What a rule answers, and what a node keeps after it.
use Rattle.std.specs.Prelude.{ℕ, List, [], ◌∷◌, ◌++◌, Option, Some, None}
use Rattle.ason_base.specs.{declared.ids.Fibre.Fibre, declared.ids.Lsp.Lsp, declared.ids.NodeId.NodeId, declared.messages.Msg.Msg, declared.network.TeRow.TeRow, declared.tables.Leg.Leg, declared.tables.Out.Out}
use Rattle.mesh_rules.specs.{declared.changes.LegChange.LegChange, declared.changes.CallChange.CallChange, declared.changes.NextNumbers.NextNumbers, State.NodeState, Legs.legs_changed, Calls.calls_changed}
use Rattle.mesh_rules.specs.declared.changes.LegChange.TheVariants as leg

-- Answers

-- the legs and calls that change, the numbers where some were given out, the fibres known to be down where these
-- change, the rows that are learnt, and the messages that are sent, in order
pub record Answer : Type 0 where
  pub legs : List LegChange
  pub calls : List CallChange
  pub numbers : Option NextNumbers
  pub down : Option (List Fibre)
  pub rows : List TeRow
  pub sent : List Out

-- the rule that changes nothing and sends nothing
abbrev pub nothing : Answer
nothing = record { legs = []; calls = []; numbers = None; down = None; rows = []; sent = [] }

-- only this is sent
abbrev pub sends : List Out → Answer
sends outs = record nothing { sent = outs }

-- this leg is put in its place, and this is sent
abbrev pub puts : Leg → List Out → Answer
puts g outs = record nothing { legs = leg.Put g ∷ []; sent = outs }

-- the leg of this LSP goes, and this is sent
abbrev pub removes : Lsp → List Out → Answer
removes l outs = record nothing { legs = leg.Goes l ∷ []; sent = outs }

-- only these calls change
abbrev pub changes_calls : List CallChange → Answer
changes_calls cs = record nothing { calls = cs }

-- only this row is learnt
abbrev pub learns : TeRow → Answer
learns row = record nothing { rows = row ∷ [] }

abbrev pub to_node : NodeId → Msg → Out
to_node n m = record { to = n; msg = m }

-- One answer after the other

abbrev pub later : {X : Type 0} → Option X → Option X → Option X
later a None = a
later a (Some x) = Some x

-- the first answer, and then the second
abbrev pub followed_by : Answer → Answer → Answer
followed_by a b = record {
  legs = a.legs ++ b.legs;
  calls = a.calls ++ b.calls;
  numbers = later a.numbers b.numbers;
  down = later a.down b.down;
  rows = a.rows ++ b.rows;
  sent = a.sent ++ b.sent;
}

-- What a node keeps after an answer

abbrev pub tunnel_after : Option NextNumbers → ℕ → ℕ
tunnel_after None n = n
tunnel_after (Some m) n = m.tunnel

abbrev pub lsp_after : Option NextNumbers → ℕ → ℕ
lsp_after None n = n
lsp_after (Some m) n = m.lsp

abbrev pub down_after : Option (List Fibre) → List Fibre → List Fibre
down_after None fibres = fibres
down_after (Some fs) fibres = fs

-- these rows come after those that were learnt before, in order
abbrev pub learnt_after : List TeRow → List TeRow → List TeRow
learnt_after [] learnt = learnt
learnt_after (row ∷ rows) learnt = learnt_after rows (learnt ++ row ∷ [])

abbrev pub changed : NodeState → Answer → NodeState
changed s a = record s {
  legs = legs_changed a.legs s.legs;
  calls = calls_changed a.calls s.calls;
  tunnel = tunnel_after a.numbers s.tunnel;
  lsp = lsp_after a.numbers s.lsp;
  down = down_after a.down s.down;
  learnt = learnt_after a.rows s.learnt;
}
