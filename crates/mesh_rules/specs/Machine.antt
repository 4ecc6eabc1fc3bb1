-- The mesh: what each node keeps, its desk, and the messages on their way between each two nodes.
use Rattle.std.specs.Prelude.{ℕ, ◌==◌, ◌&&◌, List, [], ◌++◌, ◌∷◌, map, filter, drop, if◌then◌else◌}
use Rattle.ason_base.specs.{declared.ids.CallNo.CallNo, declared.commands.DeskItem.DeskItem, declared.commands.Group.Group, declared.messages.Msg.Msg, declared.tables.Out.Out}
use Rattle.mesh_rules.specs.{State.{NodeState, new_node}, Changes.{Answer, changed}}

pub record Mesh : Type 0 where
  pub nodes : ℕ → NodeState
  pub desks : ℕ → List DeskItem
  -- from the first node to the second, the oldest first
  pub mail : ℕ → ℕ → List Msg
  -- the call numbers of all setups that were posted
  pub posted : List CallNo
  -- the groups that have failed, and weren't repaired since
  pub failed : List Group

-- nothing stands, nothing is under way, and nothing has failed
abbrev pub start : Mesh
start = record { nodes = λ n. new_node; desks = λ n. []; mail = λ u d. []; posted = []; failed = [] }

-- what is sent to this node, in order
abbrev pub sent_to : ℕ → List Out → List Msg
sent_to d outs = map (λ o. o.msg) (filter (λ o. o.to.0 == d) outs)

-- the answer is carried out at the node n, and what it sends is put at the ends of the lists; all else stays
abbrev pub commit : Mesh → ℕ → Answer → Mesh
commit s n a = record s {
  nodes = λ m. if m == n then changed (s.nodes m) a else s.nodes m;
  mail = λ u d. if u == n then s.mail u d ++ sent_to d a.sent else s.mail u d;
}

-- without the first message from u to d
abbrev pub without_first : Mesh → ℕ → ℕ → Mesh
without_first s u d = record s { mail = λ a b. if a == u && b == d then drop 1 (s.mail a b) else s.mail a b }

-- without the first item of the node's desk
abbrev pub without_item : Mesh → ℕ → Mesh
without_item s n = record s { desks = λ m. if m == n then drop 1 (s.desks m) else s.desks m }

-- with an item more at the end of the node's desk
abbrev pub with_item : Mesh → ℕ → DeskItem → Mesh
with_item s n item = record s { desks = λ m. if m == n then s.desks m ++ item ∷ [] else s.desks m }

abbrev pub with_posted : Mesh → CallNo → Mesh
with_posted s n = record s { posted = s.posted ++ n ∷ [] }
