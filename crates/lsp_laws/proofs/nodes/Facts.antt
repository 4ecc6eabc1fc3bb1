-- What holds at one node in every state of every run.
use Rattle.std.specs.Prelude.{◌≡◌, ◌<◌, ◌==◌, ◌||◌, ◌⊎◌, ℕ, false, not, List, Some, None, IsTrue, IfSome, is_some}
use Rattle.ason_base.specs.{declared.ids.CallNo.CallNo, declared.ids.Fibre.Fibre, declared.network.TeRow.TeRow, declared.ids.Lsp.Lsp, declared.calls.Phase.Phase, declared.calls.Phase.TheVariants.{Asked, Closing, Falling}, declared.calls.Role.TheVariants.Back, declared.tables.CallRec.CallRec, declared.tables.Leg.Leg, Labels.has, Lsps.same_lsp, Network.Network}
use Rattle.mesh_rules.specs.{Commands.is_searchable, Legs.{find_leg, is_armed, is_closing, is_held, is_marked, takes, uses}, Calls.{find_call, names}, Paths.role_of, State.NodeState, Machine.Mesh}
use Rattle.mesh_nodes.specs.{Order.{CallsRise, LegsRise}, Routes.AreRowsOf}
use Rattle.lsp_laws.specs.{CallLaw.FitsLegs, LabelLaw.{HasBackLabels, MayShare}, NodeLaw.DeskFits}

-- A leg

-- a label in exactly where there is a fibre in, and a label out exactly where there is a fibre out
abbrev pub HasItsLabels : Leg → Type 0
HasItsLabels g = (is_some g.in_label ≡ is_some g.in_fibre) × (is_some g.out_label ≡ is_some g.out_fibre)

-- no label in; another node has still to let go
abbrev pub IsTornLeg : Leg → Type 0
IsTornLeg g = (g.in_label ≡ None) × IsTrue (is_some g.next)

-- Asked: no label; beyond Asked: the labels of its fibres. An Asked or a torn leg has a next node.
abbrev pub FitsPhase : Phase → Leg → Type 0
FitsPhase Asked g = (g.in_label ≡ None) × (g.out_label ≡ None) × IsTrue (is_some g.next)
FitsPhase Closing g = IsTornLeg g
FitsPhase Falling g = IsTornLeg g
FitsPhase _ g = HasItsLabels g

-- A leg at node n, whose next LSP number is this one. The ingress has no previous node and no fibre in, every other
-- node has both; the egress has no next node and no fibre out, every other node has both; no node is both ends.
pub record LegFacts (n : ℕ) (next : ℕ) (g : Leg) : Type 0 where
  pub prev : is_some g.prev ≡ not (g.lsp.ingress.0 == n)
  pub in_fibre : is_some g.in_fibre ≡ is_some g.prev
  pub next_node : is_some g.next ≡ not (g.egress.0 == n)
  pub out_fibre : is_some g.out_fibre ≡ is_some g.next
  pub one_end : IsTrue (is_some g.prev || is_some g.next)
  pub number : g.lsp.ingress.0 ≡ n → g.lsp.lsp < next
  -- the leg's role is that of the Path that is sent or came
  pub role : g.role ≡ role_of g.path_role
  -- a leg that is Held or Armed is a backup's
  pub held : IsTrue (is_held g.phase || is_armed g.phase) → g.role ≡ Back
  pub phase : FitsPhase g.phase g
  -- the label in is one of those that were offered, the label out one of those that were sent on
  pub offered : IfSome g.in_label (λ x. IsTrue (has g.offered x))
  pub sent : IfSome g.out_label (λ x. IsTrue (has g.sent x))
  pub back : HasBackLabels g

-- legs that take the same label of the same fibre are one LSP's, or may share it
abbrev pub LegLabelsFit : List Leg → Type 0
LegLabelsFit legs =
    (f : Fibre) (x : ℕ) (l m : Lsp) (g h : Leg) → find_leg l legs ≡ Some g → find_leg m legs ≡ Some h →
    IsTrue (takes f x g) → IsTrue (takes f x h) → (l ≡ m) ⊎ MayShare g h

-- marked legs that use the same label of the same fibre, whether they take it or send it, are one LSP's
abbrev pub NoTwoMarked : List Leg → Type 0
NoTwoMarked legs =
    (f : Fibre) (x : ℕ) (l m : Lsp) (g h : Leg) → find_leg l legs ≡ Some g → find_leg m legs ≡ Some h →
    IsTrue (uses f x g) → IsTrue (uses f x h) → IsTrue (is_marked g) → IsTrue (is_marked h) → l ≡ m

-- each leg of another LSP that uses a label which this leg uses may share it; the leg itself needn't stand among them
abbrev pub SharesAll : List Leg → Leg → Type 0
SharesAll legs g =
    (f : Fibre) (x : ℕ) (m : Lsp) (h : Leg) → same_lsp g.lsp m ≡ false → find_leg m legs ≡ Some h →
    IsTrue (uses f x g) → IsTrue (uses f x h) → MayShare g h

-- A call

-- where a protected call was given no backup route, the links can be searched for one
abbrev pub CanBeBacked : Network → CallRec → Type 0
CanBeBacked t c = IsTrue c.protected → c.backup ≡ None → IsTrue (is_searchable t)

pub record HasCall (calls : List CallRec) (l : Lsp) : Type 0 where
  pub call : CallRec
  pub found : find_call call.call calls ≡ Some call
  pub named : IsTrue (names l call)

-- A node

pub record NodeFacts (n : ℕ) (s : NodeState) : Type 0 where
  pub legs_rise : LegsRise s.legs
  pub leg : (l : Lsp) (g : Leg) → find_leg l s.legs ≡ Some g → LegFacts n s.lsp g
  pub labels : LegLabelsFit s.legs
  pub marks : NoTwoMarked s.legs
  pub calls_rise : CallsRise s.calls
  pub call : (k : CallNo) (c : CallRec) → find_call k s.calls ≡ Some c → FitsLegs n s.lsp s.legs c
  -- calls that name one LSP are one
  pub one_call : (l : Lsp) (k m : CallNo) (c d : CallRec) → find_call k s.calls ≡ Some c →
      find_call m s.calls ≡ Some d →
      IsTrue (names l c) → IsTrue (names l d) → k ≡ m
  -- the LSP of a leg that begins here and isn't torn has a call
  pub has_call : (l : Lsp) (g : Leg) → find_leg l s.legs ≡ Some g → l.ingress.0 ≡ n → is_closing g.phase ≡ false →
      HasCall s.calls l

-- What a node keeps but for legs and calls doesn't matter to them.
pub same-facts : (n : ℕ) (s : NodeState) (learnt : List TeRow) (down : List Fibre) → NodeFacts n s →
    NodeFacts n (record s { learnt = learnt; down = down })
same-facts n s learnt down facts = record {
  legs_rise = facts.legs_rise;
  leg = facts.leg;
  labels = facts.labels;
  marks = facts.marks;
  calls_rise = facts.calls_rise;
  call = facts.call;
  one_call = facts.one_call;
  has_call = facts.has_call;
}

-- Every node

pub record MeshFacts (t : Network) (s : Mesh) : Type 0 where
  pub node : (n : ℕ) → NodeFacts n (s.nodes n)
  pub desk : (n : ℕ) → DeskFits t n (s.desks n)
  pub backed : (n : ℕ) (k : CallNo) (c : CallRec) → find_call k (s.nodes n).calls ≡ Some c → CanBeBacked t c
  -- what a node learnt are rows of the network
  pub learnt : (n : ℕ) → AreRowsOf t (s.nodes n).learnt
