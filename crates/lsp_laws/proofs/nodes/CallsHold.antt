-- What holds of each call of a node after a rule, where it holds of a call by what was asked for and by its working
-- LSP.
use Rattle.std.proofs.Common.{◌≡◌, List}
use Rattle.std.specs.Prelude.{Option, Some, None}
use Rattle.ason_base.specs.{declared.ids.CallNo.CallNo, declared.ids.Fibre.Fibre, declared.ids.LinkId.LinkId, declared.ids.Lsp.Lsp, declared.ids.NodeId.NodeId, declared.messages.Msg.Msg, declared.tables.CallRec.CallRec, declared.tables.Leg.Leg, declared.tables.Out.Out}
use Rattle.mesh_rules.specs.{Alarms.{on_alarm, on_clear}, Calls.find_call, Changes.Answer, Legs.{find_leg, previous}, LocalNodes.LocalNode, Messages.on_message, Pairs.route_from, Protects.protect_with, Releases.release_with, Reports.fibre_into, Retries.retry_with, Reverts.revert_with, State.NodeState, Waits.on_tick}
use Rattle.mesh_nodes.specs.Order.{CallsRise}
use Rattle.lsp_laws.proofs.{nodes.CallMoves.IsSameCall, nodes.CallChanges.{AreChanges, EachCall}, nodes.CallWays.{CallBecomes, Way}, nodes.SameCalls.becomes-same}
use Rattle.lsp_laws.proofs.nodes.CallWalk as messages
use Rattle.lsp_laws.proofs.nodes.OrderWalk as orders

-- P holds of each call before the rule, and R of those that the rule puts in their places; G of those that go
module _ (Rep : Lsp → Fibre → Type 0) (G : CallNo → Type 0) (P R : CallRec → Type 0)
    (keeps : (c d : CallRec) → IsSameCall Rep c d → P c → R d) (p : LocalNode)
    (s : NodeState)
    (rep : (g : Leg) (n : NodeId) (k : LinkId) (f : Fibre) → find_leg g.lsp s.legs ≡ Some g → previous g ≡ None →
    fibre_into (route_from p g) g.egress n k ≡ Some f → Rep g.lsp f)
    (rise : CallsRise s.calls) (each : EachCall P s.calls) where
  abbrev Holds : Answer → Type 0
  Holds a = AreChanges G R a.calls

  abbrev Any : Way → Type 0
  Any way = Unit {0}

  abbrev Sent : List Out → Type 0
  Sent outs = Unit {0}

  keeps-same : (c d : CallRec) → CallBecomes p s Any Sent c d → P c → R d
  keeps-same c d way here = keeps c d (becomes-same Rep p s Any Sent rep c d way) here

  pub message-holds : (u : NodeId) (m : Msg) → Holds (on_message p s u m)
  message-holds u m = messages.message-holds G P R Any Sent p s keeps-same rise each u m (λ way is. tt) tt

  pub release-holds : (from : NodeId) (o : Option CallRec) → ((c : CallRec) → o ≡ Some c → G c.call) →
      Holds (release_with p s from o)
  release-holds = orders.release-holds G P R Any Sent p s keeps-same rise each

  pub protect-holds : (k : CallNo) (from : NodeId) (o : Option CallRec) → find_call k s.calls ≡ o →
      Holds (protect_with p s from o)
  protect-holds k from o is = orders.protect-holds G P R Any Sent p s keeps-same rise each k from o is tt

  pub retry-holds : (k : CallNo) (from : NodeId) (o : Option CallRec) → find_call k s.calls ≡ o →
      Holds (retry_with p s from o)
  retry-holds k from o is = orders.retry-holds G P R Any Sent p s keeps-same rise each k from o is tt

  pub revert-holds : (k : CallNo) (from : NodeId) (o : Option CallRec) → find_call k s.calls ≡ o →
      Holds (revert_with p s from o)
  revert-holds k from o is = orders.revert-holds G P R Any Sent p s keeps-same rise each k from o is tt

  pub tick-holds : Holds (on_tick p s)
  tick-holds = orders.tick-holds G P R Any Sent p s keeps-same rise each tt

  pub alarm-holds : (f : Fibre) → Holds (on_alarm p s f)
  alarm-holds = orders.alarm-holds G P R Any Sent p s keeps-same rise each

  pub clear-holds : (f : Fibre) → Holds (on_clear p s f)
  clear-holds = orders.clear-holds G P R Any Sent p s keeps-same rise each
