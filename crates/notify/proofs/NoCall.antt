-- At a node without calls a Notify is passed back, and no more.
use Rattle.std.proofs.Common.{◌≡◌, Bool, true, false, cond, not, refl, sym, subst}
use Rattle.std.specs.Prelude.{◌&&◌, Option, Some, None, is_some}
use Rattle.ason_base.specs.{declared.codes.ErrCode.ErrCode, declared.ids.Fibre.Fibre, declared.ids.LinkId.LinkId, declared.ids.Lsp.Lsp, declared.ids.NodeId.NodeId, declared.messages.Msg.Msg, declared.tables.Leg.Leg}
use Rattle.ason_base.specs.declared.messages.Msg.TheVariants as msg
use Rattle.mesh_rules.specs.{declared.neighbours.Neighbour.Neighbour, Changes.nothing, Legs.{find_leg, following, is_closing, is_node, previous}, Notifies.{Notice, notice_passed, notice_told, notify_with, on_notify}, Pairs.route_from, Reports.{fibre_into, reported, reported_on}}
use Rattle.leg_table.specs.{States.{legs_state, local_of}, Tables.LegTable}
use Rattle.notify.specs.Answers.{pass_answer, notify_passed_back, notify_passed_here, passed_to}

module _ (t : LegTable) (u : NodeId) (m : Notice) where
  reported-none : (g : Leg) (down : Bool) (o : Option Fibre) → reported_on (legs_state t) g down o ≡ nothing
  reported-none g down None = refl
  reported-none g down (Some f) = refl

  passed-is : (g : Leg) (down : Bool) (o : Option Neighbour) →
      notice_passed (local_of t) (legs_state t) m g down o ≡ passed_to m.msg o
  passed-is g down None = reported-none g down (fibre_into (route_from (local_of t) g) g.egress m.at m.link)
  passed-is g down (Some h) = refl

  told-is : (g : Leg) (o : Option Bool) →
      notice_told (local_of t) (legs_state t) m g o ≡ cond (is_some o) (notify_passed_back g m.msg) nothing
  told-is g None = refl
  told-is g (Some down) = passed-is g down (previous g)

  taken-is : (o : Option Leg) →
      notify_with (local_of t) (legs_state t) u m o ≡ notify_passed_here u m.code m.msg o
  taken-is None = refl
  taken-is (Some g) = go (not (is_closing g.phase)) (is_node (following g) u)
    where
      go : (a b : Bool) → cond (a && b) (notice_told (local_of t) (legs_state t) m g (reported m.code)) nothing ≡
          cond (a && (b && is_some (reported m.code))) (notify_passed_back g m.msg) nothing
      go true true = told-is g (reported m.code)
      go true false = refl
      go false b = refl

  pass-is : on_notify (local_of t) (legs_state t) u m ≡ notify_passed_here u m.code m.msg (find_leg m.lsp t.legs)
  pass-is = taken-is (find_leg m.lsp t.legs)

pub pass-answer : (t : LegTable) (u : NodeId) (m : Msg) (l : Lsp) (e at : NodeId) (k : LinkId) (code : ErrCode) →
    m ≡ msg.Notify l e at k code → notify_passed_here u code m (find_leg l t.legs) ≡ pass_answer t u m
pass-answer t u m l e at k code is =
    subst (λ m. notify_passed_here u code m (find_leg l t.legs) ≡ pass_answer t u m) (sym is)
    (sym (pass-is t u (record { lsp = l; msg = msg.Notify l e at k code; at = at; link = k; code = code })))
