-- A PathErr that removes takes an Asked leg away.
use Rattle.std.proofs.Common.{◌≡◌, Bool, true, false, cond, [], refl, ap}
use Rattle.std.specs.Prelude.{Option, Some, None}
use Rattle.ason_base.specs.{declared.codes.ErrCode.ErrCode, declared.ids.Lsp.Lsp, declared.ids.NodeId.NodeId, declared.messages.Msg.Msg, declared.messages.Msg.TheVariants.{Path, Resv, PathTear, PathErr, Notify}, declared.messages.PathRole.TheVariants.{Work, Back}, declared.tables.CallRec.CallRec, declared.tables.Leg.Leg}
use Rattle.mesh_rules.specs.{declared.neighbours.Neighbour.Neighbour, Calls.{call_with, is_asking, is_pairing}, CallSteps.{backup_refused, call_refused, work_refused}, Legs.is_work, PathErrs.{PathFailure, err_passed}, State.NodeState}
use Rattle.mesh_nodes.proofs.LegList.{same_lsp-eq}
use Rattle.lsp_laws.specs.{HopLaw.is_message_of, HopShapes.{Removal, msg_kind}}
use Rattle.lsp_laws.proofs.{hops.LegKinds.same_of, hops.Tables.leg_after}

-- it removes the leg
pub record Removes (l : Lsp) (m : Msg) : Type 0 where
  pub egress : NodeId
  pub at : NodeId
  pub code : ErrCode
  pub is : m ≡ PathErr l egress at true code

-- a message of that kind does
pub removes-of : (l : Lsp) (m : Msg) → is_message_of l m ≡ true → msg_kind m ≡ Removal → Removes l m
removes-of l (PathErr k e at true code) own kind =
    record { egress = e; at = at; code = code; is = ap (λ x. PathErr x e at true code) (same_lsp-eq k l own) }
removes-of l (PathErr k e at false code) own kind = absurd (cc kind)
removes-of l (Path k e link route set up (Back true work primary)) own kind = absurd (cc kind)
removes-of l (Path k e link route set up (Back false work primary)) own kind = absurd (cc kind)
removes-of l (Path k e link route set up (Work guard)) own kind = absurd (cc kind)
removes-of l (Resv k e link x) own kind = absurd (cc kind)
removes-of l (PathTear k e link) own kind = absurd (cc kind)
removes-of l (Notify k e at link code) own kind = absurd (cc kind)

pub refused-legs : (code : ErrCode) (g : Leg) (o : Option CallRec) → (call_refused code g o).legs ≡ []
refused-legs code g None = refl
refused-legs code g (Some c) = go (is_work g.role) (is_asking c.state) (is_pairing c.state) refl refl
  where
    go : (a b d : Bool) → is_asking c.state ≡ b → is_pairing c.state ≡ d →
        (cond a (work_refused code c) (backup_refused code c)).legs ≡ []
    go true true d is other = rw is refl
    go true false d is other = rw is refl
    go false b true is other = rw other refl
    go false b false is other = rw other refl

-- then the leg is gone
pub removed-leg : (l : Lsp) (s : NodeState) (g : Leg) (e : PathFailure) (o : Option Neighbour) → g.lsp ≡ l →
    leg_after l (err_passed s g e o).legs (Some g) ≡ None
removed-leg l s g e None own = rw (refused-legs e.code g (call_with g.lsp s.calls), same_of g.lsp l own) refl
removed-leg l s g e (Some h) own = rw (same_of g.lsp l own) refl
