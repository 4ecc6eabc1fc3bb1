-- Every message keeps the facts of a node.
use Rattle.std.proofs.Common.{refl}
use Rattle.ason_base.specs.{declared.ids.NodeId.NodeId, declared.messages.Msg.Msg, declared.messages.Msg.TheVariants.{Path, Resv, PathTear, PathErr, Notify}}
use Rattle.mesh_rules.specs.{Legs.find_leg, LocalNodes.LocalNode, State.NodeState, Messages.{arrival, on_message}}
use Rattle.lsp_laws.proofs.{nodes.Facts.NodeFacts, nodes.ActivationKeeps.keeps-on_path, nodes.NotifyKeeps.keeps-notify, nodes.PathKeeps.KeepsFacts, nodes.AnswerKeeps.{keeps-on_resv, keeps-on_path_err, keeps-on_tear}}

pub keeps-on_message : (p : LocalNode) (s : NodeState) (u : NodeId) (m : Msg) → NodeFacts p.id.0 s →
    KeepsFacts p s (on_message p s u m)
keeps-on_message p s u (Path l e k route set up r) facts =
    keeps-on_path p s (record { arrival = arrival l e u k; route = route; set = set; upstream = up; role = r })
    (find_leg l s.legs)
    facts refl
keeps-on_message p s u (Resv l e k x) facts = keeps-on_resv p s (arrival l e u k) x (find_leg l s.legs) facts refl
keeps-on_message p s u (PathTear l e k) facts = keeps-on_tear p s (arrival l e u k) (find_leg l s.legs) facts refl
keeps-on_message p s u (PathErr l e at gone code) facts =
    keeps-on_path_err p s u l
    (record { lsp = l; msg = PathErr l e at gone code; removed = gone; code = code }) (find_leg l s.legs) facts refl
keeps-on_message p s u (Notify l e at k code) facts =
    keeps-notify p s u (record { lsp = l; msg = Notify l e at k code; at = at; link = k; code = code })
    (find_leg l s.legs) facts refl
