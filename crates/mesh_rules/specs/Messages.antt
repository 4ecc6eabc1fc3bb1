-- Every message: the rule of its kind, over the leg of its LSP. p is the node, s is what it keeps, u is the sender.
use Rattle.std.specs.{}
use Rattle.ason_base.specs.{declared.ids.LinkId.LinkId, declared.ids.Lsp.Lsp, declared.ids.NodeId.NodeId, declared.messages.Msg.Msg, declared.messages.Msg.TheVariants.{Path, Resv, PathTear, PathErr, Notify}}
use Rattle.mesh_rules.specs.{declared.arrivals.Arrival.Arrival, State.NodeState, Changes.Answer, LocalNodes.LocalNode, Notifies.on_notify, Paths.on_path, Resvs.on_resv, PathErrs.on_path_err, Tears.on_tear}

abbrev pub arrival : Lsp → NodeId → NodeId → LinkId → Arrival
arrival l e u k = record { lsp = l; egress = e; from = u; link = k }

abbrev pub on_message : LocalNode → NodeState → NodeId → Msg → Answer
on_message p s u (Path l e k route set up r) =
    on_path p s (record { arrival = arrival l e u k; route = route; set = set; upstream = up; role = r })
on_message p s u (Resv l e k x) = on_resv p s (arrival l e u k) x
on_message p s u (PathTear l e k) = on_tear p s (arrival l e u k)
on_message p s u (PathErr l e at gone code) =
    on_path_err s u (record { lsp = l; msg = PathErr l e at gone code; removed = gone; code = code })
on_message p s u (Notify l e at k code) =
    on_notify p s u (record { lsp = l; msg = Notify l e at k code; at = at; link = k; code = code })
