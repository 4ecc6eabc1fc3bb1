use Rattle.std.proofs.Common.{[], OnOk, ap, subst, sym}
use Rattle.std.specs.Prelude.{Some}
use Rattle.ason_base.proofs.Results.{on_ok}
use Rattle.ason_base.specs.{declared.messages.MsgId.MsgId, declared.messages.Packet.Packet}
use Rattle.flood.specs.{declared.frames.Content.TheVariants.Message, Frames.{IsFrame, frame_bytes}}
use Rattle.hop_reliable.proofs.Again.{again_due}
use Rattle.control_channels.specs.{Adjacencies.sendings_to, Frames.AllSpelled}
use Rattle.control_channels.proofs.adjacencies.frame_waiting.Goals as goal

pub returns-clause-spelled : goal.returns-clause-spelled
returns-clause-spelled c =
    let packet =
    ap (λ (i : MsgId). record { id = Some i; acks = []; body = Some c.args.waiting.now.msg }) c.id.ensures in
    subst (λ ps. OnOk c.frame_one.result (AllSpelled c.args.me (sendings_to c.args.to ps)))
    (sym (again_due c.args.waiting.now [] c.requires.due))
    (on_ok c.frame_one.result _ _
    (λ spelled. (subst (λ (p : Packet). IsFrame (frame_bytes c.args.me (Message p)) (Message p)) packet spelled, tt))
    c.frame_one.ensures.spelled)
