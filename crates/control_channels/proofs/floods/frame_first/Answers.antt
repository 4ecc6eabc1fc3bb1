use Rattle.std.proofs.Common.{◌≡◌, [], ◌∷◌, ◌++◌, ◌+◌, ◌∙◌, ap, ℕ}
use Rattle.ason_base.specs.declared.ids.NodeId.{NodeId}
use Rattle.flood.specs.{declared.frames.Content.TheVariants.Flood, declared.messages.FloodMsg.TheVariants.Row}
use Rattle.control_channels.specs.{Frames.sent_frame, declared.frames.Frame.Frame}
use Rattle.control_channels.proofs.floods.frame_first.Goals as goal

pub returns-clause-frames : goal.returns-clause-frames
returns-clause-frames c =
    let n = c.args.neighbour.now in
    let content : c.flood.result ≡ Flood (Row (n.sent + 1) c.args.new.origin c.args.new.row.now) =
    c.flood.ensures ∙ ap Flood (c.row-row.ensures
    ∙ ap (λ (k : ℕ). Row k c.args.new.origin c.args.new.row.now) c.next_number.ensures) in
    c.in_ok-push.ensures.items
    ∙ ap (λ (f : Frame). c.args.frames.now.items ++ f ∷ []) (c.in_ok-frame.ensures.frame
    ∙ ap (λ (to : NodeId). sent_frame c.args.me to c.flood.result) c.id.ensures
    ∙ ap (sent_frame c.args.me n.id) content)
