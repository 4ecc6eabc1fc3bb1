use Rattle.std.proofs.Common.{◌≡◌, [], ◌∷◌, ◌++◌, ◌∙◌, ap, subst}
use Rattle.flood.specs.{declared.frames.Content.Content, declared.frames.Content.TheVariants.Flood, Frames.{IsFrame, frame_bytes}, declared.messages.FloodMsg.TheVariants.Ack}
use Rattle.control_channels.specs.{declared.frames.Frame.Frame, Frames.sent_frame}
use Rattle.controller.proofs.floods.frame_ack.Goals as goal

pub returns-clause-frames : goal.returns-clause-frames
returns-clause-frames c =
    let content : c.flood.result ≡ Flood (Ack c.args.number) = c.flood.ensures ∙ ap Flood c.ack.ensures in
    c.in_ok-push.ensures.items
    ∙ ap (λ f. c.args.frames.now.items ++ f ∷ [])
    (c.in_ok-frame.ensures.frame ∙ ap (sent_frame c.args.me c.args.to) content)

pub returns-clause-spelled : goal.returns-clause-spelled
returns-clause-spelled c =
    let content : c.flood.result ≡ Flood (Ack c.args.number) = c.flood.ensures ∙ ap Flood c.ack.ensures in (
      subst (λ (x : Content). IsFrame (frame_bytes c.args.me x) x) content
          (subst (λ (f : Frame). IsFrame f.bytes c.flood.result) c.in_ok-frame.ensures.frame
          c.in_ok-frame.ensures.spelled),
      tt,
    )
