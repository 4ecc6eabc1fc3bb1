use Rattle.std.proofs.Common.{[], ◌∷◌, ◌++◌, ◌∙◌, ap, subst}
use Rattle.flood.specs.{declared.frames.Content.Content, Frames.IsFrame}
use Rattle.control_channels.specs.{declared.frames.Frame.Frame, Frames.sent_frame}
use Rattle.control_channels.proofs.adjacencies.frame_one.Goals as goal

pub returns-clause-frames : goal.returns-clause-frames
returns-clause-frames c =
    c.in_ok-push.ensures.items
    ∙ ap (λ f. c.args.frames.now.items ++ f ∷ [])
    (c.in_ok-frame.ensures.frame ∙ ap (sent_frame c.args.me c.args.to) c.message.ensures)

pub returns-clause-spelled : goal.returns-clause-spelled
returns-clause-spelled c =
    subst (λ (x : Content). IsFrame (sent_frame c.args.me c.args.to x).bytes x) c.message.ensures
    (subst (λ (f : Frame). IsFrame f.bytes c.message.result) c.in_ok-frame.ensures.frame c.in_ok-frame.ensures.spelled)
