use Rattle.std.proofs.Common.{[], ◌∷◌, ◌∙◌, Bool, List, ap, cond, sym}
use Rattle.ason_base.specs.declared.ids.NodeId.{NodeId}
use Rattle.flood.specs.{declared.messages.FloodMsg.FloodMsg, declared.messages.FloodMsg.TheVariants.Ack, State.{first_sendings, sends_after}}
use Rattle.control_channels.proofs.FirstSendings.{framed-more}
use Rattle.controller.proofs.floods.answer.Goals as goal

pub returns-clause-frames : goal.returns-clause-frames
returns-clause-frames c =
    let f = c.args.flood.now in
    let m = c.in-Row in
    let ack : List (NodeId × FloodMsg) = (c.args.from, Ack m.number) ∷ [] in
    let others = first_sendings c.args.from m.origin m.row f.neighbours in
    framed-more c.args.me c.args.frames.now.items c.frame_ack.new.frames.items c.frame_first_sendings.new.frames.items
    ack others (sends_after f c.args.from c.args.m.now)
    c.in_ok-frame_ack.ensures.frames c.in_ok-frame_first_sendings.ensures.frames
    (ap (sends_after f c.args.from) m.is
    ∙ ap (λ (b : Bool). (c.args.from, Ack m.number) ∷ cond b others []) (sym c.is_new.ensures ∙ c.if-not-is_new.false))
