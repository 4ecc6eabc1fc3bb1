use Rattle.std.proofs.Common.{Vec, Global}
use Rattle.control_channels.specs.{declared.frames.Frame.Frame, Controllers.parts}
use Rattle.ason_base.proofs.Results.{on_ok}
use Rattle.controller.proofs.{FloodKept.fits-kept, Reacting.{frame-reaction, frame-unambiguous}}
use Rattle.controller.proofs.reactions.react.Goals as goal

pub returns-in-Frame-clause-reaction : goal.returns-in-Frame-clause-reaction
returns-in-Frame-clause-reaction c =
    frame-reaction c.take_frame.result (λ (v : Vec Frame Global). v.items)
    (parts c.args.node.now c.args.adjacencies.now c.args.flood.now)
    (parts c.take_frame.new.node c.take_frame.new.adjacencies c.take_frame.new.flood)
    c.args.input.now c.in-Frame.from c.in-Frame.bytes c.items.result.now c.in-Frame.is c.items.ensures
    c.take_frame.ensures.content c.take_frame.ensures.noise

pub returns-in-Frame-clause-one : goal.returns-in-Frame-clause-one
returns-in-Frame-clause-one c =
    frame-unambiguous c.take_frame.result c.args.input.now c.in-Frame.from c.in-Frame.bytes c.items.result.now
    c.in-Frame.is c.items.ensures c.take_frame.ensures.one

pub returns-in-Desk-clause-fits : goal.returns-in-Desk-clause-fits
returns-in-Desk-clause-fits c =
    on_ok c.handle.result _ _
    (λ learnt. fits-kept c.args.node.now c.handle.new.node c.args.flood.now c.handle.ensures.place learnt
    c.requires.fits)
    c.handle.ensures.learnt
