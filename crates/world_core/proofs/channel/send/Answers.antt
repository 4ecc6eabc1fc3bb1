use Rattle.std.proofs.Common.{◌≡◌, sym, ◌∙◌, ap}
use Rattle.std.specs.Prelude.{Some, position}
use Rattle.world_core.specs.Channels.{leads_to}
use Rattle.ason_base.proofs.Results.{on_ok}
use Rattle.world_core.proofs.Sending.{frame-pushed, frame-unsent}
use Rattle.world_core.proofs.channel.send.Goals as goal

pub returns-in-None : goal.returns-in-None
returns-in-None c =
    frame-unsent c.args.frame c.args.channels.now.items
    (ap (position (leads_to c.args.frame.to.0)) (sym c.deref.ensures.value) ∙ sym c.in-None.ensures)

pub returns-in-Some : goal.returns-in-Some
returns-in-Some c =
    let at : position (leads_to c.args.frame.to.0) c.args.channels.now.items ≡ Some c.in-Some.place =
    ap (position (leads_to c.args.frame.to.0)) (sym c.deref.ensures.value) ∙ sym c.in-Some.ensures in
    on_ok c.push_at.result _ _
    (frame-pushed c.args.frame c.args.channels.now.items c.push_at.new.channels.items c.in-Some.place at)
    c.push_at.ensures
