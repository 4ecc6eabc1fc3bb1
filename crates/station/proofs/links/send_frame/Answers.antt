use Rattle.std.proofs.Common.{sym, ◌∙◌, ap}
use Rattle.std.specs.Prelude.{position}
use Rattle.station.specs.Sending.{is_link_to}
use Rattle.station.proofs.Sending.{nowhere, sent-nowhere}
use Rattle.station.proofs.links.send_frame.Goals as goal

pub returns-in-None : goal.returns-in-None
returns-in-None c =
    sent-nowhere c.args.stamp c.args.frame c.args.links.now.items
    (nowhere (is_link_to c.args.frame.to) c.args.links.now.items
    (ap (position (is_link_to c.args.frame.to)) (sym c.deref.ensures.value) ∙ sym c.in-None.ensures))
