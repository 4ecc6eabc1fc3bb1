use Rattle.std.proofs.Common.{◌∙◌, ap}
use Rattle.ason_base.specs.Labels.{meet, up_to}
use Rattle.link_owner.specs.Claims.{is_working}
use Rattle.link_owner.proofs.FreeLabelReads.{free-upto}
use Rattle.link_owner.proofs.free_labels.FreeLabels.shareable.Goals as goal

pub returns : goal.returns
returns c claims free =
    c.meet.ensures
    ∙ ap (λ labels. meet labels c.args.self.now.of_working) c.upto.ensures
    ∙ ap (meet (up_to c.args.n)) free.of_working
    ∙ free-upto is_working claims c.args.n c.requires
