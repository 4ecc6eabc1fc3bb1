use Rattle.std.proofs.Common.{◌∙◌, ap}
use Rattle.ason_base.specs.Labels.{meet, up_to}
use Rattle.link_owner.specs.Claims.{free_of, is_working}
use Rattle.link_owner.proofs.FreeLabelReads.{unclaimed-upto}
use Rattle.link_owner.proofs.free_labels.FreeLabels.unclaimed.Goals as goal

pub returns : goal.returns
returns c claims free =
    let free_labels = c.args.self.now in
    c.meet-2.ensures
    ∙ ap (λ labels. meet labels free_labels.of_backups)
    (c.meet.ensures
    ∙ ap (λ labels. meet labels free_labels.of_working) c.upto.ensures
    ∙ ap (meet (up_to c.args.n)) free.of_working)
    ∙ ap (meet (meet (up_to c.args.n) (free_of is_working claims))) free.of_backups
    ∙ unclaimed-upto claims c.args.n c.requires
