use Rattle.std.proofs.Common.{◌∙◌, ap, refl}
use Rattle.ason_base.specs.Labels.{without}
use Rattle.link_owner.specs.Claims.{is_backup, is_working, working_claim}
use Rattle.link_owner.proofs.FreedLabels.{more-other, more-so}
use Rattle.link_owner.proofs.free_labels.FreeLabels.claim.Goals as goal

pub returns : goal.returns
returns c claims lsp free =
    let x = c.args.label in
    let new = working_claim x lsp in
    record {
      of_working =
          c.without-self.ensures ∙ ap (λ labels. without labels x) free.of_working
          ∙ more-so is_working claims new refl;
      of_backups = free.of_backups ∙ more-other is_backup claims new refl;
    }
