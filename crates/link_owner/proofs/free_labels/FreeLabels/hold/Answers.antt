use Rattle.std.proofs.Common.{◌∙◌, ap, refl}
use Rattle.ason_base.specs.Labels.{without}
use Rattle.link_owner.specs.Claims.{backup_claim, is_backup, is_working}
use Rattle.link_owner.proofs.FreedLabels.{more-other, more-so}
use Rattle.link_owner.proofs.free_labels.FreeLabels.hold.Goals as goal

pub returns : goal.returns
returns c claims lsp free =
    let x = c.args.label in
    let new = backup_claim x lsp in
    record {
      of_working = free.of_working ∙ more-other is_working claims new refl;
      of_backups =
          c.without-self.ensures ∙ ap (λ labels. without labels x) free.of_backups
          ∙ more-so is_backup claims new refl;
    }
