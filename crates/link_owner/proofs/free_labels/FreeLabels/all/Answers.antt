use Rattle.std.proofs.Common.{◌∙◌}
use Rattle.link_owner.specs.Claims.{is_backup, is_working}
use Rattle.link_owner.proofs.FreedLabels.{none-claimed}
use Rattle.link_owner.proofs.free_labels.FreeLabels.all.Goals as goal

pub returns : goal.returns
returns c = record {
  of_working = c.upto.ensures ∙ none-claimed is_working;
  of_backups = c.upto-2.ensures ∙ none-claimed is_backup;
}
