use Rattle.std.proofs.Common.{◌∙◌, ap, inl, inr, not, sym}
use Rattle.link_owner.specs.Claims.{is_backup, is_working}
use Rattle.link_owner.proofs.{FreedLabels.freed-free, free_labels.FreeLabels.free.Goals.{then-has, else-has, then-has-2, else-has-2}}
use Rattle.link_owner.proofs.free_labels.FreeLabels.free.Goals as goal

pub returns : goal.returns
returns c before lsp free is =
    let x = c.args.label in
    let after = c.args.claims.now in
    record {
      of_working =
          c.with_free-self.ensures
          ∙ freed-free is_working before after x lsp c.args.self.now.of_working c.if-has.working free.of_working is
          (elim c.if-has.branch [
            | then-has w ↦ inl (sym c.has.ensures ∙ w.if-has.true, w.working-is ∙ w.if-has.true)
            | else-has w ↦ inr (w.working-is ∙ ap not w.has_working.ensures)
          ]);
      of_backups =
          c.with_free-self-2.ensures
          ∙ freed-free is_backup before after x lsp c.args.self.now.of_backups c.if-has-2.backups free.of_backups is
          (elim c.if-has-2.branch [
            | then-has-2 w ↦ inl (sym c.has-2.ensures ∙ w.if-has-2.true, w.backups-is ∙ w.if-has-2.true)
            | else-has-2 w ↦ inr (w.backups-is ∙ ap not w.has_backup.ensures)
          ]);
    }
