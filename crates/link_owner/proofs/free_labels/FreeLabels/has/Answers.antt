use Rattle.std.proofs.Common.{◌∙◌, ap, refl, sym}
use Rattle.ason_base.specs.Labels.{has as is_in}
use Rattle.link_owner.specs.Claims.{is_backup, is_working}
use Rattle.link_owner.proofs.{FreeLabelReads.any-has, FreedLabels.none-has}
use Rattle.link_owner.proofs.free_labels.FreeLabels.has.Goals as goal

pub returns-in-Any : goal.returns-in-Any
returns-in-Any c claims free told =
    let x = c.args.label in
    let works = none-has is_working claims x
    (ap (λ labels. is_in labels x) (sym free.of_working) ∙ sym c.has.ensures ∙ c.if-has.true) in
    let holds = none-has is_backup claims x
    (ap (λ labels. is_in labels x) (sym free.of_backups) ∙ sym c.has-in-Any.ensures ∙ told) in
    rw (c.in-Any.is, any-has claims x, works, holds) refl

pub returns-in-AnyWorking : goal.returns-in-AnyWorking
returns-in-AnyWorking c claims free told =
    let x = c.args.label in
    let works = none-has is_working claims x
    (ap (λ labels. is_in labels x) (sym free.of_working) ∙ sym c.has.ensures ∙ c.if-has.true) in
    rw (c.in-AnyWorking.is, works) refl
