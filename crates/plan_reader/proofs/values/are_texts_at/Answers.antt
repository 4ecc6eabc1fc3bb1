use Rattle.std.proofs.{Common.{◌∙◌, ap, sym}, lemmas.List.Folds.list_all-map}
use Rattle.std.specs.List.{list_all}
use Rattle.toml.specs.View.{view}
use Rattle.plan_reader.specs.PlanTables.{is_text}
use Rattle.plan_reader.proofs.values.are_texts_at.Goals as goal

pub returns-then-is_array_at : goal.returns-then-is_array_at
returns-then-is_array_at c =
    let each = sym (list_all-map is_text (λ v. view v) c.elements.result.now) in
    rw (← c.is_array_at.ensures, c.if-is_array_at.true)
    (c.are_texts.ensures ∙ (each ∙ ap (list_all is_text) c.elements.ensures))
