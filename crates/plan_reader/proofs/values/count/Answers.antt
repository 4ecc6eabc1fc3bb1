use Rattle.std.proofs.{Common.{◌∙◌, ap, sym, length}, lemmas.List.length-map}
use Rattle.toml.specs.View.{view}
use Rattle.plan_reader.proofs.values.count.Goals as goal

pub returns : goal.returns
returns c = sym (length-map c.elements.result.now (λ v. view v)) ∙ ap length c.elements.ensures
