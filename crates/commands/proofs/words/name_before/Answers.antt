use Rattle.std.proofs.{Common.{◌-◌, ◌∙◌, ap, map, string_bytes, sym}, lemmas.List.length-map}
use Rattle.plan_reader.specs.PlanTexts.{word_at}
use Rattle.commands.proofs.words.name_before.Goals as goal

pub returns : goal.returns
returns c =
    c.word_at.ensures
    ∙ ap (word_at (map string_bytes c.args.words.now)) (c.saturating_sub-2.ensures
    ∙ ap (λ n. n - 1) (c.saturating_sub.ensures
    ∙ ap (λ n. n - c.args.behind) (sym (length-map c.args.words.now string_bytes))))
