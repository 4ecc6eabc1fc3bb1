use Rattle.std.proofs.{Common.{◌∙◌, ◌++◌, ◌∷◌, [], ap, true}, lemmas.List.append_assoc}
use Rattle.link_owner.specs.Marks.{dark_fibre}
use Rattle.link_owner.proofs.owner.add_dark.Goals as goal

pub returns : goal.returns
returns c =
    let first = c.in_ok-new.field-0 in
    let second = c.in_ok-new-2.field-0 in
    c.in_ok-push-2.ensures.items ∙ ap (λ ms. ms ++ second ∷ []) c.in_ok-push.ensures.items
    ∙ append_assoc c.args.marks.now.items (first ∷ []) (second ∷ [])
    ∙ ap (λ m. c.args.marks.now.items ++ m ∷ second ∷ []) c.in_ok-new.ensures
    ∙ ap (λ m. c.args.marks.now.items ++ dark_fibre (record { link = c.args.link.now.id; forward = true }) ∷ m ∷ [])
    c.in_ok-new-2.ensures
