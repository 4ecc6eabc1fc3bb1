use Rattle.std.proofs.{Common.{◌≡◌, ◌<◌, ◌∙◌, length, rules, sym}, lemmas.List.Sorted.answers_always}
use Rattle.std.specs.List.{remove}
use Rattle.flood.proofs.DueOrder.{first_goes, found_goes, none_goes}
use Rattle.flood.proofs.due.take_off.Goals as goal

pub returns-in-Ok : goal.returns-in-Ok
returns-in-Ok c =
    let within : c.in-Ok.place < length c.args.due.now.items = search rules in
    let items : c.remove.new.self.items ≡ remove c.args.due.now.items c.in-Ok.place = search rules in
    items
    ∙ found_goes c.args.number c.args.due.now.items c.in-Ok.place c.requires within
    (c.in-Ok.ensures.position (λ d. d.number) (answers_always _ _ _ (λ f a r g called. search rules)))

pub returns-in_default : goal.returns-in_default
returns-in_default c =
    none_goes c.args.number c.args.due.now.items c.in_default.field-0 c.requires
    (c.in_default.ensures.position (λ d. d.number) (answers_always _ _ _ (λ f a r g called. search rules)))

pub returns-then-is_first : goal.returns-then-is_first
returns-then-is_first c = c.pop_front.ensures.rest ∙ first_goes c.args.number c.args.due.now.items c.requires
    (sym c.is_first.ensures ∙ c.if-is_first.true)
