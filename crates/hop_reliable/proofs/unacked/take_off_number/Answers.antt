use Rattle.std.proofs.{Common.{◌≡◌, ◌<◌, ◌∙◌, length, rules, Ok}, lemmas.List.Sorted.answers_always}
use Rattle.std.specs.List.{remove}
use Rattle.hop_reliable.proofs.Acknowledged.{IsFoundBy, below-stay, first-goes, found-goes, none-goes}
use Rattle.hop_reliable.proofs.unacked.take_off_number.Goals as goal

pub returns-then-number-first-clause-left : goal.returns-then-number-first-clause-left
returns-then-number-first-clause-left c =
    below-stay c.args.number c.args.unacked.now.items c.index.result.now c.requires (search rules)

pub returns-then-number-first-2-clause-left : goal.returns-then-number-first-2-clause-left
returns-then-number-first-2-clause-left c =
    c.pop_front.ensures.rest
    ∙ first-goes c.args.number c.args.unacked.now.items c.index.result.now c.requires (search rules) (search rules)

pub returns-in-Ok-clause-left : goal.returns-in-Ok-clause-left
returns-in-Ok-clause-left c =
    let found : IsFoundBy c.args.number c.args.unacked.now.items (Ok c.in-Ok.place) =
    c.in-Ok.ensures.position (λ w. w.number) (answers_always _ _ _ (λ f a r g called. search rules)) in
    let within : c.in-Ok.place < length c.args.unacked.now.items = search rules in
    let items : c.remove.new.self.items ≡ remove c.args.unacked.now.items c.in-Ok.place = search rules in
    items ∙ found-goes c.args.number c.args.unacked.now.items c.in-Ok.place c.requires within found

pub returns-in_default-clause-left : goal.returns-in_default-clause-left
returns-in_default-clause-left c =
    none-goes c.args.number c.args.unacked.now.items c.in_default.field-0 c.requires
    (c.in_default.ensures.position (λ w. w.number) (answers_always _ _ _ (λ f a r g called. search rules)))
