use Rattle.std.proofs.Common.{◌∙◌, ◌++◌, ◌∷◌, [], ap, length, subst, sym}
use Rattle.std.specs.List.{position, position_or_len}
use Rattle.share_check.specs.Guards.{AreTalliesApart, is_at}
use Rattle.share_check.proofs.TallyChanges.{none-found, pushed-apart, pushed-place}
use Rattle.share_check.proofs.shares.place_or_new.Goals as goal

pub returns-clause-apart : goal.returns-clause-apart
returns-clause-apart c =
    let f = c.args.f in
    let x = c.args.l in
    let ts = c.args.labels.now.items in
    let none = none-found (is_at f x) ts
    (sym (c.in_default.ensures ∙ ap (position (is_at f x)) c.deref.ensures.value)) in
    subst AreTalliesApart (sym (c.in_ok-push.ensures.items ∙ ap (λ t. ts ++ t ∷ []) c.new.ensures))
    (pushed-apart f x ts c.requires none)

pub returns-clause-place : goal.returns-clause-place
returns-clause-place c =
    let f = c.args.f in
    let x = c.args.l in
    let ts = c.args.labels.now.items in
    let none = none-found (is_at f x) ts
    (sym (c.in_default.ensures ∙ ap (position (is_at f x)) c.deref.ensures.value)) in
    ap (position_or_len (is_at f x)) (c.in_ok-push.ensures.items ∙ ap (λ t. ts ++ t ∷ []) c.new.ensures)
    ∙ pushed-place f x ts none
    ∙ ap length (sym c.deref.ensures.value)
    ∙ c.deref.ensures.len
    ∙ sym c.len-place.ensures
