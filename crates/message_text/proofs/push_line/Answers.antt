use Rattle.std.proofs.Common.{◌∙◌, ap, sym, List, ℕ, Some}
use Rattle.std.specs.Option.{option_map}
use Rattle.message_text.proofs.{HexLines.not_none, OneText.line_told}
use Rattle.message_text.proofs.push_line.Goals as goal

pub returns-in-Some-2 : goal.returns-in-Some-2
returns-in-Some-2 c =
    let found = ap (λ (l : List ℕ). Some l) c.deref.ensures.value in
    let read = sym (ap (option_map (λ v. v.items)) c.in-Some.is) in
    line_told _ _ c.deref.result.now c.args.text.now c.push_message.new.text (found ∙ read ∙ c.in_ok-bytes_of.ensures)
    (not_none _ _ _ c.deref.ensures.len c.is_empty.ensures c.if-is_empty.false) c.push_message.ensures
