use Rattle.std.proofs.Common.{◌∙◌, ◌++◌, List, ℕ, ap, string_bytes}
use Rattle.trace_text.proofs.Digits.{byte_shown}
use Rattle.trace_text.proofs.lines.push_byte.Goals as goal

pub returns-clause-text : goal.returns-clause-text
returns-clause-text c =
    (rw (c.in_radix.ensures, c.laid_out.ensures) at c.in_ok-write.ensures.bytes)
    ∙ ap (λ (t : List ℕ). string_bytes c.args.text.now ++ t) (byte_shown c.args.byte c.ranges.byte.fits)
