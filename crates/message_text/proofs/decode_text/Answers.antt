use Rattle.std.proofs.Common.{List, ℕ, Option, Vec, Global, ap, sym, subst}
use Rattle.std.specs.{Borrow.Bor, Prelude.string_bytes}
use Rattle.message_text.specs.{DecodeText.AreTexts, LinesLeft.text_lines_left}
use Rattle.message_text.proofs.{HexLines.{all_printed, next_line}, OneText.{TextGoesOn, goes_on, no_more}}
use Rattle.message_text.proofs.decode_text.Goals as goal

pub lines-preserved : goal.lines-preserved
lines-preserved c =
    let t = c.in_ok-push_line.ensures in
    record {
      printed = next_line c.args.bytes.now _ _ t.0 _ c.first_line.result.1 _ c.first_line.ensures.lines t.1.is t.2
          (λ others are.
          let here = subst (λ (o : Option (Bor (List ℕ))). AreTexts (text_lines_left o) others) (sym c.in-Some.is) are
          in
          c.lines.invariant.printed others here);
      only = λ u told.
          let so_far = string_bytes c.lines.text in
          goes_on u _ _ _ c.first_line.result.1 _ t.0 c.first_line.ensures.lines t.1 t.2
          (subst (λ (o : Option (Bor (List ℕ))). TextGoesOn u (text_lines_left o) so_far) c.in-Some.is
          (c.lines.invariant.only u told));
    }

pub returns : goal.returns
returns c =
    let none = c.in_default.is in
    let bytes = ap (λ (v : Vec ℕ Global). v.items) c.into_bytes.ensures.value in
    record {
      is = all_printed c.args.bytes.now _ _ c.lines.left none c.lines.invariant.printed bytes;
      only = λ t told. no_more t _ _ c.lines.left none (c.lines.invariant.only t told) bytes;
    }
