-- Bytes as they are formatted are the digits of the wire's texts.
use Rattle.std.proofs.{Common.{◌≡◌, ◌∙◌, ◌<◌, ◌-◌, ◌/◌, ◌%◌, ◌^◌, ℕ, Bool, true, false, nat_le, nat_lt, [], ◌∷◌, refl, arith}, lemmas.Fmt.hex_byte}
use Rattle.std.specs.Fmt.{digit_glyph, digits, format_spec, padded_integral}
use Rattle.wire_buf.specs.Hex.{byte_text, digit_of}

glyph : (v : ℕ) → digit_glyph true v ≡ digit_of v
glyph v = by_size (nat_lt v 10) refl
  where
    by_size : (b : Bool) → nat_lt v 10 ≡ b → digit_glyph true v ≡ digit_of v
    by_size true e =
        let within : nat_le v 9 ≡ true = grind (arith, e) in
        rw (e, within) (omega arith)
    by_size false e =
        let above : nat_le v 9 ≡ false = grind (arith, e) in
        let large : 9 < v = grind (arith, e) in
        rw (e, above) (omega (arith, large))

-- two digits with letters in upper case
pub byte_shown : (n : ℕ) → n < 256 →
    padded_integral (format_spec 32 0 4 2 (2 ^ 64 - 1)) false [] (digits 16 true n) ≡ byte_text n
byte_shown n small = hex_byte true n small ∙ (λ i. glyph (n / 16) i ∷ glyph (n % 16) i ∷ [])
