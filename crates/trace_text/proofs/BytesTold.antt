-- The bytes of a noise that are written are read.
use Rattle.std.proofs.{Common.{◌≡◌, ◌<◌, ◌/◌, ◌%◌, ◌==◌, ◌&&◌, ℕ, All, Bool, nat_le, true, false, List, [], ◌∷◌, Some, codes, refl, arith}, lemmas.List.Elements.{All-head, All-tail}, lemmas.Bool.Decides.nat_tests}
use Rattle.std.specs.{Char.is_ascii_lowercase, Prelude.bytes_eq}
use Rattle.wire_buf.specs.Hex.{digit_of, hex_text}
use Rattle.wire_buf.proofs.HexDigits.{comes_back}
use Rattle.trace_text.specs.{EntryForms.{has_lowercase, noise_bytes}, EntryLines.bytes_text, RoundTrip.lacks_byte}

module _ (v : ℕ) (small : v < 16) where
  digit_upper : is_ascii_lowercase (digit_of v) ≡ false
  digit_upper = by_size (nat_le v 9) refl
    where
      by_size : (b : Bool) → nat_le v 9 ≡ b → is_ascii_lowercase (digit_of v) ≡ false
      by_size true e = rw e (grind (arith, nat_tests, e))
      by_size false e = rw e (grind (arith, nat_tests, e, small))

  digit_differs : (digit_of v == 10) ≡ false
  digit_differs = by_size (nat_le v 9) refl
    where
      by_size : (b : Bool) → nat_le v 9 ≡ b → (digit_of v == 10) ≡ false
      by_size true e = rw e (grind (arith, e))
      by_size false e = rw e (grind (arith, e))

-- the two digits of a byte are below 16
halves : (b : ℕ) → b < 256 → (b / 16 < 16) × (b % 16 < 16)
halves b small = (omega (arith, small), omega arith)

hex_upper : (bytes : List ℕ) → All (λ b. b < 256) bytes → has_lowercase (hex_text bytes) ≡ false
hex_upper [] small = refl
hex_upper (b ∷ bs) small =
    let half = halves b (All-head (λ b. b < 256) b bs small) in
    rw (
      digit_upper (b / 16) half.0,
      digit_upper (b % 16) half.1,
      hex_upper bs (All-tail (λ b. b < 256) b bs small),
    ) refl

hex_lacks : (bytes : List ℕ) → All (λ b. b < 256) bytes → lacks_byte 10 (hex_text bytes) ≡ true
hex_lacks [] small = refl
hex_lacks (b ∷ bs) small =
    let half = halves b (All-head (λ b. b < 256) b bs small) in
    rw (digit_differs (b / 16) half.0, digit_differs (b % 16) half.1, hex_lacks bs (All-tail (λ b. b < 256) b bs small))
    refl

-- no newline is in the text of bytes
pub bytes_lack : (bytes : List ℕ) → All (λ b. b < 256) bytes → lacks_byte 10 (bytes_text bytes) ≡ true
bytes_lack [] small = refl
bytes_lack (b ∷ bs) small = hex_lacks (b ∷ bs) small

pub bytes_read : (bytes : List ℕ) → All (λ b. b < 256) bytes → noise_bytes (bytes_text bytes) ≡ Some bytes
bytes_read [] small = refl
bytes_read (b ∷ bs) small =
    let several : bytes_eq (hex_text (b ∷ bs)) (codes "-") ≡ false = either (digit_of (b / 16) == 45) in
    rw (several, hex_upper (b ∷ bs) small) (comes_back (b ∷ bs) small)
  where
    either : (t : Bool) → (t && false) ≡ false
    either true = refl
    either false = refl
