-- Reading and writing hexadecimal, byte by byte.
use Rattle.std.proofs.{Common.{◌≡◌, ℕ, ◌+◌, ◌-◌, ◌*◌, ◌/◌, ◌%◌, ◌<◌, ◌≤◌, length, take, drop, get_or, All, Option, None, Some, List, [], ◌∷◌, ◌++◌, refl, ap, sym, ◌∙◌, arith, append_assoc}, lemmas.List.take_all, lemmas.List.Concat.flat_map-cons, lemmas.List.Elements.{All-head, All-tail}}
use Rattle.std.specs.Option.{option_map}
use Rattle.wire_buf.specs.Hex.{byte_of, byte_text, digit_of, digit_value, hex_pairs, hex_text}

-- these bytes, and those behind them
abbrev pub bytes_behind : List ℕ → Option (List ℕ) → Option (List ℕ)
bytes_behind front o = option_map (λ bytes. front ++ bytes) o

behind_byte :
    (front : List ℕ) (high low : ℕ) (others : Option (List ℕ))
    → bytes_behind (front ++ (16 * high + low) ∷ []) others ≡ bytes_behind front (byte_of (Some high) (Some low) others)
behind_byte front high low None = refl
behind_byte front high low (Some bytes) =
    ap (λ (l : List ℕ). Some l) (append_assoc front ((16 * high + low) ∷ []) bytes)

-- Two digits more are read as a byte more, by whatever reads two digits in front as a byte.
pub pair_read :
    (reads : List ℕ → Option (List ℕ))
    → ((c d high low : ℕ) (cs : List ℕ) → Some high ≡ digit_value c → Some low ≡ digit_value d
    → reads (c ∷ d ∷ cs) ≡ byte_of (Some high) (Some low) (reads cs))
    → (front new text rest : List ℕ) (high low : ℕ) → 2 ≤ length rest
    → Some high ≡ digit_value (get_or rest 0 0) → Some low ≡ digit_value (get_or rest 1 0)
    → new ≡ front ++ (16 * high + low) ∷ [] → bytes_behind front (reads rest) ≡ reads text
    → bytes_behind new (reads (take (length rest - 2) (drop 2 rest))) ≡ reads text
pair_read reads byte front new text [] high low long h l e so_far = absurd (omega arith)
pair_read reads byte front new text (c ∷ []) high low long h l e so_far = absurd (omega arith)
pair_read reads byte front new text (c ∷ d ∷ cs) high low long h l e so_far =
    let others : take (length (c ∷ d ∷ cs) - 2) cs ≡ cs = take_all (length (c ∷ d ∷ cs) - 2) cs (omega arith) in
    ap (λ (l : List ℕ). bytes_behind new (reads l)) others ∙ ap (λ (l : List ℕ). bytes_behind l (reads cs)) e
    ∙ behind_byte front high low (reads cs) ∙ ap (bytes_behind front) (sym (byte c d high low cs h l)) ∙ so_far

pub byte_read : (c d high low : ℕ) (cs : List ℕ) → Some high ≡ digit_value c → Some low ≡ digit_value d →
    hex_pairs (c ∷ d ∷ cs) ≡ byte_of (Some high) (Some low) (hex_pairs cs)
byte_read c d high low cs h l = rw (sym h, sym l) refl

pub hex_text-length : (bytes : List ℕ) → length (hex_text bytes) ≡ 2 * length bytes
hex_text-length [] = refl
hex_text-length (b ∷ bs) = ap length (flat_map-cons byte_text b bs) ∙ omega (arith, hex_text-length bs)

-- Digits that are written are read as their value.
digit_back : (n : ℕ) → n < 16 → digit_value (digit_of n) ≡ Some n
digit_back n small = grind arith

whole_byte : (b : ℕ) → 16 * (b / 16) + b % 16 ≡ b
whole_byte b = omega arith

pub comes_back : (bytes : List ℕ) → All (λ b. b < 256) bytes → hex_pairs (hex_text bytes) ≡ Some bytes
comes_back [] small = refl
comes_back (b ∷ bs) small =
    let fits : b < 256 = All-head (λ n. n < 256) b bs small in
    let high = digit_back (b / 16) (omega (arith, fits)) in
    let low = digit_back (b % 16) (omega arith) in
    let others = comes_back bs (All-tail (λ n. n < 256) b bs small) in
    ap hex_pairs (flat_map-cons byte_text b bs)
    ∙ rw (high, low, others) (ap (λ (n : ℕ). Some (n ∷ bs)) (whole_byte b))
