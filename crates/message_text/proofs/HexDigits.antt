-- Lines in hexadecimal, byte by byte.
use Rattle.std.proofs.{Common.{◌≡◌, ◌≢◌, ℕ, ◌+◌, ◌-◌, ◌*◌, ◌≤◌, ◌==◌, length, take, drop, get_or, Option, None, Some, false, List, [], ◌∷◌, ◌++◌, refl, ap, sym, ◌∙◌, arith, append_assoc}, lemmas.List.take_all}
use Rattle.std.specs.Option.{option_map}
use Rattle.wire_buf.specs.Hex.{byte_of, digit_value}
use Rattle.message_text.specs.Hex.{hex_bytes}

-- these bytes, and those behind them
abbrev pub front_and_behind : List ℕ → Option (List ℕ) → Option (List ℕ)
front_and_behind front o = option_map (λ bytes. front ++ bytes) o

pub alone : (c : ℕ) → c ≢ 32 → hex_bytes (c ∷ []) ≡ None
alone c ne = let t : (c == 32) ≡ false = grind arith in rw t refl

pub at_digits :
    (c d : ℕ) (cs : List ℕ) → c ≢ 32
    → hex_bytes (c ∷ d ∷ cs) ≡ byte_of (digit_value c) (digit_value d) (hex_bytes cs)
at_digits c d cs ne = let t : (c == 32) ≡ false = grind arith in rw t refl

pub behind_byte :
    (front : List ℕ) (high low : ℕ) (others : Option (List ℕ))
    → front_and_behind (front ++ (16 * high + low) ∷ []) others
    ≡ front_and_behind front (byte_of (Some high) (Some low) others)
behind_byte front high low None = refl
behind_byte front high low (Some bytes) =
    ap (λ (l : List ℕ). Some l) (append_assoc front ((16 * high + low) ∷ []) bytes)

not_space : (c h : ℕ) → Some h ≡ digit_value c → c ≢ 32
not_space c h e same = let none : digit_value c ≡ None = ap digit_value same in cc (e, none)

-- two digits more
pub pair_read :
    (front new line rest : List ℕ) (high low : ℕ) → 2 ≤ length rest
    → Some high ≡ digit_value (get_or rest 0 0) → Some low ≡ digit_value (get_or rest 1 0)
    → new ≡ front ++ (16 * high + low) ∷ [] → front_and_behind front (hex_bytes rest) ≡ hex_bytes line
    → front_and_behind new (hex_bytes (take (length rest - 2) (drop 2 rest))) ≡ hex_bytes line
pair_read front new line [] high low long h l e so_far = absurd (omega arith)
pair_read front new line (c ∷ []) high low long h l e so_far = absurd (omega arith)
pair_read front new line (c ∷ d ∷ cs) high low long h l e so_far =
    let others : take (length (c ∷ d ∷ cs) - 2) cs ≡ cs = take_all (length (c ∷ d ∷ cs) - 2) cs (omega arith) in
    let here : hex_bytes (c ∷ d ∷ cs) ≡ byte_of (Some high) (Some low) (hex_bytes cs) =
    at_digits c d cs (not_space c high h) ∙ rw (sym h, sym l) refl in
    ap (λ (l : List ℕ). front_and_behind new (hex_bytes l)) others
    ∙ ap (λ (l : List ℕ). front_and_behind l (hex_bytes cs)) e
    ∙ behind_byte front high low (hex_bytes cs) ∙ ap (front_and_behind front) (sym here) ∙ so_far
