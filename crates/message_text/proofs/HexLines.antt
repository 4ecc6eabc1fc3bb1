-- Lines, one after the other.
use Rattle.std.proofs.{Common.{◌≡◌, ◌<◌, ℕ, suc, ◌+◌, ◌-◌, ◌==◌, Option, None, Some, Bool, true, false, cond, ltb, List, [], ◌∷◌, ◌++◌, length, take, drop, get_or, refl, ap, sym, subst, ◌∙◌, arith, append_assoc, All, length-drop}, lemmas.Bool.ltb-false, lemmas.List.{append-nil, get_or-take, length-take, take_all}, lemmas.List.Elements.All-from_get_or, lemmas.List.Quantifiers.position-Some, lemmas.List.Splits.{slice_split_at, slice_split_none}, lemmas.List.Sums.fails_before_first, Math.Seq.split_at}
use Rattle.std.specs.{Prelude.position, List.position_or_len, Borrow.Bor}
use Rattle.message_text.specs.{DecodeText.{AreTexts, IsBytesText, lines_of}, Hex.hex_bytes, LinesLeft.text_lines_left}

pub no_newline : (bytes : List ℕ) → position (λ c. c == 10) bytes ≡ None → lines_of bytes ≡ bytes ∷ []
no_newline bytes none =
    let first = position_or_len newline bytes in
    slice_split_none newline bytes
    (All-from_get_or (λ x. (x == 10) ≡ false) bytes 0
    (λ i within. fails_before_first newline bytes i 0 (before first (length bytes) i within none)))
  where
    newline : ℕ → Bool
    newline c = c == 10

    before : (place len i : ℕ) → i < len → cond (ltb place len) (Some place) None ≡ None → i < place
    before place len i within e = go (ltb place len) refl e
      where
        go : (b : Bool) → ltb place len ≡ b → cond b (Some place) None ≡ None → i < place
        go true t f = absurd cc
        go false t f = let past = ltb-false _ _ t in omega arith

splits :
    (bytes : List ℕ) (end : ℕ) → end < length bytes → (get_or bytes end 0 == 10) ≡ true
    → bytes ≡ take end bytes ++ 10 ∷ drop (end + 1) bytes
splits bytes end within here =
    let newline : get_or bytes end 0 ≡ 10 = grind arith in
    let e : suc end ≡ end + 1 = omega arith in
    split_at bytes end 0 within ∙ (λ i. take end bytes ++ newline i ∷ drop (suc end) bytes)
    ∙ ap (λ (n : ℕ). take end bytes ++ 10 ∷ drop n bytes) e

front_is :
    (bytes : List ℕ) (end : ℕ) → end < length bytes → ((k : ℕ) → k < end → (get_or bytes k 0 == 10) ≡ false)
    → All (λ x. (x == 10) ≡ false) (take end bytes)
front_is bytes end within none =
    All-from_get_or (λ x. (x == 10) ≡ false) (take end bytes) 0
    (λ i lt.
    let low : i < end = omega (arith, lt, length-take end bytes) in
    ap (λ (x : ℕ). x == 10) (get_or-take end bytes i 0 low) ∙ none i low)

pub to_newline :
    (bytes : List ℕ) (end : ℕ) → position (λ c. c == 10) bytes ≡ Some end
    → lines_of bytes ≡ take end bytes ∷ lines_of (drop (end + 1) bytes)
to_newline bytes end some =
    let found = position-Some (λ c. c == 10) bytes end 0 some in
    let front = front_is bytes end found.0 found.2 in
    ap lines_of (splits bytes end found.0 found.1)
    ∙ slice_split_at (λ c. c == 10) (take end bytes) 10 (drop (end + 1) bytes) front refl

pub not_none : (len count : ℕ) (b : Bool) → count ≡ len → b ≡ (len == 0) → b ≡ false → (count == 0) ≡ false
not_none len count b e is test = ap (λ (n : ℕ). n == 0) e ∙ sym is ∙ test

-- a slice to the end
pub to_the_end :
    (bytes : List ℕ) (end : ℕ)
    → take end bytes ∷ lines_of (drop (end + 1) bytes)
    ≡ take end bytes ∷ lines_of (take (length bytes - (end + 1)) (drop (end + 1) bytes))
to_the_end bytes end =
    let behind = drop (end + 1) bytes in
    let all = take_all (length bytes - (end + 1)) behind (omega (arith, length-drop (end + 1) bytes)) in
    ap (λ (l : List ℕ). take end bytes ∷ lines_of l) (sym all)

-- the texts so far, and those of the lines left
pub next_line :
    (bytes old new t line : List ℕ) (rest : Option (Bor (List ℕ))) (all : List (List ℕ)) →
    all ≡ line ∷ text_lines_left rest
    → IsBytesText (hex_bytes line) t → new ≡ old ++ t
    → ((others : List ℕ) → AreTexts all others → AreTexts (lines_of bytes) (old ++ others))
    → (others : List ℕ) → AreTexts (text_lines_left rest) others → AreTexts (lines_of bytes) (new ++ others)
next_line bytes old new t line rest all is text appended so_far others are =
    let here = subst (λ (ls : List (List ℕ)). AreTexts ls (t ++ others)) (sym is) (t, others, text, are, refl) in
    subst (AreTexts (lines_of bytes))
    (sym (append_assoc old t others) ∙ ap (λ (l : List ℕ). l ++ others) (sym appended))
    (so_far (t ++ others) here)

pub all_printed :
    (bytes text out : List ℕ) (left : Option (Bor (List ℕ))) → left ≡ None
    → ((others : List ℕ) → AreTexts (text_lines_left left) others → AreTexts (lines_of bytes) (text ++ others)) →
    out ≡ text
    → AreTexts (lines_of bytes) out
all_printed bytes text out None none so_far is =
    subst (AreTexts (lines_of bytes)) (append-nil text ∙ sym is) (so_far [] refl)
all_printed bytes text out (Some b) none so_far is = absurd cc
