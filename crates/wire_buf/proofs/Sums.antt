-- The one's complement sum, word by word.
use Rattle.std.proofs.{Common.{◌≡◌, ℕ, zero, suc, ◌+◌, ◌-◌, ◌*◌, ◌%◌, ◌^◌, ◌<◌, ◌≤◌, List, [], ◌∷◌, ◌++◌, length, drop, refl, ap, ◌∙◌, arith, cond, length-drop, ltb, true, false}, lemmas.Bool.{ltb-true, ltb-false}, lemmas.List.Sums.sum_by-cons, lemmas.List.Elements.{All-head, All-tail}}
use Rattle.std.specs.{Prelude.{◌↔◌, sum, All}, List.fold}
use Rattle.byteorder.specs.Endian.{big_number}
use Rattle.wire_buf.specs.Checksum.{words, ones_of, ones_add}

-- what was added up so far, and what is still to come: with it the sum is the whole one in one's complement
pub record SumsTo (bytes left : List ℕ) (so_far : ℕ) : Type 0 where
  pub whole : ones_of (so_far + sum (words left)) ≡ ones_of (sum (words bytes))
  pub few : so_far + 2 ^ 61 * length left ≤ 2 ^ 61 * length bytes

first_word : (w : ℕ) → w < 65536 → 0 + w ≡ ones_of (0 + w)
first_word zero h = refl
first_word (suc w) h = let shape : 0 + suc w ≡ suc w = omega arith in rw shape (omega arith)

-- a word more
pub ones_more : (n w : ℕ) → w < 65536 → ones_add (ones_of n) w ≡ ones_of (n + w)
ones_more zero w h =
    elim (ltb 65535 (0 + w)) as (λ b. ltb 65535 (0 + w) ≡ b → cond b (0 + w - 65535) (0 + w) ≡ ones_of (0 + w)) [
      | true ↦ λ t. let big = ltb-true _ _ t in absurd (omega arith)
      | false ↦ λ t. let small = ltb-false _ _ t in
          first_word w h
    ] refl
ones_more (suc n) w h =
    let shape : suc n + w ≡ suc (n + w) = omega arith in
    rw shape (elim (ltb 65535 (n % 65535 + 1 + w)) as (λ b. ltb 65535 (n % 65535 + 1 + w) ≡ b →
    cond b (n % 65535 + 1 + w - 65535) (n % 65535 + 1 + w) ≡ (n + w) % 65535 + 1) [
      | true ↦ λ t. let big = ltb-true _ _ t in omega arith
      | false ↦ λ t. let small = ltb-false _ _ t in
          omega arith
    ] refl)

pub ones-positive : (n : ℕ) → 0 < n → ones_of n ≡ (n - 1) % 65535 + 1
ones-positive zero h = absurd (omega arith)
ones-positive (suc n) h = ap (λ (m : ℕ). m % 65535 + 1) (omega arith)

-- a number of four bytes stands for its two words
wraps : (n high : ℕ) → (n ≡ 0 → high ≡ 0) → ones_of (n + 65535 * high) ≡ ones_of n
wraps zero high none =
    let is_zero = none refl in
    let nothing : 0 + 65535 * high ≡ 0 = omega (arith, is_zero) in ap ones_of nothing
wraps (suc n) high none =
    omega (arith, ones-positive (suc n + 65535 * high) (omega arith), ones-positive (suc n) (omega arith))

-- what holds of all lists that begin with four bytes holds of each that is long enough
by_four : (P : List ℕ → Type 0) → ((a b c d : ℕ) (rest : List ℕ) → P (a ∷ b ∷ c ∷ d ∷ rest)) → (left : List ℕ) →
    4 ≤ length left → P left
by_four P each [] h = absurd (omega arith)
by_four P each (a ∷ []) h = absurd (omega arith)
by_four P each (a ∷ b ∷ []) h = absurd (omega arith)
by_four P each (a ∷ b ∷ c ∷ []) h = absurd (omega arith)
by_four P each (a ∷ b ∷ c ∷ d ∷ rest) h = each a b c d rest

pair_wraps : (n : ℕ) (left : List ℕ) → 4 ≤ length left →
    ones_of (n + big_number 4 left + sum (words (drop 4 left))) ≡ ones_of (n + sum (words left))
pair_wraps n =
    by_four (λ left. ones_of (n + big_number 4 left + sum (words (drop 4 left))) ≡ ones_of (n + sum (words left))) each
  where
    each : (a b c d : ℕ) (left : List ℕ) →
        ones_of (n + big_number 4 (a ∷ b ∷ c ∷ d ∷ left) + sum (words left))
        ≡ ones_of (n + sum (words (a ∷ b ∷ c ∷ d ∷ left)))
    each a b c d left =
        let high : ℕ = a * 256 + b in
        let low : ℕ = c * 256 + d in
        let read : big_number 4 (a ∷ b ∷ c ∷ d ∷ left) ≡ high * 65536 + low = omega arith in
        let front : sum (words (a ∷ b ∷ c ∷ d ∷ left)) ≡ high + (low + sum (words left)) =
        sum_by-cons (λ x. x) high (low ∷ words left)
        ∙ ap (λ (m : ℕ). high + m) (sum_by-cons (λ x. x) low (words left)) in
        let whole : ℕ = n + sum (words (a ∷ b ∷ c ∷ d ∷ left)) in
        ap ones_of (omega (arith, read, front)) ∙ wraps whole high (λ none. omega (arith, front, none))

eight_bytes : (a b c d : ℕ) (rest : List ℕ) → 4 ≤ length rest →
    big_number 8 (a ∷ b ∷ c ∷ d ∷ rest) ≡ big_number 4 (a ∷ b ∷ c ∷ d ∷ rest) * 4294967296 + big_number 4 rest
eight_bytes a b c d =
    by_four (λ rest. big_number 8 (a ∷ b ∷ c ∷ d ∷ rest)
    ≡ big_number 4 (a ∷ b ∷ c ∷ d ∷ rest) * 4294967296 + big_number 4 rest) (λ e f g k rest. omega arith)

-- and a number of eight bytes for its four words
four_wraps : (n : ℕ) (left : List ℕ) → 8 ≤ length left →
    ones_of (n + big_number 8 left + sum (words (drop 8 left))) ≡ ones_of (n + sum (words left))
four_wraps n left long =
    by_four (λ bytes. 8 ≤ length bytes →
    ones_of (n + big_number 8 bytes + sum (words (drop 8 bytes))) ≡ ones_of (n + sum (words bytes)))
    each left (omega (arith, long)) long
  where
    each : (a b c d : ℕ) (rest : List ℕ) → 8 ≤ length (a ∷ b ∷ c ∷ d ∷ rest) →
        ones_of (n + big_number 8 (a ∷ b ∷ c ∷ d ∷ rest) + sum (words (drop 4 rest)))
        ≡ ones_of (n + sum (words (a ∷ b ∷ c ∷ d ∷ rest)))
    each a b c d rest h =
        let long : 4 ≤ length rest = omega arith in
        let first : ℕ = big_number 4 (a ∷ b ∷ c ∷ d ∷ rest) in
        let last : ℕ = big_number 4 rest in
        let others : ℕ = sum (words (drop 4 rest)) in
        let read : big_number 8 (a ∷ b ∷ c ∷ d ∷ rest) ≡ first * 4294967296 + last = eight_bytes a b c d rest long in
        let shape : n + (first * 4294967296 + last) + others ≡ n + first + last + others + 65535 * (65537 * first) =
        omega arith in
        ap (λ (m : ℕ). ones_of (n + m + others)) read ∙ ap ones_of shape
        ∙ wraps (n + first + last + others) (65537 * first) (λ none. omega (arith, none))
        ∙ pair_wraps (n + first) rest long ∙ pair_wraps n (a ∷ b ∷ c ∷ d ∷ rest) (omega arith)

pub adds_pair : (bytes left after : List ℕ) (so_far pair new : ℕ) → 4 ≤ length left → pair ≡ big_number 4 left →
    pair < 4294967296 → after ≡ drop 4 left → new ≡ so_far + pair → SumsTo bytes left so_far → SumsTo bytes after new
adds_pair bytes left after so_far pair new long is_pair fits is_after is_new sums = record {
  whole =
      rw (is_after, is_new, is_pair) (pair_wraps so_far left long ∙ sums.whole);
  few = rw is_after (omega (arith, sums.few, length-drop 4 left));
}

pub adds_four : (bytes left after : List ℕ) (so_far four new : ℕ) → 8 ≤ length left → four ≡ big_number 8 left →
    four < 2 ^ 64 → after ≡ drop 8 left → new ≡ so_far + four → SumsTo bytes left so_far → SumsTo bytes after new
adds_four bytes left after so_far four new long is_four fits is_after is_new sums = record {
  whole =
      rw (is_after, is_new, is_four) (four_wraps so_far left long ∙ sums.whole);
  few = rw is_after (omega (arith, sums.few, length-drop 8 left));
}

add_all : (n : ℕ) (ws : List ℕ) → All (λ w. w < 65536) ws → fold ones_add (ones_of n) ws ≡ ones_of (n + sum ws)
add_all n [] fit = ap ones_of (omega arith)
add_all n (w ∷ ws) fit =
    let others = add_all (n + w) ws (All-tail (λ w. w < 65536) w ws fit) in
    let total : n + w + sum ws ≡ n + sum (w ∷ ws) = omega (arith, sum_by-cons (λ x. x) w ws) in
    ap (λ (m : ℕ). fold ones_add m ws) (ones_more n w (All-head (λ w. w < 65536) w ws fit)) ∙ others ∙ ap ones_of total

pub all_at_once : (ws : List ℕ) → All (λ w. w < 65536) ws → fold ones_add 0 ws ≡ ones_of (sum ws)
all_at_once ws fit = let e : 0 + sum ws ≡ sum ws = omega arith in add_all 0 ws fit ∙ ap ones_of e

pub words-append : (front back : List ℕ) → length front % 2 ≡ 0 → words (front ++ back) ≡ words front ++ words back
words-append [] back even = refl
words-append (a ∷ []) back even = absurd (omega arith)
words-append (a ∷ b ∷ front) back even =
    ap (λ (ws : List ℕ). (a * 256 + b) ∷ ws) (words-append front back (omega arith))

cancels : (others field : ℕ) → 0 < others → field < 65535 → field ≡ 65535 - ones_of others →
    65535 - ones_of (others + field) ≡ 0
cancels others field some small right =
    omega (arith, ones-positive others some, ones-positive (others + field) (omega arith))

is_right : (others field : ℕ) → 0 < others → field < 65535 → 65535 - ones_of (others + field) ≡ 0 →
    field ≡ 65535 - ones_of others
is_right others field some small zero_sum =
    omega (arith, ones-positive others some, ones-positive (others + field) (omega arith))

pub cancels_iff : (others field : ℕ) → 0 < others → field < 65535 →
    (field ≡ 65535 - ones_of others) ↔ (65535 - ones_of (others + field) ≡ 0)
cancels_iff others field some small = (cancels others field some small, is_right others field some small)
