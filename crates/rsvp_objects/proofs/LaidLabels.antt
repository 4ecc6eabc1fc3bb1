-- Labels laid over zeros, each in four bytes.
use Rattle.std.proofs.{Common.{◌≡◌, ◌≤◌, ◌<◌, ◌+◌, ◌-◌, ◌*◌, ◌^◌, ℕ, suc, List, [], ◌∷◌, ◌++◌, length, drop, replicate, set, take, refl, sym, ap, ◌∙◌, arith, append_assoc, length-append}, lemmas.List.{append-nil, length-take-le, set-append_right, take_at, take-append-drop}, lemmas.List.Concat.flat_map-append}
use Rattle.std.specs.Int.{trailing_zeros, w64}
use Rattle.byteorder.specs.Endian.{big_bytes}
use Rattle.wire_buf.proofs.Numbers.{numbers-length}
use Rattle.rsvp_objects.specs.LabelSets.{labels_bytes, laid, laid_from, marked}
use Rattle.rsvp_objects.proofs.MarkedLabels.{but_lowest, lowest_first, lowest_low, nothing_marked}

-- ---- one label

four_bytes : (a b c d n : ℕ) → a ≡ 0 → b ≡ 0 → c ≡ 0 → d ≡ n → 0 ∷ 0 ∷ 0 ∷ n ∷ [] ≡ a ∷ b ∷ c ∷ d ∷ []
four_bytes a b c d n first second third fourth = cc

small_number : (n : ℕ) → n < 256 → 0 ∷ 0 ∷ 0 ∷ n ∷ [] ≡ big_bytes 4 n
small_number n small = four_bytes _ _ _ _ n (omega arith) (omega arith) (omega arith) (omega arith)

-- The fourth byte makes the label out of zeros.
one_laid : (front : List ℕ) (n at size : ℕ) → length front ≡ at → at + 4 ≤ size → n < 256 →
    set (front ++ replicate (size - at) 0) (at + 3) n ≡ (front ++ big_bytes 4 n) ++ replicate (size - (at + 4)) 0
one_laid front n at size len room small =
    let zeros : List ℕ = replicate (size - (at + 4)) 0 in
    let left : size - at ≡ suc (suc (suc (suc (size - (at + 4))))) = omega arith in
    let third : at + 3 - at ≡ 3 = omega arith in
    set-append_right front (replicate (size - at) 0) at (at + 3) n len (omega arith)
    ∙ ap (λ (k : ℕ). front ++ set (replicate k 0) (at + 3 - at) n) left
    ∙ ap (λ (k : ℕ). front ++ set (0 ∷ 0 ∷ 0 ∷ 0 ∷ zeros) k n) third
    ∙ sym (append_assoc front (0 ∷ 0 ∷ 0 ∷ n ∷ []) zeros)
    ∙ ap (λ (l : List ℕ). (front ++ l) ++ zeros) (small_number n small)

one_more_laid : (old bytes ls : List ℕ) (start n at : ℕ) → at ≡ start + 4 * length ls → at + 4 ≤ length old →
    n < 256 → bytes ≡ laid_from start old ls at →
    set bytes (at + 3) n ≡ laid_from start old (ls ++ n ∷ []) (at + 4)
one_more_laid old bytes ls start n at end room small is =
    let head = take start old in
    let before = labels_bytes ls in
    let zeros : List ℕ = replicate (length old - (at + 4)) 0 in
    let first : length head ≡ start = length-take-le start old (omega arith) in
    let place : length (head ++ before) ≡ at = omega (arith, first, length-append head before, numbers-length ls) in
    ap (λ (l : List ℕ). set l (at + 3) n) is
    ∙ one_laid (head ++ before) n at (length old) place room small
    ∙ ap (λ (l : List ℕ). l ++ zeros) (append_assoc head before (big_bytes 4 n)
    ∙ ap (λ (l : List ℕ). head ++ l) (sym (flat_map-append (big_bytes 4) ls (n ∷ []))))

-- ---- the labels of a half

-- the labels laid so far, and the bits left
pub record Laying (old : List ℕ) (start first half : ℕ) (bytes : List ℕ) (at left : ℕ) : Type 0 where
  pub done : List ℕ
  pub whole : marked first half ≡ done ++ marked first left
  pub end : at ≡ start + 4 * length done
  pub is : bytes ≡ laid_from start old done at

pub laying_begins : (old : List ℕ) (start first half : ℕ) → drop start old ≡ replicate (length old - start) 0 →
    Laying old start first half old start half
laying_begins old start first half zeros = record {
  done = [];
  whole = refl;
  end = omega arith;
  is =
      sym (take-append-drop start old) ∙ ap (λ (l : List ℕ). take start old ++ l) zeros
      ∙ ap (λ (l : List ℕ). l ++ replicate (length old - start) 0) (sym (append-nil (take start old)));
}

-- there is room for the lowest label left
pub laying_room : (old : List ℕ) (start first half : ℕ) (bytes : List ℕ) (at left : ℕ) → 0 < left → left < 2 ^ 64 →
    start + 4 * length (marked first half) ≤ length old → Laying old start first half bytes at left →
    at + 4 ≤ length old
laying_room old start first half bytes at left some fits room so_far =
    omega (
      arith,
      so_far.end,
      ap length so_far.whole,
      length-append so_far.done (marked first left),
      ap length (lowest_first first left some fits),
    )

pub laying_goes_on : (old : List ℕ) (start first half : ℕ) (bytes : List ℕ) (at left : ℕ) → 0 < left → left < 2 ^ 64 →
    first ≤ 64 → start + 4 * length (marked first half) ≤ length old → Laying old start first half bytes at left →
    Laying old start first half (set bytes (at + 3) (first + trailing_zeros w64 left)) (at + 4) (but_lowest left)
laying_goes_on old start first half bytes at left some fits small room so_far = record {
  done = so_far.done ++ n ∷ [];
  whole =
      so_far.whole ∙ ap (λ (l : List ℕ). so_far.done ++ l) (lowest_first first left some fits)
      ∙ sym (append_assoc so_far.done (n ∷ []) (marked first (but_lowest left)));
  end = omega (arith, so_far.end, length-append so_far.done (n ∷ []));
  is =
      one_more_laid old bytes so_far.done start n at so_far.end
      (laying_room old start first half bytes at left some fits room so_far)
      (let low = lowest_low left some fits in omega arith) so_far.is;
}
  where
    n : ℕ
    n = first + trailing_zeros w64 left

pub laying_ends : (old : List ℕ) (start first half : ℕ) (bytes : List ℕ) (at left : ℕ) → left ≡ 0 →
    Laying old start first half bytes at left →
    (at ≡ start + 4 * length (marked first half)) × (bytes ≡ laid_from start old (marked first half) at)
laying_ends old start first half bytes at left none so_far = (
  so_far.end ∙ ap (λ (l : List ℕ). start + 4 * length l) all,
  so_far.is ∙ ap (λ (l : List ℕ). laid_from start old l at) all,
)
  where
    all : so_far.done ≡ marked first half
    all = sym (so_far.whole ∙ ap (λ (l : List ℕ). so_far.done ++ l) (nothing_marked first left none)
        ∙ append-nil so_far.done)

-- ---- both halves

-- the labels of one half behind those of the other
pub laid_twice : (old middle new low high ls : List ℕ) (at end : ℕ) → old ≡ replicate 328 0 →
    at ≡ 8 + 4 * length low → length middle ≡ 328 → middle ≡ laid_from 8 old low at →
    new ≡ laid_from at middle high end → low ++ high ≡ ls → new ≡ laid ls end
laid_twice old middle new low high ls at end zeros is_at size is_middle is_new whole =
    let head : List ℕ = replicate 8 0 in
    let rest : List ℕ = replicate (328 - end) 0 in
    let len : length (head ++ labels_bytes low) ≡ at = omega (arith, numbers-length low) in
    let front : take at middle ≡ head ++ labels_bytes low
    = ap (take at) (is_middle ∙ ap (λ (l : List ℕ). laid_from 8 l low at) zeros)
    ∙ take_at (head ++ labels_bytes low) (replicate (328 - at) 0) at len in
    is_new
    ∙ ap (λ (n : ℕ). (take at middle ++ labels_bytes high) ++ replicate (n - end) 0) size
    ∙ ap (λ (l : List ℕ). l ++ rest) (ap (λ (l : List ℕ). l ++ labels_bytes high) front
    ∙ append_assoc head (labels_bytes low) (labels_bytes high)
    ∙ ap (λ (l : List ℕ). head ++ l) (sym (flat_map-append (big_bytes 4) low high) ∙ ap labels_bytes whole))
