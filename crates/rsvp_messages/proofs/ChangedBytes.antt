-- Another byte changes the sum of the words by less than 65,535, so the checksum isn't right any more.
use Rattle.std.proofs.{Common.{◌≡◌, ◌≢◌, ℕ, zero, suc, Bool, true, false, nat_eq, nat_lt, ◌+◌, ◌-◌, ◌*◌, ◌<◌, ◌≤◌, ◌^◌, List, [], ◌∷◌, ◌++◌, length, drop, refl, sym, ap, ◌∙◌, subst, arith, inl, inr}, lemmas.List.Sums.sum_by-cons}
use Rattle.std.specs.Prelude.{◌⊎◌, ◌/◌, sum}
use Rattle.wire_buf.specs.{Checksum.{checksum_of, ones_of, words}, Objects.number_at}
use Rattle.wire_buf.proofs.Sums.{ones-positive}
use Rattle.rsvp_messages.specs.{Headers.{HasHeader, without_checksum}, Packets.type_of, Damage.{BitChangesAreRefused, ByteChangesAreRefused, DifferInBit}}

abbrev total : List ℕ → ℕ
total bytes = sum (words bytes)

total-two : (a b : ℕ) (bytes : List ℕ) → total (a ∷ b ∷ bytes) ≡ a * 256 + b + total bytes
total-two a b bytes = sum_by-cons (λ x. x) (a * 256 + b) (words bytes)

total-one : (a : ℕ) → total (a ∷ []) ≡ a * 256
total-one a = sum_by-cons (λ x. x) (a * 256) [] ∙ omega arith

-- a byte that is greater by d adds this to the sum
pub record Adds (more less : ℕ) : Type 0 where
  pub by : ℕ
  pub some : 0 < by
  pub small : by < 65535
  pub sum : more ≡ less + by

pub greater-byte : (front : List ℕ) (x d : ℕ) (back : List ℕ) → 0 < d → d < 256 →
    Adds (total (front ++ (x + d) ∷ back)) (total (front ++ x ∷ back))
greater-byte [] x d [] some small =
    record { by = d * 256; some = omega arith; small = omega arith; sum = omega (arith, total-one (x + d), total-one x) }
greater-byte [] x d (b ∷ back) some small = record {
  by = d * 256;
  some = omega arith;
  small = omega arith;
  sum = omega (arith, total-two (x + d) b back, total-two x b back);
}
greater-byte (a ∷ []) x d back some small = record {
  by = d;
  some = some;
  small = omega arith;
  sum = omega (arith, total-two a (x + d) back, total-two a x back);
}
greater-byte (a ∷ b ∷ front) x d back some small =
    let more = greater-byte front x d back some small in
    record {
      by = more.by;
      some = more.some;
      small = more.small;
      sum = omega (
        arith,
        more.sum,
        total-two a b (front ++ (x + d) ∷ back),
        total-two a b (front ++ x ∷ back),
      );
    }

pub checksums-differ : (more less : ℕ) → 0 < less → Adds more less → 65535 - ones_of more ≡ 65535 - ones_of less → ⊥
checksums-differ more less some adds same =
    omega (arith, adds.some, adds.small, adds.sum, ones-positive less some, ones-positive more (omega (arith, adds.sum)))

-- The field is taken as zero, wherever another byte is

pub record Around (front back : List ℕ) : Type 0 where
  pub before : List ℕ
  pub after : List ℕ
  pub is : (x : ℕ) → without_checksum (front ++ x ∷ back) ≡ before ++ x ∷ after

pub around : (front back : List ℕ) (x : ℕ) → 8 ≤ length (front ++ x ∷ back) → length front ≢ 2 → length front ≢ 3 →
    Around front back
around [] [] x long a b = absurd (omega arith)
around [] (p ∷ []) x long a b = absurd (omega arith)
around [] (p ∷ q ∷ []) x long a b = absurd (omega arith)
around [] (p ∷ q ∷ r ∷ back) x long a b = record { before = []; after = p ∷ 0 ∷ 0 ∷ back; is = λ y. refl }
around (p ∷ []) [] x long a b = absurd (omega arith)
around (p ∷ []) (q ∷ []) x long a b = absurd (omega arith)
around (p ∷ []) (q ∷ r ∷ back) x long a b = record { before = p ∷ []; after = 0 ∷ 0 ∷ back; is = λ y. refl }
around (p ∷ q ∷ []) back x long a b = absurd (a refl)
around (p ∷ q ∷ r ∷ []) back x long a b = absurd (b refl)
around (p ∷ q ∷ r ∷ s ∷ front) back x long a b =
    record { before = p ∷ q ∷ 0 ∷ 0 ∷ front; after = back; is = λ y. refl }

-- the field stays
field-same : (front back : List ℕ) (x y : ℕ) → length front ≢ 2 → length front ≢ 3 →
    8 ≤ length (front ++ x ∷ back) → number_at 2 2 (front ++ x ∷ back) ≡ number_at 2 2 (front ++ y ∷ back)
field-same [] back x y a b long = refl
field-same (p ∷ []) back x y a b long = refl
field-same (p ∷ q ∷ []) back x y a b long = absurd (a refl)
field-same (p ∷ q ∷ r ∷ []) back x y a b long = absurd (b refl)
field-same (p ∷ q ∷ r ∷ s ∷ front) back x y a b long = refl

-- a message of version 1 has a sum that isn't 0
first-counts : (a b : ℕ) (bytes : List ℕ) → a / 16 ≡ 1 → 0 < total (a ∷ b ∷ bytes)
first-counts a b bytes version = omega (arith, total-two a b bytes)

positive : (bytes : List ℕ) (kind : ℕ) → HasHeader bytes kind → 0 < total (without_checksum bytes)
positive [] kind header = (let long = header.long in absurd (omega arith))
positive (a ∷ []) kind header = (let long = header.long in absurd (omega arith))
positive (a ∷ b ∷ bytes) kind header =
    (let version = header.version in first-counts a b (0 ∷ 0 ∷ drop 4 (a ∷ b ∷ bytes)) (omega arith))

-- two messages with one checksum that was sent, of which one byte differs
pub never-both : (front back : List ℕ) (x d : ℕ) (kind other : ℕ) → 0 < d → d < 256 → length front ≢ 2 →
    length front ≢ 3 → HasHeader (front ++ x ∷ back) kind → HasHeader (front ++ (x + d) ∷ back) other →
    number_at 2 2 (front ++ x ∷ back) ≢ 0 → ⊥
never-both front back x d kind other some small a b first second sent =
    let place = around front back x first.long a b in
    let stays = field-same front back x (x + d) a b first.long in
    let adds = greater-byte place.before x d place.after some small in
    let less : 0 < total (place.before ++ x ∷ place.after) =
    subst (λ bytes. 0 < total bytes) (place.is x) (positive (front ++ x ∷ back) kind first) in
    elim first.checksum [
      | inl none ↦ sent none
      | inr right ↦ elim second.checksum [
        | inl none ↦ sent (stays ∙ none)
        | inr right' ↦ checksums-differ (total (place.before ++ (x + d) ∷ place.after))
            (total (place.before ++ x ∷ place.after)) less adds
            (sym (ap checksum_of (place.is (x + d))) ∙ sym right' ∙ sym stays ∙ right ∙ ap checksum_of (place.is x))
      ]
    ]

-- the greater of two bytes is the other with something added
pub record IsMore (x y : ℕ) : Type 0 where
  pub by : ℕ
  pub some : 0 < by
  pub small : by < 256
  pub is : y ≡ x + by

are-apart : (x y : ℕ) → x < 256 → y < 256 → x ≢ y → IsMore x y ⊎ IsMore y x
are-apart x y low high differ = go (nat_lt x y) refl
  where
    go : (b : Bool) → nat_lt x y ≡ b → IsMore x y ⊎ IsMore y x
    go true h = inl (record { by = y - x; some = grind (arith, h); small = grind (arith, h); is = grind (arith, h) })
    go false h =
        let less : y < x = other (nat_eq x y) refl in
        inr (record { by = x - y; some = omega (arith, less); small = omega (arith, low); is = omega (arith, less) })
      where
        other : (b : Bool) → nat_eq x y ≡ b → y < x
        other true e = absurd (differ (grind (arith, e)))
        other false e = grind (arith, h, e)

pub byte-refused : ByteChangesAreRefused
byte-refused was now p (os, spelled) sent is q (os', spelled') =
    elim (are-apart is.from is.to is.byte is.other_byte is.differ) [
      | inl more ↦ never-both is.front is.back is.from more.by (type_of p.body) (type_of q.body) more.some more.small
          is.not_first is.not_second header (subst (Has (type_of q.body)) more.is header') sent_here
      | inr less ↦ never-both is.front is.back is.to less.by (type_of q.body) (type_of p.body) less.some less.small
          is.not_first is.not_second header' (subst (Has (type_of p.body)) less.is header)
          (λ none. sent_here (field-same is.front is.back is.from is.to is.not_first is.not_second header.long ∙ none))
    ]
  where
    Has : ℕ → ℕ → Type 0
    Has kind x = HasHeader (is.front ++ x ∷ is.back) kind

    header : Has (type_of p.body) is.from
    header = subst (λ bytes. HasHeader bytes (type_of p.body)) is.was_is spelled.header

    header' : Has (type_of q.body) is.to
    header' = subst (λ bytes. HasHeader bytes (type_of q.body)) is.now_is spelled'.header

    sent_here : number_at 2 2 (is.front ++ is.from ∷ is.back) ≢ 0
    sent_here = subst (λ bytes. number_at 2 2 bytes ≢ 0) is.was_is sent

-- a bit is something
some-power : (bit : ℕ) → 0 < 2 ^ bit
some-power zero = omega arith
some-power (suc bit) = let less : 0 < 2 ^ bit = some-power bit in omega (arith, less)

bits-differ : (x y : ℕ) → DifferInBit x y → x ≢ y
bits-differ x y (bit, small, inl more) same = omega (arith, some-power bit, more, same)
bits-differ x y (bit, small, inr less) same = omega (arith, some-power bit, less, same)

pub bit-refused : BitChangesAreRefused
bit-refused was now p spelled sent is =
    byte-refused was now p spelled sent (record {
      front = is.front;
      back = is.back;
      from = is.from;
      to = is.to;
      was_is = is.was_is;
      now_is = is.now_is;
      byte = is.byte;
      other_byte = is.other_byte;
      differ = bits-differ is.from is.to is.bit;
      not_first = is.not_first;
      not_second = is.not_second;
    })
