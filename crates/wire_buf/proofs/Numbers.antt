-- Numbers that were written are read as the same numbers.
use Rattle.std.proofs.{Common.{List, [], ◌∷◌, ◌≡◌, ℕ, ◌*◌, ◌<◌, ◌^◌, ◌∙◌, All, length, ap, sym, refl, arith}, lemmas.List.append-nil, lemmas.List.Concat.flat_map-cons, lemmas.List.Elements.{All-head, All-tail}}
use Rattle.std.specs.List.{flat_map}
use Rattle.byteorder.specs.{Endian.{big_number, big_bytes}, Numbers.big_number-reads_back}
use Rattle.wire_buf.specs.Objects.{numbers}

pub number_again : (n x : ℕ) → x < 256 ^ n → big_number n (big_bytes n x) ≡ x
number_again n x fits = ap (big_number n) (sym (append-nil (big_bytes n x))) ∙ big_number-reads_back n x [] fits

pub again_1 : (x : ℕ) → x < 256 → big_number 1 (big_bytes 1 x) ≡ x
again_1 x fits = number_again 1 x fits

pub again_2 : (x : ℕ) → x < 2 ^ 16 → big_number 2 (big_bytes 2 x) ≡ x
again_2 x fits = number_again 2 x fits

pub again_4 : (x : ℕ) → x < 2 ^ 32 → big_number 4 (big_bytes 4 x) ≡ x
again_4 x fits = number_again 4 x fits

pub numbers_again : (ns : List ℕ) → All (λ n. n < 2 ^ 32) ns → numbers (flat_map (big_bytes 4) ns) ≡ ns
numbers_again [] small = refl
numbers_again (n ∷ ns) small =
    let rest : List ℕ = flat_map (big_bytes 4) ns in
    ap numbers (flat_map-cons (big_bytes 4) n ns)
    ∙ ap (λ (k : ℕ). k ∷ numbers rest) (again_4 n (All-head (λ m. m < 2 ^ 32) n ns small))
    ∙ ap (λ (l : List ℕ). n ∷ l) (numbers_again ns (All-tail (λ m. m < 2 ^ 32) n ns small))

pub numbers-length : (ns : List ℕ) → length (flat_map (big_bytes 4) ns) ≡ 4 * length ns
numbers-length [] = refl
numbers-length (n ∷ ns) = omega (arith, numbers-length ns)
