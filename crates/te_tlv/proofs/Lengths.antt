-- How long the written form is.
use Rattle.std.proofs.{Common.{◌≡◌, ◌≤◌, ℕ, ◌+◌, ◌-◌, ◌*◌, ◌==◌, false, List, [], ◌∷◌, ◌++◌, length, ap, sym, ◌∙◌, arith, length-append, append_assoc, replicate, take}, Math.Seq.take-length, lemmas.List.{append-nil, length-replicate}}
use Rattle.std.specs.List.{flat_map}
use Rattle.ason_base.specs.{declared.limits.TheConstants.MOST_SRLGS, declared.ids.NodeId.NodeId, declared.network.TeRow.TeRow}
use Rattle.byteorder.specs.Endian.{big_bytes}
use Rattle.wire_buf.specs.Tlvs.{padded}
use Rattle.wire_buf.proofs.Numbers.{numbers-length}
use Rattle.te_tlv.specs.Written.{sub_tlv, srlgs_tlv, link_body, peer_of}
use Rattle.ason_base.proofs.Numbers.{equal-above_zero}

padded_least : (n : ℕ) → n ≤ padded n
padded_least n = omega arith

pub length-sub_tlv : (kind : ℕ) (value : List ℕ) → length (sub_tlv kind value) ≡ 4 + padded (length value)
unfolding sub_tlv
length-sub_tlv kind value =
    let least : length value ≤ padded (length value) = padded_least (length value) in
    let zeros : length {A = ℕ} (replicate (padded (length value) - length value) 0) ≡ padded (length value)
    - length value = length-replicate (padded (length value) - length value) 0 in
    let rest : length (value ++ replicate (padded (length value) - length value) 0) ≡ length value + length
    (replicate (padded (length value) - length value) 0) =
    length-append value (replicate (padded (length value) - length value) 0) in
    omega (arith, rest, zeros, least)

padded-four : (n : ℕ) → padded (4 * n) ≡ 4 * n
padded-four n = omega arith

pub length-srlgs : (ns : List ℕ) → (length ns == 0) ≡ false → length (srlgs_tlv ns) ≡ 4 + 4 * length ns
length-srlgs [] some = absurd (cc)
length-srlgs (n ∷ ns) some =
    let numbers : length (flat_map (λ m. big_bytes 4 m) (n ∷ ns)) ≡ 4 * length (n ∷ ns) = numbers-length (n ∷ ns) in
    length-sub_tlv 16 (flat_map (λ m. big_bytes 4 m) (n ∷ ns)) ∙ ap (λ (k : ℕ). 4 + padded k) numbers
    ∙ ap (λ (k : ℕ). 4 + k) (padded-four (length (n ∷ ns)))

pub srlgs-most : (ns : List ℕ) → length ns ≤ MOST_SRLGS → length (srlgs_tlv ns) ≤ 4 + 4 * MOST_SRLGS
srlgs-most [] few = omega arith
srlgs-most (n ∷ ns) few = omega (arith, length-srlgs (n ∷ ns) (equal-above_zero (length ns)))

pub length-body : (origin : NodeId) (row : TeRow) → length (link_body origin row) ≡ 36 + length (srlgs_tlv row.srlgs)
length-body origin row =
    simp length-append (omega (
      arith,
      length-sub_tlv 1 (1 ∷ []),
      length-sub_tlv 2 (big_bytes 4 (peer_of origin row)),
      length-sub_tlv 5 (big_bytes 4 row.metric),
      length-sub_tlv 11
          (big_bytes 4 row.link.0 ++ big_bytes 4 row.link.0),
    ))

sub_tlv-whole : (kind : ℕ) (value : List ℕ) → padded (length value) ≡ length value →
    sub_tlv kind value ≡ big_bytes 2 kind ++ big_bytes 2 (length value) ++ value
unfolding sub_tlv
sub_tlv-whole kind value whole =
    let none : padded (length value) - length value ≡ 0 = omega arith in
    rw none (ap (λ (v : List ℕ). (big_bytes 2 kind ++ big_bytes 2 (length value)) ++ v) (append-nil value))

-- the sub-TLV of SRLGs, as it is pushed
pub srlgs_pushed : (old headed new ns : List ℕ) (len : ℕ) → (length ns == 0) ≡ false → len ≡ 4 * length ns →
    headed ≡ old ++ (big_bytes 2 16 ++ big_bytes 2 len) →
    new ≡ headed ++ flat_map (λ n. big_bytes 4 n) ns → new ≡ old ++ srlgs_tlv ns
srlgs_pushed old headed new [] len some is e1 e2 = absurd (cc)
srlgs_pushed old headed new (n ∷ ns) len some is e1 e2 =
    let value : List ℕ = flat_map (λ m. big_bytes 4 m) (n ∷ ns) in
    let numbers : length value ≡ 4 * length (n ∷ ns) = numbers-length (n ∷ ns) in
    let len_is : len ≡ length value = is ∙ sym numbers in
    let whole : padded (length value) ≡ length value = ap padded numbers ∙ padded-four (length (n ∷ ns))
    ∙ sym numbers in
    rw (e2, e1, len_is) (append_assoc old (big_bytes 2 16 ++ big_bytes 2 (length value)) value)
    ∙ ap (λ (l : List ℕ). old ++ l) (sym (sub_tlv-whole 16 value whole))

pub all_pushed : (lens new ns : List ℕ) (i : ℕ) → i ≤ length ns → length ns ≤ i →
    new ≡ lens ++ flat_map (λ n. big_bytes 4 n) (take i ns) → new ≡ lens ++ flat_map (λ n. big_bytes 4 n) ns
all_pushed lens new ns i low high pushed =
    let all : i ≡ length ns = omega arith in
    pushed ∙ ap (λ (ms : List ℕ). lens ++ flat_map (λ n. big_bytes 4 n) ms)
    (ap (λ (k : ℕ). take k ns) all ∙ take-length ns)

joined : (old head fixed srlgs : List ℕ) → (old ++ (head ++ fixed)) ++ srlgs ≡ old ++ (head ++ (fixed ++ srlgs))
joined old head fixed srlgs = simp append_assoc

-- the Link TLV, as it is pushed
pub tlv_pushed : (old headed new fixed srlgs : List ℕ) (len : ℕ) → len ≡ length (fixed ++ srlgs) →
    headed ≡ old ++ (big_bytes 2 2 ++ big_bytes 2 len ++ fixed) → new ≡ headed ++ srlgs →
    new ≡ old ++ (big_bytes 2 2 ++ big_bytes 2 (length (fixed ++ srlgs)) ++ (fixed ++ srlgs))
tlv_pushed old headed new fixed srlgs len is e1 e2 =
    rw (e2, e1, is) (joined old (big_bytes 2 2 ++ big_bytes 2 (length (fixed ++ srlgs))) fixed srlgs)
