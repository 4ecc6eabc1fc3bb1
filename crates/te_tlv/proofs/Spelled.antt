-- What is written of a row spells that row.
use Rattle.std.proofs.{Common.{◌≡◌, ◌≢◌, ◌≤◌, ◌<◌, ◌⊎◌, inl, inr, ℕ, ◌+◌, ◌-◌, ◌*◌, ◌/◌, ◌%◌, ◌^◌, ◌==◌, false, List, [], ◌∷◌, ◌++◌, length, take, min, max, refl, ap, sym, subst, ◌∙◌, arith, length-append, append_assoc, replicate, All, Contains}, Math.Seq.take-append_seam, lemmas.List.{append-nil, drop_at}}
use Rattle.std.specs.{List.flat_map, List.Sorted.IsStrictlyIncreasing}
use Rattle.ason_base.specs.{declared.limits.TheConstants.{MOST_METRIC, MOST_SRLGS}, declared.ids.NodeId.NodeId, declared.network.TeRow.TeRow}
use Rattle.byteorder.specs.{Endian.big_bytes, Numbers.big_number-reads_back}
use Rattle.wire_buf.specs.{Tlvs.{BeginsTlv, TypeValue, padded, values_of}, Objects.numbers}
use Rattle.te_tlv.specs.{SubTlvs.{AreSubTlvs, IsLinkTlv}, Rows.{AreSrlgs, HasFields, HasSrlgs, SpellsRow}, Written.{IsRowWritable, HasNumbers, sub_tlv, srlgs_tlv, peer_of, link_body, link_tlv}}
use Rattle.wire_buf.proofs.Numbers.{numbers-length, numbers_again}
use Rattle.te_tlv.proofs.Lengths.{length-sub_tlv, length-body, srlgs-most}

sub_size : (kind : ℕ) (value rest : List ℕ) → 4 + padded (length value) ≤ length (sub_tlv kind value ++ rest)
sub_size kind value rest = omega (arith, length-append (sub_tlv kind value) rest, length-sub_tlv kind value)

sub_begins : (kind : ℕ) (value rest : List ℕ) → kind < 2 ^ 16 → length value < 2 ^ 16 →
    BeginsTlv 0 (sub_tlv kind value ++ rest) (record { kind = kind; value = value })
unfolding sub_tlv
sub_begins kind value rest small short =
    let pad : List ℕ = replicate (padded (length value) - length value) 0 in
    let alone : length value + 0 ≡ length value = omega arith in
    record {
      size = sub_size kind value rest;
      kind = sym (big_number-reads_back 2 kind (big_bytes 2 (length value) ++ ((value ++ pad) ++ rest)) small);
      len = alone ∙ sym (big_number-reads_back 2 (length value) ((value ++ pad) ++ rest) short);
      value = sym (ap (take (length value)) (append_assoc value pad rest) ∙ take-append_seam value (pad ++ rest));
    }

are_cons : (kind : ℕ) (value rest : List ℕ) (ss : List TypeValue) → kind < 2 ^ 16 → length value < 2 ^ 16 →
    AreSubTlvs rest ss → AreSubTlvs (sub_tlv kind value ++ rest) (record { kind = kind; value = value } ∷ ss)
are_cons kind value rest ss small short are = (
  sub_begins kind value rest small short,
  subst (λ (l : List ℕ). AreSubTlvs l ss)
      (sym (drop_at (sub_tlv kind value) rest (4 + padded (length value)) (length-sub_tlv kind value))) are,
)

value_of : List ℕ → List ℕ
value_of ns = flat_map (λ n. big_bytes 4 n) ns

srlg_subs : List ℕ → List TypeValue
srlg_subs [] = []
srlg_subs (n ∷ ns) = record { kind = 16; value = value_of (n ∷ ns) } ∷ []

row_subs : ℕ → ℕ → ℕ → List ℕ → List TypeValue
row_subs peer metric link ns =
    record {
      kind =
          1;
      value = 1 ∷ [];
    } ∷ record { kind = 2; value = big_bytes 4 peer } ∷ record {
      kind = 5;
      value = big_bytes 4
          metric;
    }
    ∷ record { kind = 11; value = big_bytes 4 link ++ big_bytes 4 link } ∷ srlg_subs ns

are_srlgs : (ns : List ℕ) → length ns ≤ MOST_SRLGS → AreSubTlvs (srlgs_tlv ns) (srlg_subs ns)
unfolding srlg_subs value_of
are_srlgs [] few = refl
are_srlgs (n ∷ ns) few =
    let value : List ℕ = flat_map (λ m. big_bytes 4 m) (n ∷ ns) in
    subst (λ (l : List ℕ). AreSubTlvs l (record { kind = 16; value = value } ∷ [])) (append-nil (sub_tlv 16 value))
    (are_cons 16 value [] [] (omega arith) (omega (arith, numbers-length (n ∷ ns))) refl)

regrouped : (a b c d e : List ℕ) → a ++ (b ++ (c ++ (d ++ e))) ≡ (((a ++ b) ++ c) ++ d) ++ e
regrouped a b c d e = simp append_assoc

are_written : (peer metric link : ℕ) (ns : List ℕ) → length ns ≤ MOST_SRLGS →
    AreSubTlvs (sub_tlv 1 (1 ∷ []) ++ (sub_tlv 2 (big_bytes 4 peer) ++
    (sub_tlv 5 (big_bytes 4 metric) ++ (sub_tlv 11 (big_bytes 4 link ++ big_bytes 4 link) ++ srlgs_tlv ns))))
    (row_subs peer metric link ns)
unfolding row_subs
are_written peer metric link ns few =
    let both : List ℕ = big_bytes 4 link ++ big_bytes 4 link in
    let from_11 : AreSubTlvs (sub_tlv 11 both ++ srlgs_tlv ns) (record { kind = 11; value = both } ∷ srlg_subs ns) =
    are_cons 11 both (srlgs_tlv ns) (srlg_subs ns) (omega arith) (omega arith) (are_srlgs ns few) in
    let from_5 : AreSubTlvs (sub_tlv 5 (big_bytes 4 metric) ++ (sub_tlv 11 both ++ srlgs_tlv ns))
    (record { kind = 5; value = big_bytes 4 metric } ∷ record { kind = 11; value = both } ∷ srlg_subs ns) =
    are_cons 5 (big_bytes 4 metric) (sub_tlv 11 both ++ srlgs_tlv ns) (record {
      kind =
          11;
      value = both;
    } ∷ srlg_subs ns) (omega arith) (omega arith) from_11 in
    are_cons 1 (1 ∷ []) (sub_tlv 2 (big_bytes 4 peer) ++
    (sub_tlv 5 (big_bytes 4 metric) ++ (sub_tlv 11 both ++ srlgs_tlv ns)))
    (record {
      kind =
          2;
      value = big_bytes 4 peer;
    } ∷ record {
      kind = 5;
      value = big_bytes 4
          metric;
    } ∷ record { kind = 11; value = both } ∷ srlg_subs ns) (omega arith) (omega arith)
    (are_cons 2 (big_bytes 4 peer) (sub_tlv 5 (big_bytes 4 metric) ++ (sub_tlv 11 both ++ srlgs_tlv ns))
    (record { kind = 5; value = big_bytes 4 metric } ∷ record { kind = 11; value = both } ∷ srlg_subs ns)
    (omega arith) (omega arith) from_5)

are_body : (origin : NodeId) (row : TeRow) → length row.srlgs ≤ MOST_SRLGS →
    AreSubTlvs (link_body origin row) (row_subs (peer_of origin row) row.metric row.link.0 row.srlgs)
are_body origin row few =
    subst (λ (l : List ℕ). AreSubTlvs l (row_subs (peer_of origin row) row.metric row.link.0 row.srlgs))
    (regrouped (sub_tlv 1 (1 ∷ [])) (sub_tlv 2 (big_bytes 4 (peer_of origin row))) (sub_tlv 5 (big_bytes 4 row.metric))
    (sub_tlv 11 (big_bytes 4 row.link.0 ++ big_bytes 4 row.link.0)) (srlgs_tlv row.srlgs))
    (are_written (peer_of origin row) row.metric row.link.0 row.srlgs few)

headed : (a b c d : ℕ) (body : List ℕ) → 4 + length body ≡ length (a ∷ b ∷ c ∷ d ∷ body)
headed a b c d body = omega arith

tlv_body : (body : List ℕ) (subs : List TypeValue) → length body < 2 ^ 16 → AreSubTlvs body subs →
    IsLinkTlv (big_bytes 2 2 ++ big_bytes 2 (length body) ++ body) subs
tlv_body body subs short are = record {
  kind = refl;
  len =
      ap (λ (n : ℕ). 4 + n) (big_number-reads_back 2 (length body) body short)
      ∙ headed 0 2 (length body / 256 % 256) (length body % 256) body;
  subs_are = are;
}

tlv_written : (origin : NodeId) (row : TeRow) → length row.srlgs ≤ MOST_SRLGS →
    IsLinkTlv (link_tlv origin row) (row_subs (peer_of origin row) row.metric row.link.0 row.srlgs)
tlv_written origin row few =
    tlv_body (link_body origin row) (row_subs (peer_of origin row) row.metric row.link.0 row.srlgs)
    (omega (arith, length-body origin row, srlgs-most row.srlgs few)) (are_body origin row few)

-- The fields.

fourfold : (n : ℕ) → 4 * n % 4 ≡ 0
fourfold n = omega arith

srlgs_written : (ns : List ℕ) → All (λ n. n < 2 ^ 32) ns → IsStrictlyIncreasing ns → length ns ≤ MOST_SRLGS →
    AreSrlgs (value_of ns) ns
unfolding value_of
srlgs_written ns small rising few =
    let back : numbers (value_of ns) ≡ ns = numbers_again ns small in
    record {
      whole = rw (numbers-length ns) (fourfold (length ns));
      rising = rising;
      same = λ n. (subst (λ (ms : List ℕ). Contains ms n) (sym back), subst (λ (ms : List ℕ). Contains ms n) back);
      most = few;
    }

has_srlgs : (peer metric link : ℕ) (ns : List ℕ) → All (λ n. n < 2 ^ 32) ns → IsStrictlyIncreasing ns →
    length ns ≤ MOST_SRLGS →
    HasSrlgs (row_subs peer metric link ns) ns
unfolding row_subs srlg_subs
has_srlgs peer metric link [] small rising few = refl
has_srlgs peer metric link (n ∷ ns) small rising few = srlgs_written (n ∷ ns) small rising few

-- no field but the SRLGs depends on them
values_before : (kind : ℕ) (peer metric link : ℕ) (ns : List ℕ) → (16 == kind) ≡ false →
    values_of kind (row_subs peer metric link ns) ≡ values_of kind (row_subs peer metric link [])
unfolding row_subs srlg_subs
values_before kind peer metric link [] other = refl
values_before kind peer metric link (n ∷ ns) other = rw other refl

has_fields : (origin : NodeId) (peer metric link : ℕ) (ns : List ℕ) → peer < 2 ^ 32 → metric < 2 ^ 32 → link < 2 ^ 32 →
    peer ≢ origin.0 → 1 ≤ metric → metric ≤ MOST_METRIC →
    HasFields origin (row_subs peer metric link ns) peer metric link
unfolding row_subs srlg_subs
has_fields origin peer metric link ns peer_fits metric_fits link_fits other positive small = record {
  point_to_point = values_before 1 peer metric link ns refl;
  has_peer = (
    big_bytes 4 peer,
    values_before 2 peer metric link ns refl,
    (refl, sym (big_number-reads_back 4 peer [] peer_fits)),
    other,
  );
  has_metric = (
    big_bytes 4 metric,
    values_before 5 peer metric link ns refl,
    (refl, sym (big_number-reads_back 4 metric [] metric_fits)),
    positive,
    small,
  );
  has_link = (
    big_bytes 4 link ++ big_bytes 4 link,
    values_before 11 peer metric link ns refl,
    refl,
    sym
        (big_number-reads_back 4 link (big_bytes 4 link) link_fits),
    sym (big_number-reads_back 4 link [] link_fits),
  );
}

row_with : (origin : NodeId) (row : TeRow) → IsRowWritable origin row → HasNumbers row → peer_of origin row < 2 ^ 32 →
    peer_of origin row ≢ origin.0 →
    row.low.0 ≡ min origin.0 (peer_of origin row) → row.high.0 ≡ max origin.0 (peer_of origin row) →
    SpellsRow origin (link_tlv origin row) row
row_with origin row w n fits other low_is high_is =
    let small : row.metric ≤ MOST_METRIC = w.small in
    record {
      subs = row_subs (peer_of origin row) row.metric row.link.0 row.srlgs;
      tlv = tlv_written origin row w.few;
      fields = record {
        peer = peer_of origin row;
        fields =
            has_fields origin (peer_of origin row) row.metric row.link.0 row.srlgs fits (omega arith)
            n.link other w.positive small;
        has_srlgs = has_srlgs (peer_of origin row) row.metric row.link.0 row.srlgs n.srlgs n.rising w.few;
        is =
            λ i. record {
              link = record { 0 = row.link.0 };
              low = record { 0 = low_is i };
              high = record {
                0 = high_is
                    i;
              };
              metric = row.metric;
              srlgs = row.srlgs;
            };
      };
    }

peer_of-low : (origin : NodeId) (row : TeRow) → origin.0 ≡ row.low.0 → peer_of origin row ≡ row.high.0
peer_of-low origin row same = grind arith

peer_of-high : (origin : NodeId) (row : TeRow) → row.low.0 < row.high.0 → origin.0 ≡ row.high.0 →
    peer_of origin row ≡ row.low.0
peer_of-high origin row less same = grind arith

from_low : (origin low high peer : ℕ) → origin ≡ low → low < high → peer ≡ high → (peer ≢ origin)
    × (low ≡ min origin peer) × (high ≡ max origin peer)
from_low origin low high peer here less there = (omega arith, omega arith, omega arith)

from_high : (origin low high peer : ℕ) → origin ≡ high → low < high → peer ≡ low → (peer ≢ origin)
    × (low ≡ min origin peer) × (high ≡ max origin peer)
from_high origin low high peer here less there = (omega arith, omega arith, omega arith)

by_end : (origin : NodeId) (row : TeRow) → IsRowWritable origin row → HasNumbers row → (origin ≡ row.low)
    ⊎ (origin ≡ row.high) → SpellsRow origin (link_tlv origin row) row
by_end origin row w n (inl low) =
    let here : origin.0 ≡ row.low.0 = ap (λ (m : NodeId). m.0) low in
    let peer : peer_of origin row ≡ row.high.0 = peer_of-low origin row here in
    let high : row.high.0 < 2 ^ 32 = n.high in
    let less : row.low.0 < row.high.0 = w.ends in
    let ends = from_low origin.0 row.low.0 row.high.0 (peer_of origin row) here less peer in
    row_with origin row w n (omega arith) ends.0 ends.1 ends.2
by_end origin row w n (inr high) =
    let here : origin.0 ≡ row.high.0 = ap (λ (m : NodeId). m.0) high in
    let less : row.low.0 < row.high.0 = w.ends in
    let peer : peer_of origin row ≡ row.low.0 = peer_of-high origin row less here in
    let fits : row.high.0 < 2 ^ 32 = n.high in
    let ends = from_high origin.0 row.low.0 row.high.0 (peer_of origin row) here less peer in
    row_with origin row w n (omega arith) ends.0 ends.1 ends.2

pub row_spelled : (origin : NodeId) (row : TeRow) → IsRowWritable origin row → HasNumbers row →
    SpellsRow origin (link_tlv origin row) row
row_spelled origin row w n = by_end origin row w n w.end
