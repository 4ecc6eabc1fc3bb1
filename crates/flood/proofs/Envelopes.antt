-- Envelopes of flood messages.
use Rattle.std.proofs.Common.{◌≡◌, ◌≤◌, ℕ, ◌+◌, ◌*◌, List, [], ◌++◌, length, drop, slice_index, refl, ap, sym, subst, ◌∙◌, append_assoc, arith}
use Rattle.std.specs.Prelude.{Err, IsErrOf}
use Rattle.byteorder.specs.{Endian.{big_bytes, big_number}, Numbers.big_number-reads_back}
use Rattle.ason_base.specs.{declared.ids.NodeId.NodeId, declared.network.TeRow.TeRow}
use Rattle.flood.specs.{declared.messages.FloodMsg.FloodMsg, declared.messages.FloodMsg.TheVariants.{Row, Ack}, Messages.{CanBeWritten, FitsEnvelope, SpellsFlood, flood_bytes}}
use Rattle.te_tlv.specs.{Rows.SpellsRow, Written.link_tlv}
use Rattle.te_tlv.proofs.Spelled.{row_spelled}

first : (n : ℕ) → n * 1 + 0 ≡ n
first n = omega arith

pub row_found : (bytes : List ℕ) (number origin : ℕ) (row : TeRow) → 12 ≤ length bytes → slice_index bytes 0 ≡ 1 →
    number ≡ big_number 4 (drop 4 bytes) → origin ≡ big_number 4 (drop 8 bytes) →
    SpellsRow (record { 0 = origin }) (drop 12 bytes) row → SpellsFlood bytes (Row number (record { 0 = origin }) row)
row_found bytes number origin row long kind is_number is_origin spelled =
    (long, first (slice_index bytes 0) ∙ kind, is_number, is_origin, spelled)

pub row_only : (bytes : List ℕ) (number origin : ℕ) (row : TeRow) → slice_index bytes 0 ≡ 1 →
    number ≡ big_number 4 (drop 4 bytes) → origin ≡ big_number 4 (drop 8 bytes) →
    ((r : TeRow) → SpellsRow (record { 0 = origin }) (drop 12 bytes) r → row ≡ r) → (m : FloodMsg) →
    SpellsFlood bytes m → Row number (record { 0 = origin }) row ≡ m
row_only bytes number origin row kind is_number is_origin only (Ack n) spelled = absurd (omega (arith, spelled.1, kind))
row_only bytes number origin row kind is_number is_origin only (Row n o r) spelled =
    let same_number : number ≡ n = is_number ∙ sym spelled.2 in
    let same_origin : o.0 ≡ origin = spelled.3 ∙ sym is_origin in
    let same_node : o ≡ record { 0 = origin } = λ i. record { 0 = same_origin i } in
    let same_row : row ≡ r = only r (subst (λ (node : NodeId). SpellsRow node (drop 12 bytes) r) same_node spelled.4) in
    λ i. Row (same_number i) (sym same_node i) (same_row i)

pub row_none : (bytes : List ℕ) (origin : ℕ) → slice_index bytes 0 ≡ 1 → origin ≡ big_number 4 (drop 8 bytes) →
    ((r : TeRow) → SpellsRow (record { 0 = origin }) (drop 12 bytes) r → ⊥) →
    (m : FloodMsg) → SpellsFlood bytes m → ⊥
row_none bytes origin kind is_origin none (Ack n) spelled = absurd (omega (arith, spelled.1, kind))
row_none bytes origin kind is_origin none (Row n o r) spelled =
    let same_origin : o.0 ≡ origin = spelled.3 ∙ sym is_origin in
    let same_node : o ≡ record { 0 = origin } = λ i. record { 0 = same_origin i } in
    none r (subst (λ (node : NodeId). SpellsRow node (drop 12 bytes) r) same_node spelled.4)

long_enough : (number origin : ℕ) (rest : List ℕ) →
    12 ≤ length (big_bytes 1 1 ++ big_bytes 3 0 ++ big_bytes 4 number ++ big_bytes 4 origin ++ rest)
long_enough number origin rest = omega arith

pub flood_spelled : (m : FloodMsg) → CanBeWritten m → FitsEnvelope m → SpellsFlood (flood_bytes m) m
flood_spelled (Ack number) can fits = (refl, refl, sym (big_number-reads_back 4 number [] fits))
flood_spelled (Row number origin row) can fits = (
  long_enough number origin.0 (link_tlv origin row),
  refl,
  sym (big_number-reads_back 4 number (big_bytes 4 origin.0 ++ link_tlv origin row) fits.0),
  sym (big_number-reads_back 4 origin.0 (link_tlv origin row) fits.1),
  row_spelled origin row can fits.2,
)

joined : (old a b c : List ℕ) → ((old ++ a) ++ b) ++ c ≡ old ++ ((a ++ b) ++ c)
joined old a b c = simp append_assoc

-- a row's message, as it is pushed
pub row_pushed : (old headed sent new : List ℕ) (number : ℕ) (origin : NodeId) (row : TeRow) →
    headed ≡ old ++ (big_bytes 1 1 ++ big_bytes 3 0 ++ big_bytes 4 number) → sent ≡ headed ++ big_bytes 4 origin.0 →
    new ≡ sent ++ link_tlv origin row → new ≡ old ++ flood_bytes (Row number origin row)
row_pushed old headed sent new number origin row e1 e2 e3 =
    rw (e3, e2, e1) (joined old (big_bytes 1 1 ++ big_bytes 3 0 ++ big_bytes 4 number) (big_bytes 4 origin.0)
    (link_tlv origin row))

-- the same error in results of two types
pub same_error : {T U E : Type 0} (x y : E) → IsErrOf {T = T} (Err x) y → IsErrOf {T = U} (Err x) y
same_error x y h = let same : x ≡ y = cc in ap Err same
