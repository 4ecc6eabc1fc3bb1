-- TLVs: a type of two bytes, a length of two, a value, and padding to a multiple of four bytes. The length counts these
-- four bytes too in RFC 3471, section 9.1, and the value alone in RFC 3630, section 2.3.2.
use Rattle.std.specs.Prelude.{◌≡◌, ◌≤◌, ℕ, ◌+◌, ◌*◌, ◌/◌, ◌==◌, List, length, take, drop, map, filter}
use Rattle.wire_buf.specs.{Objects.number_at, Sequences.AreItems}

-- a TLV's type and value
pub record TypeValue : Type 0 where
  pub kind : ℕ
  pub value : List ℕ

-- the length of a value with its padding, a multiple of four
abbrev pub padded : ℕ → ℕ
padded len = (len + 3) / 4 * 4

-- how many bytes the TLV takes
abbrev pub tlv_size : TypeValue → ℕ
tlv_size t = 4 + padded (length t.value)

-- The bytes begin with this TLV, and it ends among them with its padding, which nothing reads. Its length counts the
-- value and so many bytes more.
pub record BeginsTlv (counted : ℕ) (bytes : List ℕ) (t : TypeValue) : Type 0 where
  pub size : tlv_size t ≤ length bytes
  pub kind : t.kind ≡ number_at 0 2 bytes
  pub len : length t.value + counted ≡ number_at 2 2 bytes
  pub value : t.value ≡ take (length t.value) (drop 4 bytes)

-- TLVs one after the other, to the end
abbrev pub AreTlvs : ℕ → List ℕ → List TypeValue → Type 0
AreTlvs counted bytes ts = AreItems (BeginsTlv counted) tlv_size bytes ts

-- this holds of the TLVs that the bytes are, where they are any
abbrev pub OfTlvs : ℕ → List ℕ → (List TypeValue → Type 0) → Type 0
OfTlvs counted bytes P = (ts : List TypeValue) → AreTlvs counted bytes ts → P ts

-- the values of the TLVs of a type, in order
abbrev pub values_of : ℕ → List TypeValue → List (List ℕ)
values_of kind ts = map (λ t. t.value) (filter (λ t. t.kind == kind) ts)
