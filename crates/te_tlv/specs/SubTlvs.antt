-- TLVs of traffic engineering (RFC 3630, section 2.3.2), as texts that go to the end of the bytes.
use Rattle.std.specs.Prelude.{◌≡◌, ℕ, ◌+◌, List, length, drop}
use Rattle.wire_buf.specs.{Objects.number_at, Tlvs.{AreTlvs, TypeValue}}
use Rattle.te_tlv.specs.declared.sub_tlvs.TheConstants.{LINK}

-- sub-TLVs one after the other, to the end; their lengths count their values alone
abbrev pub AreSubTlvs : List ℕ → List TypeValue → Type 0
AreSubTlvs bytes subs = AreTlvs 0 bytes subs

-- this holds of the sub-TLVs that the text is, where it is any
abbrev pub OfSubTlvs : List ℕ → (List TypeValue → Type 0) → Type 0
OfSubTlvs bytes P = (subs : List TypeValue) → AreSubTlvs bytes subs → P subs

-- The Link TLV: its type, the length of its sub-TLVs, and these to the end. So its length is a multiple of four.
pub record IsLinkTlv (bytes : List ℕ) (subs : List TypeValue) : Type 0 where
  pub kind : number_at 0 2 bytes ≡ LINK
  pub len : 4 + number_at 2 2 bytes ≡ length bytes
  pub subs_are : AreSubTlvs (drop 4 bytes) subs
