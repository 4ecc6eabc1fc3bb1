-- TLVs of an interface (RFC 3471, section 9.1; RFC 3473, section 8).
use Rattle.std.specs.{Prelude.{◌≡◌, ℕ, List, [], ◌++◌, length, map, Option, None, Some}, List.AllByRecursion}
use Rattle.byteorder.specs.Endian.{big_bytes}
use Rattle.ason_base.specs.{declared.ids.LinkId.LinkId, declared.ids.NodeId.NodeId}
use Rattle.wire_buf.specs.{Objects.number_at, Tlvs.{AreTlvs, TypeValue, values_of}}

-- an IF_INDEX, of type 3, has an address and an interface id
abbrev pub IsIfIndexSized : List ℕ → Type 0
IsIfIndexSized value = length value ≡ 8

abbrev pub link_in : List ℕ → LinkId
link_in value = record { 0 = number_at 4 4 value }

-- The bytes are TLVs, whose length counts its header of four bytes, and their IF_INDEXes have these interface ids, in
-- order.
abbrev pub HasIfIndexes : List ℕ → List LinkId → Type 0
HasIfIndexes bytes links =
    (ts : List TypeValue) × AreTlvs 4 bytes ts × AllByRecursion IsIfIndexSized (values_of 3 ts)
    × (links ≡ map link_in (values_of 3 ts))

-- the written form of an IF_INDEX
abbrev pub if_index_bytes : NodeId → LinkId → List ℕ
if_index_bytes node link = big_bytes 2 3 ++ big_bytes 2 12 ++ big_bytes 4 node.0 ++ big_bytes 4 link.0

abbrev pub if_index_or_none : NodeId → Option LinkId → List ℕ
if_index_or_none node None = []
if_index_or_none node (Some link) = if_index_bytes node link
