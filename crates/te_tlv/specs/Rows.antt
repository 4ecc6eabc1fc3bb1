-- The row of a link that a Link TLV spells (RFC 3630, section 2.5; RFC 4203, section 1).
use Rattle.std.specs.{Prelude.{◌≡◌, ◌≢◌, ◌≤◌, ◌↔◌, ℕ, ◌%◌, min, max, List, [], ◌∷◌, length, drop, Contains}, List.Sorted.IsStrictlyIncreasing}
use Rattle.ason_base.specs.{declared.limits.TheConstants.{MOST_METRIC, MOST_SRLGS}, declared.ids.NodeId.NodeId, declared.network.TeRow.TeRow}
use Rattle.byteorder.specs.Endian.{big_number}
use Rattle.wire_buf.specs.{Objects.numbers, Tlvs.{TypeValue, values_of}}
use Rattle.te_tlv.specs.{declared.reading.TheConstants.{IDENTIFIERS, LINK_ID, LINK_TYPE, METRIC, POINT_TO_POINT}, declared.srlgs.TheConstants.SRLG, SubTlvs.IsLinkTlv}

-- There is just one sub-TLV of this type, and this is its value.
abbrev pub IsOnly : ℕ → List TypeValue → List ℕ → Type 0
IsOnly kind subs value = values_of kind subs ≡ value ∷ []

-- a value of four bytes
abbrev pub IsNumber : List ℕ → ℕ → Type 0
IsNumber value n = (length value ≡ 4) × (n ≡ big_number 4 value)

-- link type: point-to-point
abbrev pub IsPointToPoint : List TypeValue → Type 0
IsPointToPoint subs = IsOnly LINK_TYPE subs (POINT_TO_POINT ∷ [])

-- link id: the node at the other end
abbrev pub HasPeer : NodeId → List TypeValue → ℕ → Type 0
HasPeer origin subs peer = (value : List ℕ) × IsOnly LINK_ID subs value × IsNumber value peer × (peer ≢ origin.0)

-- traffic engineering metric
abbrev pub HasMetric : List TypeValue → ℕ → Type 0
HasMetric subs metric =
    (value : List ℕ) × IsOnly METRIC subs value × IsNumber value metric × (1 ≤ metric) × (metric ≤ MOST_METRIC)

-- local and remote identifiers, both the link's number
abbrev pub HasLink : List TypeValue → ℕ → Type 0
HasLink subs link =
    (value : List ℕ) × IsOnly IDENTIFIERS subs value × (length value ≡ 8) × (link ≡ big_number 4 value)
    × (link ≡ big_number 4 (drop 4 value))

-- The SRLGs of a value: the same numbers, each once, rising. There are at most 16.
pub record AreSrlgs (value : List ℕ) (srlgs : List ℕ) : Type 0 where
  pub whole : length value % 4 ≡ 0
  pub rising : IsStrictlyIncreasing srlgs
  pub same : (n : ℕ) → Contains srlgs n ↔ Contains (numbers value) n
  pub most : length srlgs ≤ MOST_SRLGS

-- without a sub-TLV of SRLGs there are none
abbrev pub SrlgsOf : List (List ℕ) → List ℕ → Type 0
SrlgsOf [] srlgs = srlgs ≡ []
SrlgsOf (value ∷ []) srlgs = AreSrlgs value srlgs
SrlgsOf (value ∷ again ∷ others) srlgs = ⊥

abbrev pub HasSrlgs : List TypeValue → List ℕ → Type 0
HasSrlgs subs srlgs = SrlgsOf (values_of SRLG subs) srlgs

-- What each row has, beside its SRLGs: the other end, the metric and the link's number.
pub record HasFields (origin : NodeId) (subs : List TypeValue) (peer metric link : ℕ) : Type 0 where
  pub point_to_point : IsPointToPoint subs
  pub has_peer : HasPeer origin subs peer
  pub has_metric : HasMetric subs metric
  pub has_link : HasLink subs link

-- the row between these two ends
abbrev pub row_between : NodeId → ℕ → ℕ → ℕ → List ℕ → TeRow
row_between origin peer metric link srlgs = record {
  link = record { 0 = link };
  low = record { 0 = min origin.0 peer };
  high = record { 0 = max origin.0 peer };
  metric = metric;
  srlgs = srlgs;
}

-- The row that sub-TLVs of this origin spell, in any order; other types are skipped.
pub record IsRow (origin : NodeId) (subs : List TypeValue) (row : TeRow) : Type 0 where
  pub peer : ℕ
  pub fields : HasFields origin subs peer row.metric row.link.0
  pub has_srlgs : HasSrlgs subs row.srlgs
  pub is : row ≡ row_between origin peer row.metric row.link.0 row.srlgs

-- the bytes from this origin spell this row
pub record SpellsRow (origin : NodeId) (bytes : List ℕ) (row : TeRow) : Type 0 where
  pub subs : List TypeValue
  pub tlv : IsLinkTlv bytes subs
  pub fields : IsRow origin subs row
