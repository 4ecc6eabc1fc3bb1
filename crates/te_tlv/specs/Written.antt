-- The written form of a row: the sub-TLVs in order of type, that of SRLGs only where there are any, padding zero.
use Rattle.std.specs.{Prelude.{◌≡◌, ◌<◌, ◌≤◌, ◌⊎◌, ℕ, ◌-◌, ◌^◌, List, [], ◌∷◌, ◌++◌, length, replicate, All}, List.flat_map, List.Sorted.IsStrictlyIncreasing}
use Rattle.ason_base.specs.{declared.limits.TheConstants.{MOST_METRIC, MOST_SRLGS}, declared.ids.NodeId.NodeId, declared.network.TeRow.TeRow, Network.end_beside}
use Rattle.byteorder.specs.Endian.{big_bytes}
use Rattle.wire_buf.specs.Tlvs.{padded}
use Rattle.te_tlv.specs.{declared.reading.TheConstants.{IDENTIFIERS, LINK_ID, LINK_TYPE, METRIC, POINT_TO_POINT}, declared.srlgs.TheConstants.SRLG, declared.sub_tlvs.TheConstants.LINK}

unfoldable pub sub_tlv : ℕ → List ℕ → List ℕ
sub_tlv kind value =
    big_bytes 2 kind ++ big_bytes 2 (length value) ++ value ++ replicate (padded (length value) - length value) 0

-- the end that isn't the origin
abbrev pub peer_of : NodeId → TeRow → ℕ
peer_of origin row = (end_beside row.low row.high origin).0

abbrev pub srlgs_tlv : List ℕ → List ℕ
srlgs_tlv [] = []
srlgs_tlv (s ∷ ss) = sub_tlv SRLG (flat_map (λ n. big_bytes 4 n) (s ∷ ss))

-- the sub-TLVs that each row has
abbrev pub fixed_body : NodeId → TeRow → List ℕ
fixed_body origin row =
    sub_tlv LINK_TYPE (POINT_TO_POINT ∷ []) ++ sub_tlv LINK_ID (big_bytes 4 (peer_of origin row))
    ++ sub_tlv METRIC (big_bytes 4 row.metric) ++ sub_tlv IDENTIFIERS (big_bytes 4 row.link.0 ++ big_bytes 4 row.link.0)

abbrev pub link_body : NodeId → TeRow → List ℕ
link_body origin row = fixed_body origin row ++ srlgs_tlv row.srlgs

abbrev pub link_tlv : NodeId → TeRow → List ℕ
link_tlv origin row = big_bytes 2 LINK ++ big_bytes 2 (length (link_body origin row)) ++ link_body origin row

-- what has a written form
pub record IsRowWritable (origin : NodeId) (row : TeRow) : Type 0 where
  pub end : (origin ≡ row.low) ⊎ (origin ≡ row.high)
  pub ends : row.low.0 < row.high.0
  pub positive : 1 ≤ row.metric
  pub small : row.metric ≤ MOST_METRIC
  pub few : length row.srlgs ≤ MOST_SRLGS

-- the numbers of a row have 32 bits, and its SRLGs rise, as those of every row of the program do
pub record HasNumbers (row : TeRow) : Type 0 where
  pub link : row.link.0 < 2 ^ 32
  pub high : row.high.0 < 2 ^ 32
  pub srlgs : All (λ n. n < 2 ^ 32) row.srlgs
  pub rising : IsStrictlyIncreasing row.srlgs
