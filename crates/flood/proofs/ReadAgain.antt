-- What bytes spell of a flood has a written form.
use Rattle.std.proofs.Common.{◌≡◌, ◌≢◌, ◌≤◌, ◌<◌, ◌⊎◌, inl, inr, ℕ, min, max, List, [], ◌∷◌, length, drop, sym, ap, subst, arith}
use Rattle.ason_base.specs.{declared.limits.TheConstants.MOST_SRLGS, declared.ids.NodeId.NodeId, declared.network.TeRow.TeRow}
use Rattle.flood.specs.{declared.messages.FloodMsg.TheVariants.{Row, Ack}, Messages.ReadFloodIsWritable}
use Rattle.te_tlv.specs.{Rows.{SpellsRow, SrlgsOf, row_between}, Written.IsRowWritable}

few_srlgs : (values : List (List ℕ)) (srlgs : List ℕ) → SrlgsOf values srlgs → length srlgs ≤ MOST_SRLGS
few_srlgs [] srlgs none = let count : length srlgs ≡ 0 = ap length none in omega arith
few_srlgs (value ∷ []) srlgs are = are.most
few_srlgs (value ∷ again ∷ others) srlgs never = absurd never

node_is : (n : NodeId) (k : ℕ) → n.0 ≡ k → n ≡ record { 0 = k }
node_is n k e = λ i. record { 0 = e i }

one_end : (origin : NodeId) (peer : ℕ) → (min origin.0 peer ≡ origin.0) ⊎ (max origin.0 peer ≡ origin.0)
one_end origin peer = grind arith

ends_differ : (a b : ℕ) → b ≢ a → min a b < max a b
ends_differ a b apart = grind arith

row_writable : (origin : NodeId) (bytes : List ℕ) (row : TeRow) → SpellsRow origin bytes row → IsRowWritable origin row
row_writable origin bytes row spelled = record {
  end = subst (λ (r : TeRow). (origin ≡ r.low) ⊎ (origin ≡ r.high)) (sym is) (ends (one_end origin peer));
  ends = subst (λ (r : TeRow). r.low.0 < r.high.0) (sym is)
      (ends_differ origin.0 peer spelled.fields.fields.has_peer.3);
  positive = spelled.fields.fields.has_metric.3;
  small = spelled.fields.fields.has_metric.4;
  few = few_srlgs _ row.srlgs spelled.fields.has_srlgs;
}
  where
    peer : ℕ
    peer = spelled.fields.peer

    between : TeRow
    between = row_between origin peer row.metric row.link.0 row.srlgs

    is : row ≡ between
    is = spelled.fields.is

    ends : (min origin.0 peer ≡ origin.0) ⊎ (max origin.0 peer ≡ origin.0) →
        (origin ≡ between.low) ⊎ (origin ≡ between.high)
    ends (inl low) = inl (node_is origin (min origin.0 peer) (sym low))
    ends (inr high) = inr (node_is origin (max origin.0 peer) (sym high))

pub read_is_writable : ReadFloodIsWritable
read_is_writable bytes (Ack number) spelled = tt
read_is_writable bytes (Row number origin row) spelled = row_writable origin (drop 12 bytes) row spelled.4
