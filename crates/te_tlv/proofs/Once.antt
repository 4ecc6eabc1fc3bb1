-- Bytes spell one row at most.
use Rattle.std.proofs.Common.{◌≡◌, ℕ, Option, Ok, Some, None, List, [], ◌∷◌, drop, min, max, refl, ap, sym, subst, ◌∙◌, IfNone}
use Rattle.byteorder.specs.Endian.{big_number}
use Rattle.ason_base.specs.{declared.ids.NodeId.NodeId, declared.network.TeRow.TeRow}
use Rattle.wire_buf.specs.{Codecs.Decodes, Tlvs.{TypeValue, values_of}}
use Rattle.wire_buf.proofs.{Codecs.decodes_some, Sequences.same_items, Tlvs.tlvs_once}
use Rattle.te_tlv.specs.{declared.found.Found.Found, Found.AreFound, SubTlvs.{AreSubTlvs, IsLinkTlv}, Rows.{IsOnly, HasPeer, HasMetric, HasLink, HasSrlgs, SrlgsOf, HasFields, row_between, SpellsRow}}
use Rattle.te_tlv.proofs.Rising.{srlgs_once}

pub no_fields : {X : Type 0} (o : Option X) (origin : NodeId) (f : Found) →
    ((subs : List TypeValue) → AreFound f subs → (peer metric link : ℕ) → HasFields origin subs peer metric link →
    ⊥) →
    IfNone o ((subs : List TypeValue) → AreFound f subs → (peer metric link : ℕ) →
    HasFields origin subs peer metric link → ⊥)
no_fields None origin f none = none
no_fields (Some x) origin f none = tt

value_once : (kind : ℕ) (subs : List TypeValue) (v w : List ℕ) → IsOnly kind subs v → IsOnly kind subs w → v ≡ w
value_once kind subs v w p q = cc

peer_once : (origin : NodeId) (subs : List TypeValue) (a b : ℕ) → HasPeer origin subs a → HasPeer origin subs b → a ≡ b
peer_once origin subs a b p q = p.2.1 ∙ ap (big_number 4) (value_once 2 subs p.0 q.0 p.1 q.1) ∙ sym q.2.1

metric_once : (subs : List TypeValue) (a b : ℕ) → HasMetric subs a → HasMetric subs b → a ≡ b
metric_once subs a b p q = p.2.1 ∙ ap (big_number 4) (value_once 5 subs p.0 q.0 p.1 q.1) ∙ sym q.2.1

link_once : (subs : List TypeValue) (a b : ℕ) → HasLink subs a → HasLink subs b → a ≡ b
link_once subs a b p q = p.3 ∙ ap (big_number 4) (value_once 11 subs p.0 q.0 p.1 q.1) ∙ sym q.3

srlgs_of_once : (values : List (List ℕ)) (s t : List ℕ) → SrlgsOf values s → SrlgsOf values t → s ≡ t
srlgs_of_once [] s t p q = p ∙ sym q
srlgs_of_once (v ∷ []) s t p q = srlgs_once v s t p q
srlgs_of_once (v ∷ w ∷ vs) s t p q = absurd p

pub spelled_once : (origin : NodeId) (bytes : List ℕ) (a b : TeRow) → SpellsRow origin bytes a →
    SpellsRow origin bytes b → a ≡ b
spelled_once origin bytes a b p q =
    let same : q.subs ≡ p.subs = same_items (tlvs_once 0) (drop 4 bytes) q.subs p.subs q.tlv.subs_are p.tlv.subs_are in
    let fields : HasFields origin p.subs q.fields.peer b.metric b.link.0 =
    subst (λ (subs : List TypeValue). HasFields origin subs q.fields.peer b.metric b.link.0) same q.fields.fields in
    let srlgs : HasSrlgs p.subs b.srlgs = subst (λ (subs : List TypeValue). HasSrlgs subs b.srlgs)
    same q.fields.has_srlgs in
    let peer_is : p.fields.peer ≡ q.fields.peer = peer_once origin p.subs p.fields.peer q.fields.peer
    p.fields.fields.has_peer fields.has_peer in
    let metric_is : a.metric ≡ b.metric = metric_once p.subs a.metric b.metric p.fields.fields.has_metric
    fields.has_metric in
    let link_is : a.link.0 ≡ b.link.0 = link_once p.subs a.link.0 b.link.0 p.fields.fields.has_link fields.has_link in
    let srlgs_is : a.srlgs ≡ b.srlgs = srlgs_of_once (values_of 16 p.subs) a.srlgs b.srlgs p.fields.has_srlgs srlgs in
    let between : row_between origin p.fields.peer a.metric a.link.0 a.srlgs ≡ row_between origin q.fields.peer b.metric
    b.link.0 b.srlgs =
    λ i. row_between origin (peer_is i) (metric_is i) (link_is i) (srlgs_is i) in
    p.fields.is ∙ between ∙ sym q.fields.is

-- what was read is what is spelled, and nothing else is
pub row_read : (origin : NodeId) (bytes body : List ℕ) (peer metric link low high : ℕ) (srlgs : List ℕ) →
    ((subs : List TypeValue) → AreSubTlvs body subs → IsLinkTlv bytes subs) →
    (subs : List TypeValue) × AreSubTlvs body subs →
    ((subs : List TypeValue) → AreSubTlvs body subs → HasFields origin subs peer metric link) →
    ((subs : List TypeValue) → AreSubTlvs body subs → HasSrlgs subs srlgs) →
    low ≡ min origin.0 peer → high ≡ max origin.0 peer →
    Decodes (SpellsRow origin bytes) (Ok (record {
      link = record { 0 = link };
      low = record { 0 = low };
      high = record { 0 = high };
      metric = metric;
      srlgs = srlgs;
    }))
row_read origin bytes body peer metric link low high srlgs tlv some fields has_srlgs is_low is_high =
    let row : TeRow = row_between origin peer metric link srlgs in
    let found : SpellsRow origin bytes row = record {
      subs = some.0;
      tlv = tlv some.0 some.1;
      fields = record { peer = peer; fields = fields some.0 some.1; has_srlgs = has_srlgs some.0 some.1; is = refl };
    } in
    rw (is_low, is_high) (decodes_some row found (λ other spelled. spelled_once origin bytes row other found spelled))
