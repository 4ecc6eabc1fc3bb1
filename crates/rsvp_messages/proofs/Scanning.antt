-- Reading objects one after the other.
use Rattle.std.proofs.{Common.{◌≡◌, ℕ, ◌≤◌, List, [], ◌∷◌, ◌++◌, length, take, drop, ap, sym, subst, ◌∙◌, arith, length-append, length-drop, All, ◌+◌, ◌*◌, Option, Some, None}, lemmas.List.map-append, lemmas.List.Elements.All-from_recursion}
use Rattle.std.specs.Prelude.{IfSome}
use Rattle.wire_buf.proofs.Sequences.{BeginsOnce, ReadItems, all_within}
use Rattle.wire_buf.proofs.Sequences as items
use Rattle.rsvp_messages.specs.{declared.raw.RawObject.RawObject, Objects.{AreObjects, BeginsWith, Object, size_of}, Headers.HasHeader, Packets.{Spells, SpellsPacket, SpellsTypedPacket, ack_alone}, Seen.{all_seen, seen}}
use Rattle.ason_base.specs.{declared.messages.Packet.Packet, declared.messages.MsgId.MsgId}

pub objects_once : BeginsOnce BeginsWith size_of
objects_once = record { same = same; within = λ bytes o is. (omega arith, is.within) } where
  same : (bytes : List ℕ) (a b : Object) → BeginsWith bytes a → BeginsWith bytes b → a ≡ b
  same bytes a b p q =
      let class : a.class ≡ b.class = p.class ∙ sym q.class in
      let ctype : a.ctype ≡ b.ctype = p.ctype ∙ sym q.ctype in
      let size : size_of a ≡ size_of b = p.size ∙ sym q.size in
      let len : length a.body ≡ length b.body = omega (arith, size) in
      let body : a.body ≡ b.body = p.body ∙ ap (λ (n : ℕ). take n (drop 4 bytes)) len ∙ sym q.body in
      λ i. record { class = class i; ctype = ctype i; body = body i }

pub goes_on : (bytes left after : List ℕ) (raws more : List RawObject) (o : RawObject) → BeginsWith left (seen o) →
    after ≡ drop (size_of (seen o)) left → more ≡ raws ++ o ∷ [] →
    ReadItems BeginsWith size_of bytes left (all_seen raws) → ReadItems BeginsWith size_of bytes after (all_seen more)
goes_on bytes left after raws more o is e pushed so_far =
    subst (ReadItems BeginsWith size_of bytes after) (sym (ap all_seen pushed ∙ map-append seen raws (o ∷ [])))
    (items.goes_on objects_once bytes left after (all_seen raws) (seen o) is e so_far)

-- each object takes four bytes at least
pub few_go_on : (bytes left after : List ℕ) (raws more : List RawObject) (o : RawObject) → BeginsWith left (seen o) →
    after ≡ drop (size_of (seen o)) left → more ≡ raws ++ o ∷ [] → 4 * length raws + length left ≤ length bytes →
    4 * length more + length after ≤ length bytes
few_go_on bytes left after raws more o is e pushed few =
    omega (
      arith,
      ap length pushed,
      length-append raws (o ∷ []),
      ap length e,
      length-drop (size_of (seen o)) left,
      is.within,
    )

-- no object is longer than all
pub all_shorter : (bytes : List ℕ) (raws : List RawObject) → AreObjects bytes (all_seen raws) →
    All (λ o. size_of (seen o) ≤ length bytes) raws
all_shorter bytes raws are =
    All-from_recursion (λ (o : RawObject). size_of (seen o) ≤ length bytes) raws
    (all_within objects_once seen bytes raws (length bytes) are (omega arith))

-- What bytes with this header and these objects spell is spelled by just these objects.
pub spelled_by_these : (bytes : List ℕ) (os : List Object) (kind : ℕ) (p : Packet) → HasHeader bytes kind →
    AreObjects (drop 8 bytes) os → Spells bytes p → SpellsTypedPacket kind os p
spelled_by_these bytes os kind p header are (others, by) = (
  sym by.header.type_is ∙ header.type_is,
  subst (λ l. SpellsPacket l p) (items.same_items objects_once _ _ _ by.objects are) by.packet,
)

-- What an acknowledgement alone is read as is all that the bytes spell.
pub alone_only : (bytes : List ℕ) (o : Object) (found : Option MsgId) → HasHeader bytes 13 →
    AreObjects (drop 8 bytes) (o ∷ []) →
    IfSome found (λ id. (p : Packet) → SpellsTypedPacket 13 (o ∷ []) p → ack_alone id ≡ p) →
    IfSome found (λ id. (p : Packet) → Spells bytes p → ack_alone id ≡ p)
alone_only bytes o None header are only = only
alone_only bytes o (Some id) header are only =
    λ p spells. only p (spelled_by_these bytes (o ∷ []) 13 p header are spells)
