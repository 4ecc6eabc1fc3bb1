-- Bytes that are written one object after the other.
use Rattle.std.proofs.{Common.{◌≡◌, ℕ, ◌+◌, ◌-◌, ◌<◌, Result, Ok, Err, List, [], ◌∷◌, ◌++◌, length, map, take, drop, refl, get_or, ap, sym, subst, ◌∙◌, append_assoc, arith, length-append, OnOk}, Math.Seq.{drop-append_seam, take-append_seam}, lemmas.List.{append-nil, drop_all, map_more, take_all}, lemmas.List.Concat.flat_map-append}
use Rattle.ason_base.specs.{declared.ids.NodeId.NodeId, declared.messages.Msg.Msg, declared.messages.MsgId.MsgId, declared.messages.Packet.Packet}
use Rattle.rsvp_messages.specs.{Objects.Object, Packets.type_of, Written.{ack_object, all_bytes, body_objects, bytes_of, header_bytes, id_objects, message, msg_objects, packet_objects, written}}

pub acks_more : (old so_far new : List ℕ) (acks : List MsgId) (i : ℕ) (d : MsgId) → i < length acks →
    so_far ≡ old ++ all_bytes (map ack_object (take i acks)) → new ≡ so_far ++ bytes_of (ack_object (get_or acks i d)) →
    new ≡ old ++ all_bytes (map ack_object (take (i + 1) acks))
acks_more old so_far new acks i d within e written =
    let one : all_bytes (map ack_object (take (i + 1) acks)) ≡ all_bytes (map ack_object (take i acks)) ++ bytes_of
    (ack_object (get_or acks i d)) =
    ap all_bytes (map_more ack_object acks i d within)
    ∙ flat_map-append bytes_of (map ack_object (take i acks)) (ack_object (get_or acks i d) ∷ [])
    ∙ ap (λ (l : List ℕ). all_bytes (map ack_object (take i acks)) ++ l)
    (append-nil (bytes_of (ack_object (get_or acks i d)))) in
    written ∙ ap (λ (l : List ℕ). l ++ bytes_of (ack_object (get_or acks i d))) e
    ∙ append_assoc old (all_bytes (map ack_object (take i acks))) (bytes_of (ack_object (get_or acks i d)))
    ∙ ap (λ (l : List ℕ). old ++ l) (sym one)

-- two objects, and a last one
pub three : {T E : Type 0} (r : Result T E) (old n1 n2 n3 a b d : List ℕ) → n1 ≡ old ++ a → n2 ≡ n1 ++ b →
    OnOk r (n3 ≡ n2 ++ d) → OnOk r (n3 ≡ old ++ (a ++ (b ++ (d ++ []))))
three (Ok t) old n1 n2 n3 a b d e1 e2 e3 = rw (e3, e2, e1, append-nil d) (simp append_assoc refl)
three (Err e) old n1 n2 n3 a b d e1 e2 e3 = tt

pub as_msg : {T E : Type 0} (r : Result T E) (old new : List ℕ) (sender : NodeId) (m n : Msg) → m ≡ n →
    OnOk r (new ≡ old ++ all_bytes (msg_objects sender n)) → OnOk r (new ≡ old ++ all_bytes (msg_objects sender m))
as_msg r old new sender m n e written =
    subst (λ (x : Msg). OnOk r (new ≡ old ++ all_bytes (msg_objects sender x))) (sym e) written

apart : (xs ys : List Object) → all_bytes (xs ++ ys) ≡ all_bytes xs ++ all_bytes ys
apart xs ys = flat_map-append bytes_of xs ys

-- the pieces of a Path
pub five : {T E : Type 0} (r : Result T E) (old n1 n2 n3 n4 n5 : List ℕ) (a b d e f : List Object) →
    n1 ≡ old ++ all_bytes a → n2 ≡ n1 ++ all_bytes b → n3 ≡ n2 ++ all_bytes d → n4 ≡ n3 ++ all_bytes e →
    OnOk r (n5 ≡ n4 ++ all_bytes f) →
    OnOk r (n5 ≡ old ++ all_bytes (a ++ (b ++ (d ++ (e ++ f)))))
five (Ok t) old n1 n2 n3 n4 n5 a b d e f e1 e2 e3 e4 e5 =
    rw (e5, e4, e3, e2, e1, apart a (b ++ (d ++ (e ++ f))), apart b (d ++ (e ++ f)), apart d (e ++ f), apart e f)
    (simp append_assoc refl)
five (Err x) old n1 n2 n3 n4 n5 a b d e f e1 e2 e3 e4 e5 = tt

-- the pieces of a packet, behind what was there
pub packet_bytes : (old head n1 n2 n3 n4 : List ℕ) (sender : NodeId) (parts p : Packet) → parts ≡ p → n1 ≡ old ++ head →
    n2 ≡ n1 ++ all_bytes (id_objects parts.id) → n3 ≡ n2 ++ all_bytes (map ack_object parts.acks) →
    n4 ≡ n3 ++ all_bytes (body_objects sender parts.body) → n4 ≡ old ++ (head ++ all_bytes (packet_objects sender p))
packet_bytes old head n1 n2 n3 n4 sender parts p make e1 e2 e3 e4 =
    let acks = map ack_object parts.acks in
    let body = body_objects sender parts.body in
    subst (λ (q : Packet). n4 ≡ old ++ (head ++ all_bytes (packet_objects sender q))) make
    (rw (e4, e3, e2, e1, apart (id_objects parts.id) (acks ++ body), apart acks body) (simp append_assoc refl))

-- what stands behind the bytes that were there
behind : (bytes old tail : List ℕ) (start : ℕ) → bytes ≡ old ++ tail → start ≡ length old → drop start bytes ≡ tail
behind bytes old tail start e is =
    ap (λ (n : ℕ). drop n bytes) is ∙ ap (λ (l : List ℕ). drop (length old) l) e ∙ drop-append_seam old tail

pub tail_of : (bytes old tail : List ℕ) (start : ℕ) → bytes ≡ old ++ tail → start ≡ length old →
    take (length bytes - start) (drop start bytes) ≡ tail
tail_of bytes old tail start e is =
    ap (λ (l : List ℕ). take (length bytes - start) l) (behind bytes old tail start e is)
    ∙ take_all (length bytes - start) tail (omega (arith, is, ap length e, length-append old tail))

-- and with other bytes in its place
pub put_back : (bytes old tail new : List ℕ) (start : ℕ) → bytes ≡ old ++ tail → start ≡ length old →
    take start bytes ++ (new ++ drop (length bytes - start) (drop start bytes)) ≡ old ++ new
put_back bytes old tail new start e is =
    let front : take start bytes ≡ old =
    ap (λ (n : ℕ). take n bytes) is ∙ ap (λ (l : List ℕ). take (length old) l) e ∙ take-append_seam old tail in
    let rest : drop (length bytes - start) (drop start bytes) ≡ [] =
    ap (λ (l : List ℕ). drop (length bytes - start) l) (behind bytes old tail start e is)
    ∙ drop_all (length bytes - start) tail (omega (arith, is, ap length e, length-append old tail)) in
    rw (front, rest) (ap (λ (l : List ℕ). old ++ l) (append-nil new))

-- what is written once it is sealed
pub sealed : (v new : List ℕ) (kind : ℕ) (sender : NodeId) (p : Packet) →
    v ≡ header_bytes kind 0 0 ++ all_bytes (packet_objects sender p) →
    ((k : ℕ) (body : List ℕ) → v ≡ header_bytes k 0 0 ++ body → new ≡ message k body) → kind ≡ type_of p.body →
    new ≡ written sender p
sealed v new kind sender p e is same =
    is kind (all_bytes (packet_objects sender p)) e ∙ ap (λ (k : ℕ). message k (all_bytes (packet_objects sender p)))
    same
