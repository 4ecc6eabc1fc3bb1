-- The written form of a packet spells it.
use Rattle.std.proofs.{Common.{◌≡◌, ◌≢◌, ◌≤◌, ◌<◌, ℕ, ◌+◌, ◌*◌, ◌%◌, ◌^◌, ◌==◌, true, false, Option, None, Some, List, [], ◌∷◌, ◌++◌, length, map, All, refl, ap, sym, subst, ◌∙◌, arith, IfSome}, lemmas.List.append-nil, lemmas.List.Elements.{All-head, All-tail}}
use Rattle.std.specs.{List.AllByRecursion, Prelude.IsTrue}
use Rattle.ason_base.specs.{declared.limits.TheConstants.MOST_STEPS, declared.ids.Lsp.Lsp, declared.ids.NodeId.NodeId, declared.messages.Msg.Msg, declared.messages.Msg.TheVariants.{Path, Resv, PathTear, PathErr, Notify}, declared.messages.MsgId.MsgId, declared.messages.Packet.Packet, declared.messages.PathRole.PathRole, declared.messages.PathRole.TheVariants.{Work, Back}, declared.steps.Step.Step, Writable.{IsWritableMsg, IsWritableRole}}
use Rattle.wire_buf.specs.Routes.{route_bytes}
use Rattle.wire_buf.proofs.Steps.{route_bytes-length}
use Rattle.rsvp_objects.specs.{Bodies.{IsMsgId, msg_id_bytes}, LabelSets.label_set_bytes}
use Rattle.rsvp_messages.specs.{Objects.{Object, may_stand, of_class}, Packets.{HasAcks, Spells, SpellsBody, type_of}, Parts.{AreEach, HasAtMostOne}, Writable.{PacketFits, FitsId, FitsMsg, IsShort, IsWritable, IsWritableBody}, Written.{ack_object, all_bytes, body_objects, id_objects, made, msg_objects, packet_objects, path_end, request_objects, role_objects, route_objects, written}}
use Rattle.rsvp_messages.proofs.{Lengths.{packet-few, set-few, set-length}, Moves.{SameOthers, move_msg}, Spelled.{ComeBack, apart, msg_again, plain}, Whole.{IsWholeObject, header_again, objects_again}}

-- each object that is written is whole

both : (xs ys : List Object) → AllByRecursion IsWholeObject xs → AllByRecursion IsWholeObject ys →
    AllByRecursion IsWholeObject (xs ++ ys)
both [] ys a b = b
both (x ∷ xs) ys a b = (a.0, both xs ys a.1 b)

fourfold : (n : ℕ) → (4 + 12 * n) % 4 ≡ 0
fourfold n = omega arith

whole_route : (class : ℕ) (steps : List Step) → length steps ≤ MOST_STEPS → class < 2 ^ 8 → IsTrue (may_stand class) →
    IsWholeObject (made class 1 (route_bytes steps))
whole_route class steps few small stands = record {
  short = omega (arith, route_bytes-length steps);
  whole = ap (λ (n : ℕ). (4 + n) % 4) (route_bytes-length steps) ∙ fourfold (length steps);
  class = small;
  ctype = omega arith;
  stands = stands;
}

whole_set : (set : List ℕ) → IsWholeObject (made 36 1 (label_set_bytes (record { include = true; labels = set })))
whole_set set = record {
  short = omega (arith, set-length set, set-few set);
  whole = let n = set-length set in omega (arith, n);
  class = omega arith;
  ctype = omega arith;
  stands = refl;
}

routes : (steps : List Step) → length steps ≤ MOST_STEPS → AllByRecursion IsWholeObject (route_objects steps)
routes [] few = tt
routes (s ∷ ss) few = (whole_route 20 (s ∷ ss) few (omega arith) refl, tt)

fixed : (class ctype n : ℕ) (body : List ℕ) → length body ≡ n → n < 100 → (4 + n) % 4 ≡ 0 → class < 2 ^ 8 →
    ctype < 2 ^ 8 → IsTrue (may_stand class) → IsWholeObject (made class ctype body)
fixed class ctype n body is small four a b stands =
    record {
      short = omega (arith, is);
      whole = ap (λ (k : ℕ). (4 + k) % 4) is
          ∙ four;
      class = a;
      ctype = b;
      stands = stands;
    }

roles : (lsp : Lsp) (role : PathRole) → IsWritableRole role → AllByRecursion IsWholeObject (role_objects lsp role)
roles lsp (Work guard) w = tt
roles lsp (Back active work primary) w = (
  fixed 199 1 8 _ refl (omega arith) refl (omega arith) (omega arith) refl,
  (whole_route 38 primary w.1 (omega arith) refl, tt),
)

ends : (lsp : Lsp) (upstream : Option ℕ) → AllByRecursion IsWholeObject (path_end lsp upstream)
ends lsp None = (
  fixed 11 7 8 _ refl (omega arith) refl (omega arith) (omega arith) refl,
  (fixed 12 2 32 _ refl (omega arith) refl (omega arith) (omega arith) refl, tt),
)
ends lsp (Some label) = (
  fixed 11 7 8 _ refl (omega arith) refl (omega arith) (omega arith) refl,
  (
    fixed 12 2 32 _ refl (omega arith) refl (omega arith) (omega arith) refl,
    (fixed 35 2 4 _ refl (omega arith) refl (omega arith) (omega arith) refl, tt),
  ),
)

session_whole : (body : List ℕ) → length body ≡ 12 → IsWholeObject (made 1 7 body)
session_whole body e = fixed 1 7 12 body e (omega arith) refl (omega arith) (omega arith) refl

hop_whole : (body : List ℕ) → length body ≡ 20 → IsWholeObject (made 3 3 body)
hop_whole body e = fixed 3 3 20 body e (omega arith) refl (omega arith) (omega arith) refl

sender_whole : (class : ℕ) (body : List ℕ) → length body ≡ 8 → class < 2 ^ 8 → IsTrue (may_stand class) →
    IsWholeObject (made class 7 body)
sender_whole class body e small stands = fixed class 7 8 body e (omega arith) refl small (omega arith) stands

times_whole : (body : List ℕ) → length body ≡ 4 → IsWholeObject (made 5 1 body)
times_whole body e = fixed 5 1 4 body e (omega arith) refl (omega arith) (omega arith) refl

msg_whole : (sender : NodeId) (m : Msg) → IsWritableMsg m → AllByRecursion IsWholeObject (msg_objects sender m)
msg_whole sender (Path l e k route set u role) w = (
  session_whole _ refl,
  (
    hop_whole _ refl,
    (
      times_whole _ refl,
      both (route_objects route) (request_objects set role ++ (role_objects l role ++ path_end l u))
          (routes route w.1) (
            fixed 19 4 4 _ refl (omega arith) refl (omega arith) (omega arith) refl,
            (
              fixed 37 2 8 _ refl (omega arith) refl (omega arith) (omega arith) refl,
              (whole_set set, both (role_objects l role) (path_end l u) (roles l role w.2) (ends l u)),
            ),
          ),
    ),
  ),
)
msg_whole sender (Resv l e k x) w = (
  session_whole _ refl,
  (
    hop_whole _ refl,
    (
      times_whole _ refl,
      (
        fixed 8 1 4 _ refl (omega arith) refl (omega arith) (omega arith) refl,
        (
          fixed 9 2 32 _ refl (omega arith) refl (omega arith) (omega arith) refl,
          (
            sender_whole 10 _ refl (omega arith) refl,
            (fixed 16 2 4 _ refl (omega arith) refl (omega arith) (omega arith) refl, tt),
          ),
        ),
      ),
    ),
  ),
)
msg_whole sender (PathTear l e k) w =
    (session_whole _ refl, (hop_whole _ refl, (sender_whole 11 _ refl (omega arith) refl, tt)))
msg_whole sender (PathErr l e n b x) w = (
  session_whole _ refl,
  (
    fixed 6 3 8 _ refl (omega arith) refl (omega arith) (omega arith) refl,
    (sender_whole 11 _ refl (omega arith) refl, tt),
  ),
)
msg_whole sender (Notify l e n k x) w = (
  fixed 6 3 20 _ refl (omega arith) refl (omega arith) (omega arith) refl,
  (session_whole _ refl, (sender_whole 11 _ refl (omega arith) refl, tt)),
)

id_whole : (id : Option MsgId) → AllByRecursion IsWholeObject (id_objects id)
id_whole None = tt
id_whole (Some m) = (fixed 23 1 8 _ refl (omega arith) refl (omega arith) (omega arith) refl, tt)

acks_whole : (acks : List MsgId) → AllByRecursion IsWholeObject (map ack_object acks)
acks_whole [] = tt
acks_whole (a ∷ acks) = (fixed 24 1 8 _ refl (omega arith) refl (omega arith) (omega arith) refl, acks_whole acks)

body_whole : (sender : NodeId) (id : Option MsgId) (acks : List MsgId) (body : Option Msg) →
    IsWritableBody id acks body → AllByRecursion IsWholeObject (body_objects sender body)
body_whole sender id acks None w = tt
body_whole sender id acks (Some m) w = msg_whole sender m w

packet_whole : (sender : NodeId) (p : Packet) → IsWritable p → AllByRecursion IsWholeObject (packet_objects sender p)
packet_whole sender p w =
    both (id_objects p.id) (map ack_object p.acks ++ body_objects sender p.body) (id_whole p.id)
    (both (map ack_object p.acks) (body_objects sender p.body) (acks_whole p.acks)
    (body_whole sender p.id p.acks p.body w.body))

-- the objects of each class

test_other : (a b : ℕ) → a ≢ b → (b == a) ≡ false
test_other a b ne = grind arith

no_id : (class : ℕ) (id : Option MsgId) → (23 == class) ≡ false → of_class class (id_objects id) ≡ []
no_id class None other = refl
no_id class (Some m) other = rw other refl

no_acks : (class : ℕ) (acks : List MsgId) → (24 == class) ≡ false → of_class class (map ack_object acks) ≡ []
no_acks class [] other = refl
no_acks class (a ∷ acks) other = rw other (no_acks class acks other)

just_acks : (acks : List MsgId) → of_class 24 (map ack_object acks) ≡ map ack_object acks
just_acks [] = refl
just_acks (a ∷ acks) = ap (λ (os : List Object). ack_object a ∷ os) (just_acks acks)

no_numbers : (class : ℕ) (sender : NodeId) (m : Msg) → (class ≡ 23) → of_class class (msg_objects sender m) ≡ []
no_numbers class sender m e = rw e (numberless sender m) where
  numberless : (sender : NodeId) (m : Msg) → of_class 23 (msg_objects sender m) ≡ []
  numberless sender (Path l n k route set u role) = plain 23 l route set u role refl refl refl refl
  numberless sender (Resv l n k x) = refl
  numberless sender (PathTear l n k) = refl
  numberless sender (PathErr l n a b x) = refl
  numberless sender (Notify l n a k x) = refl

no_more_acks : (sender : NodeId) (body : Option Msg) → of_class 24 (body_objects sender body) ≡ []
no_more_acks sender None = refl
no_more_acks sender (Some (Path l n k route set u role)) = plain 24 l route set u role refl refl refl refl
no_more_acks sender (Some (Resv l n k x)) = refl
no_more_acks sender (Some (PathTear l n k)) = refl
no_more_acks sender (Some (PathErr l n a b x)) = refl
no_more_acks sender (Some (Notify l n a k x)) = refl

three : (class : ℕ) (a b d : List Object) → of_class class (a ++ (b ++ d)) ≡ of_class class a ++
    (of_class class b ++ of_class class d)
three class a b d = apart class a (b ++ d) ∙ ap (λ (l : List Object). of_class class a ++ l) (apart class b d)

others : (id : Option MsgId) (acks : List MsgId) (os : List Object) →
    SameOthers os (id_objects id ++ (map ack_object acks ++ os))
others id acks os class a b =
    sym (three class (id_objects id) (map ack_object acks) os
    ∙ rw (no_id class id (test_other class 23 a), no_acks class acks (test_other class 24 b)) refl)

-- the numbers

acks_again : (back : ComeBack) (acks : List MsgId) → All IsShort acks → All FitsId acks →
    AreEach 1 IsMsgId (map ack_object acks) acks
acks_again back [] short fits = tt
acks_again back (a ∷ acks) short fits = (
  refl,
  back.id 0 a (All-head IsShort a acks short) (All-head FitsId a acks fits),
  acks_again back acks
      (All-tail IsShort a acks short) (All-tail FitsId a acks fits),
)

has_acks : (back : ComeBack) (sender : NodeId) (p : Packet) → IsWritable p → PacketFits p →
    HasAcks (packet_objects sender p) p.acks
has_acks back sender p w f =
    let one : of_class 24 (packet_objects sender p) ≡ map ack_object p.acks =
    three 24 (id_objects p.id) (map ack_object p.acks) (body_objects sender p.body)
    ∙ rw (no_id 24 p.id refl, just_acks p.acks, no_more_acks sender p.body) (append-nil (map ack_object p.acks)) in
    (w.few, subst (λ (os : List Object). AreEach 1 IsMsgId os p.acks) (sym one) (acks_again back p.acks w.acks f.acks))

has_id : (back : ComeBack) (sender : NodeId) (id : Option MsgId) (acks : List MsgId) (m : Msg) → IfSome id IsShort →
    IfSome id FitsId → HasAtMostOne 23 1 IsMsgId (id_objects id ++ (map ack_object acks ++ msg_objects sender m)) id
has_id back sender None acks m short fits =
    apart 23 (map ack_object acks) (msg_objects sender m) ∙ rw (no_acks 23 acks refl, no_numbers 23 sender m refl) refl
has_id back sender (Some n) acks m short fits = record {
  body = msg_id_bytes 1 n;
  one =
      ap (λ (os : List Object). made 23 1 (msg_id_bytes 1 n) ∷ os)
      (apart 23 (map ack_object acks) (msg_objects sender m)
      ∙ rw (no_acks 23 acks refl, no_numbers 23 sender m refl) refl);
  means = back.id 1 n short fits;
}

has_body : (back : ComeBack) (sender : NodeId) (id : Option MsgId) (acks : List MsgId) (body : Option Msg) →
    sender.0 < 2 ^ 32 → IfSome id IsShort → IfSome id FitsId → IsWritableBody id acks body → IfSome body FitsMsg →
    SpellsBody (id_objects id ++ (map ack_object acks ++ body_objects sender body)) id acks body
has_body back sender id acks None s short fits w f = w
has_body back sender id acks (Some m) s short fits w f = (
  has_id back sender id acks m short fits,
  move_msg (msg_objects sender m)
      (id_objects id ++ (map ack_object acks ++ msg_objects sender m)) m (others id acks (msg_objects sender m))
      (msg_again back sender m s w f),
)

type-small : (body : Option Msg) → type_of body < 2 ^ 8
type-small None = omega arith
type-small (Some (Path l n k route set u role)) = omega arith
type-small (Some (Resv l n k x)) = omega arith
type-small (Some (PathTear l n k)) = omega arith
type-small (Some (PathErr l n a b x)) = omega arith
type-small (Some (Notify l n a k x)) = omega arith

pub packet_again : (back : ComeBack) (sender : NodeId) (p : Packet) → sender.0 < 2 ^ 32 → IsWritable p → PacketFits p →
    Spells (written sender p) p
packet_again back sender p s w f = (
  packet_objects sender p,
  record {
    header =
        header_again (type_of p.body) (all_bytes (packet_objects sender p)) (type-small p.body)
        (let few = packet-few sender p w in omega (arith, few));
    objects = objects_again (packet_objects sender p) (packet_whole sender p w);
    packet =
        record {
          acks = has_acks back sender p w f;
          body = has_body back sender p.id p.acks p.body s w.id f.id w.body
              f.body;
        };
  },
)
