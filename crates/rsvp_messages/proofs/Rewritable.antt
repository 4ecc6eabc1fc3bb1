-- What bytes spell has a written form.
use Rattle.std.proofs.{Common.{◌≡◌, ℕ, zero, suc, ◌<◌, ◌≤◌, ◌^◌, Bool, true, false, cond, Option, None, Some, List, [], ◌∷◌, length, drop, get_or, nat_eq, sym, ap, subst, arith, All}, lemmas.List.Elements.{All-drop, All-take, All-from_recursion}}
use Rattle.std.specs.{Prelude.IfSome, List.AllByRecursion}
use Rattle.ason_base.specs.{declared.limits.TheConstants.MOST_STEPS, declared.messages.Msg.Msg, declared.messages.Msg.TheVariants.{Path, Resv, PathTear, PathErr, Notify}, declared.messages.MsgId.MsgId, declared.messages.PathRole.PathRole, declared.messages.PathRole.TheVariants.{Work, Back}, declared.steps.Step.Step, Writable.{IsWritableMsg, IsWritableRole}}
use Rattle.byteorder.specs.Endian.{big_number}
use Rattle.rsvp_objects.specs.Bodies.{IsMsgId}
use Rattle.rsvp_messages.specs.{Messages.{HasRole, HasRoute, SpellsMsg}, Objects.{AreObjects, Object, of_class, size_of}, Packets.SpellsBody, Parts.{AreEach, HasAtMostOne}, Writable.{IsShort, IsWritableBody, LeavesLabel, ReadIsWritable}}

-- Bytes

record HasBytes (o : Object) : Type 0 where
  pub body : All (λ b. b < 2 ^ 8) o.body

objects_bytes : (bytes : List ℕ) (os : List Object) → All (λ b. b < 2 ^ 8) bytes → AreObjects bytes os →
    AllByRecursion HasBytes os
objects_bytes bytes [] all are = tt
objects_bytes bytes (o ∷ os) all are = (
  record {
    body = subst (λ (l : List ℕ). All (λ b. b < 2 ^ 8) l) (sym are.0.body)
        (All-take (λ b. b < 2 ^ 8) (length o.body) (drop 4 bytes) (All-drop (λ b. b < 2 ^ 8) 4 bytes all));
  },
  objects_bytes (drop (size_of o) bytes) os (All-drop (λ b. b < 2 ^ 8) (size_of o) bytes all) are.1,
)

class_bytes : (class : ℕ) (os : List Object) → AllByRecursion HasBytes os → AllByRecursion HasBytes (of_class class os)
class_bytes class [] all = tt
class_bytes class (o ∷ os) all = go (nat_eq o.class class) (class_bytes class os all.1)
  where
    go : (b : Bool) → AllByRecursion HasBytes (of_class class os) →
        AllByRecursion HasBytes (cond b (o ∷ of_class class os) (of_class class os))
    go true left = (all.0, left)
    go false left = left

-- a byte, or 0 behind the last one
byte_or_none : (xs : List ℕ) (k : ℕ) → All (λ b. b < 2 ^ 8) xs → get_or xs k 0 < 256
byte_or_none [] zero all = omega arith
byte_or_none [] (suc k) all = omega arith
byte_or_none (x ∷ xs) zero all = let small : x < 2 ^ 8 = all 0 0 (omega arith) in omega arith
byte_or_none (x ∷ xs) (suc k) all = byte_or_none xs k (λ i d within. all (suc i) d (omega arith))

three : (xs : List ℕ) → ((k : ℕ) → get_or xs k 0 < 256) → big_number 3 xs < 2 ^ 24
three xs all =
    let a : get_or xs 0 0 < 256 = all 0 in
    let b : get_or xs 1 0 < 256 = all 1 in
    let c : get_or xs 2 0 < 256 = all 2 in
    omega arith

short : (body : List ℕ) (m : MsgId) → All (λ b. b < 2 ^ 8) body → IsMsgId body m → IsShort m
short body m all is =
    let epoch : m.epoch ≡ big_number 3 (drop 1 body) = ap (λ (x : MsgId). x.epoch) is.1 in
    let small : big_number 3 (drop 1 body) < 2 ^ 24 =
    three (drop 1 body) (λ k. byte_or_none (drop 1 body) k (All-drop (λ b. b < 2 ^ 8) 1 body all)) in
    omega arith

-- Numbers

id_short : (os : List Object) (id : Option MsgId) → AllByRecursion HasBytes os → HasAtMostOne 23 1 IsMsgId os id →
    IfSome id IsShort
id_short os None all has = tt
id_short os (Some m) all has =
    let one = subst (λ (l : List Object). AllByRecursion HasBytes l) has.one (class_bytes 23 os all) in
    short has.body m one.0.body has.means

each_short : (os : List Object) (acks : List MsgId) → AllByRecursion HasBytes os → AreEach 1 IsMsgId os acks →
    AllByRecursion IsShort acks
each_short [] [] all are = tt
each_short [] (m ∷ acks) all are = absurd are
each_short (o ∷ os) [] all are = absurd are
each_short (o ∷ os) (m ∷ acks) all are = (short o.body m all.0.body are.1, each_short os acks all.1 are.2)

-- Messages

pub role_writable : (os : List Object) (role : PathRole) → HasRole os role → IsWritableRole role
role_writable os (Work guard) has = tt
role_writable os (Back active work primary) has = (has.2.means.0, has.2.means.1)

pub route_short : (os : List Object) (route : List Step) → HasRoute os route → length route ≤ MOST_STEPS
route_short os [] has = omega arith
route_short os (s ∷ ss) has = has.means.1

msg_writable : (os : List Object) (m : Msg) → SpellsMsg os m → LeavesLabel (Some m) → IsWritableMsg m
msg_writable os (Path l e k route set u role) spells leaves =
    (leaves, route_short os route spells.has_route, role_writable os role spells.has_role)
msg_writable os (Resv l e k x) spells leaves = tt
msg_writable os (PathTear l e k) spells leaves = tt
msg_writable os (PathErr l e at removed code) spells leaves = tt
msg_writable os (Notify l e at k code) spells leaves = tt

body_writable : (os : List Object) (id : Option MsgId) (acks : List MsgId) (body : Option Msg) →
    SpellsBody os id acks body → LeavesLabel body → IsWritableBody id acks body
body_writable os id acks None spells leaves = spells
body_writable os id acks (Some m) spells leaves = msg_writable os m spells.1 leaves

body_short : (os : List Object) (id : Option MsgId) (acks : List MsgId) (body : Option Msg) →
    AllByRecursion HasBytes os → SpellsBody os id acks body → IfSome id IsShort
body_short os id acks None all spells = subst (λ (i : Option MsgId). IfSome i IsShort) (sym spells.0) tt
body_short os id acks (Some m) all spells = id_short os id all spells.0

pub read_writable : ReadIsWritable
read_writable bytes p all (os, spelled) leaves =
    let objects : AllByRecursion HasBytes os =
    objects_bytes (drop 8 bytes) os (All-drop (λ b. b < 2 ^ 8) 8 bytes all) spelled.objects in
    record {
      id = body_short os p.id p.acks p.body objects spelled.packet.body;
      acks = All-from_recursion IsShort p.acks
          (each_short (of_class 24 os) p.acks (class_bytes 24 os objects) spelled.packet.acks.1);
      few = spelled.packet.acks.0;
      body = body_writable os p.id p.acks p.body spelled.packet.body leaves;
    }
