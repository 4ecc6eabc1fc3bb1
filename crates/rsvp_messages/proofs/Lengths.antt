-- How long a written packet is at most.
use Rattle.std.proofs.{Common.{◌≡◌, ◌≤◌, ◌<◌, ℕ, zero, suc, ◌+◌, ◌*◌, ◌^◌, Bool, true, false, cond, Option, None, Some, List, [], ◌∷◌, ◌++◌, length, map, filter, refl, ap, ◌∙◌, arith, length-append}, lemmas.List.Concat.flat_map-append}
use Rattle.ason_base.specs.{declared.limits.TheConstants.MOST_LABELS, declared.ids.LinkId.LinkId, declared.ids.Lsp.Lsp, declared.ids.NodeId.NodeId, declared.messages.Msg.Msg, declared.messages.Msg.TheVariants.{Path, Resv, PathTear, PathErr, Notify}, declared.messages.MsgId.MsgId, declared.messages.Packet.Packet, declared.messages.PathRole.PathRole, declared.messages.PathRole.TheVariants.{Work, Back}, declared.steps.Step.Step, Labels.{has, numbers_from}, Writable.{IsWritableMsg, IsWritableRole}}
use Rattle.wire_buf.specs.Routes.{route_bytes}
use Rattle.wire_buf.proofs.{Steps.route_bytes-length, Numbers.numbers-length}
use Rattle.rsvp_objects.specs.{Bodies.request_bytes, LabelSets.{among, label_set_bytes, or_zero}}
use Rattle.rsvp_messages.specs.{Objects.{Object, size_of}, Writable.{IsWritable, IsWritableBody}, Written.{ack_object, all_bytes, bytes_of, body_objects, header_bytes, id_objects, made, msg_objects, packet_objects, path_end, path_head, protection_object, request_objects, role_objects, route_objects, set_object, written}}

pub length-apart : (xs ys : List Object) → length (all_bytes (xs ++ ys)) ≡ length (all_bytes xs) + length (all_bytes ys)
length-apart xs ys = ap length (flat_map-append bytes_of xs ys) ∙ length-append (all_bytes xs) (all_bytes ys)

filter-few : (p : ℕ → Bool) (n first : ℕ) → length (filter p (numbers_from first n)) ≤ n
unfolding numbers_from
filter-few p zero first = omega arith
filter-few p (suc n) first =
    let others = filter-few p n (first + 1) in
    elim (p first) as (λ b. length (cond b (first ∷ filter p (numbers_from (first + 1) n))
    (filter p (numbers_from (first + 1) n))) ≤ suc n)
    [ true ↦ omega (arith, others) | false ↦ omega (arith, others) ]

or_zero-few : (ls : List ℕ) → length (or_zero ls) ≤ length ls + 1
or_zero-few [] = omega arith
or_zero-few (l ∷ ls) = omega arith

pub set-length : (set : List ℕ) → length (label_set_bytes (record { include = true; labels = set })) ≡ 4 + 4 * length
    (or_zero (among set))
set-length set = omega (arith, numbers-length (or_zero (among set)))

pub set-few : (set : List ℕ) → length (or_zero (among set)) ≤ MOST_LABELS + 1
set-few set = omega (arith, or_zero-few (among set), filter-few (has set) MOST_LABELS 1)

pub length-cons : (o : Object) (os : List Object) → length (all_bytes (o ∷ os)) ≡ size_of o + length (all_bytes os)
length-cons o os = omega (arith, length-append (bytes_of o) (all_bytes os))

route-room : (steps : List Step) → length (all_bytes (route_objects steps)) ≤ 4 + 12 * length steps
route-room [] = omega arith
route-room (s ∷ ss) = omega (arith, length-cons (made 20 1 (route_bytes (s ∷ ss))) [], route_bytes-length (s ∷ ss))

request-few : (set : List ℕ) (role : PathRole) → length (all_bytes (request_objects set role)) ≤ 352
request-few set role =
    omega (
      arith,
      length-cons (made 19 4 request_bytes) (protection_object role ∷ set_object set ∷ []),
      length-cons
          (protection_object role) (set_object set ∷ []),
      length-cons (set_object set) [],
      set-length set,
      set-few set,
    )

pub role-room : (lsp : Lsp) (active : Bool) (work : ℕ) (primary : List Step) →
    length (all_bytes (role_objects lsp (Back active work primary))) ≤ 16 + 12 * length primary
role-room lsp active work primary =
    omega (arith, length-cons (made 38 1 (route_bytes primary)) [], route_bytes-length primary)

role-few : (lsp : Lsp) (role : PathRole) → IsWritableRole role → length (all_bytes (role_objects lsp role)) ≤ 784
role-few lsp (Work guard) w = omega arith
role-few lsp (Back active work primary) w =
    omega (arith, length-cons (made 38 1 (route_bytes primary)) [], route_bytes-length primary, w.1)

end-few : (lsp : Lsp) (upstream : Option ℕ) → length (all_bytes (path_end lsp upstream)) ≤ 56
end-few lsp None = omega arith
end-few lsp (Some label) = omega arith

-- beside its role
pub path-room : (sender : NodeId) (lsp : Lsp) (egress : NodeId) (link : LinkId) (route : List Step) (set : List ℕ)
    (upstream : Option ℕ) (role : PathRole) (room : ℕ) → length (all_bytes (role_objects lsp role)) ≤ room →
    length (all_bytes (msg_objects sender (Path lsp egress link route set upstream role))) ≤ 460 + 12 * length route
    + room
path-room sender lsp egress link route set upstream role room enough =
    omega (
      arith,
      length-apart (path_head sender lsp egress link) (route_objects route ++
          (request_objects set role ++ (role_objects lsp role ++ path_end lsp upstream))),
      length-apart (route_objects route) (request_objects set role ++ (role_objects lsp role ++ path_end lsp upstream)),
      length-apart (request_objects set role) (role_objects lsp role ++ path_end lsp upstream),
      length-apart (role_objects lsp role) (path_end lsp upstream),
      route-room route,
      request-few set role,
      enough,
      end-few lsp upstream,
    )

msg-few : (sender : NodeId) (m : Msg) → IsWritableMsg m → length (all_bytes (msg_objects sender m)) ≤ 3000
msg-few sender (Path lsp egress link route set upstream role) w =
    omega (
      arith,
      path-room sender lsp egress link route set upstream role 784 (role-few lsp role w.2),
      w.1,
    )
msg-few sender (Resv lsp egress link label) w = omega arith
msg-few sender (PathTear lsp egress link) w = omega arith
msg-few sender (PathErr lsp egress at removed code) w = omega arith
msg-few sender (Notify lsp egress at link code) w = omega arith

body-few : (sender : NodeId) (id : Option MsgId) (acks : List MsgId) (body : Option Msg) → IsWritableBody id acks body →
    length (all_bytes (body_objects sender body)) ≤ 3000
body-few sender id acks None w = omega arith
body-few sender id acks (Some m) w = msg-few sender m w

id-few : (id : Option MsgId) → length (all_bytes (id_objects id)) ≤ 12
id-few None = omega arith
id-few (Some m) = omega arith

acks-length : (acks : List MsgId) → length (all_bytes (map ack_object acks)) ≡ 12 * length acks
acks-length [] = refl
acks-length (a ∷ acks) = omega (arith, length-cons (ack_object a) (map ack_object acks), acks-length acks)

pub packet-few : (sender : NodeId) (p : Packet) → IsWritable p → length (all_bytes (packet_objects sender p)) ≤ 4000
packet-few sender p w =
    omega (
      arith,
      length-apart (id_objects p.id) (map ack_object p.acks ++ body_objects sender p.body),
      length-apart
          (map ack_object p.acks) (body_objects sender p.body),
      id-few p.id,
      acks-length p.acks,
      w.few,
      body-few sender p.id p.acks p.body w.body,
    )

-- the message fits the length field
pub packet-short : (sender : NodeId) (p : Packet) (kind : ℕ) (out : List ℕ) → IsWritable p →
    out ≡ header_bytes kind 0 0 ++ all_bytes (packet_objects sender p) → length out < 2 ^ 16
packet-short sender p kind out w e =
    omega (
      arith,
      ap length e,
      length-append (header_bytes kind 0 0) (all_bytes (packet_objects sender p)),
      packet-few sender p w,
    )

-- the whole message
pub packet-room : (sender : NodeId) (p : Packet) (room : ℕ) → length (all_bytes (body_objects sender p.body)) ≤ room →
    length (written sender p) ≤ 20 + 12 * length p.acks + room
packet-room sender p room enough =
    omega (
      arith,
      length-apart (id_objects p.id) (map ack_object p.acks ++ body_objects sender p.body),
      length-apart (map ack_object p.acks) (body_objects sender p.body),
      id-few p.id,
      acks-length p.acks,
      enough,
    )
