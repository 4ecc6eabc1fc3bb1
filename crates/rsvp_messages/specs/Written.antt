-- The written form of a packet: the order of its objects and the values that nothing reads are this project's choice.
use Rattle.std.specs.{Prelude.{ℕ, ◌+◌, Bool, true, if◌then◌else◌, List, [], ◌∷◌, ◌++◌, length, map, Option, None, Some}, List.flat_map}
use Rattle.byteorder.specs.Endian.{big_bytes}
use Rattle.ason_base.specs.{declared.codes.ErrCode.ErrCode, declared.ids.LinkId.LinkId, declared.ids.Lsp.Lsp, declared.ids.NodeId.NodeId, declared.messages.Msg.Msg, declared.messages.Msg.TheVariants.{Path, Resv, PathTear, PathErr, Notify}, declared.messages.MsgId.MsgId, declared.messages.Packet.Packet, declared.messages.PathRole.PathRole, declared.messages.PathRole.TheVariants.{Work, Back}, declared.steps.Step.Step}
use Rattle.wire_buf.specs.{Checksum.checksum_of, Objects.object, Routes.route_bytes}
use Rattle.rsvp_objects.specs.{Bodies.{error_bytes, hop_bytes, label_bytes, msg_id_bytes, request_bytes, sender_bytes, session_bytes}, LabelSets.label_set_bytes, declared.protection.Protection.Protection, RecoveryBodies.{association_bytes, protection_bytes}}
use Rattle.rsvp_objects.specs.declared.protection.Protection.TheVariants as bits
use Rattle.rsvp_messages.specs.{Objects.Object, Packets.type_of}

abbrev pub made : ℕ → ℕ → List ℕ → Object
made class ctype body = record { class = class; ctype = ctype; body = body }

-- an object's bytes
abbrev pub bytes_of : Object → List ℕ
bytes_of o = object o.class o.ctype o.body

abbrev pub all_bytes : List Object → List ℕ
all_bytes os = flat_map bytes_of os

-- MESSAGE_ID, which asks for an acknowledgement, and MESSAGE_ID_ACK
abbrev pub id_objects : Option MsgId → List Object
id_objects None = []
id_objects (Some m) = made 23 1 (msg_id_bytes 1 m) ∷ []

abbrev pub ack_object : MsgId → Object
ack_object m = made 24 1 (msg_id_bytes 0 m)

-- SESSION: the extended tunnel is the ingress
abbrev pub session_object : Lsp → NodeId → Object
session_object lsp egress =
    made 1 7 (session_bytes (record { endpoint = egress; tunnel = lsp.tunnel; extended = lsp.ingress.0 }))

abbrev pub hop_object : NodeId → LinkId → Object
hop_object sender link = made 3 3 (hop_bytes (record { sender = sender; link = link }))

-- SENDER_TEMPLATE (class 11) or FILTER_SPEC (class 10)
abbrev pub sender_object : ℕ → Lsp → Object
sender_object class lsp = made class 7 (sender_bytes (record { sender = lsp.ingress; lsp = lsp.lsp }))

-- TIME_VALUES: 30,000 ms (RFC 2205, appendix A.4)
abbrev pub time_values : Object
time_values = made 5 1 (0x00 ∷ 0x00 ∷ 0x75 ∷ 0x30 ∷ [])

-- STYLE: fixed filter (RFC 2205, appendix A.7)
abbrev pub style : Object
style = made 8 1 (0x00 ∷ 0x00 ∷ 0x00 ∷ 0x0A ∷ [])

-- A token bucket of zeros (RFC 2210, section 3). In SENDER_TSPEC the service is 1, in FLOWSPEC 5, controlled load.
abbrev pub bucket : ℕ → List ℕ
bucket service =
    0x00 ∷ 0x00 ∷ 0x00 ∷ 0x07 ∷ service ∷ 0x00 ∷ 0x00 ∷ 0x06 ∷ 0x7F ∷ 0x00 ∷ 0x00 ∷ 0x05
    ∷ 0 ∷ 0 ∷ 0 ∷ 0 ∷ 0 ∷ 0 ∷ 0 ∷ 0 ∷ 0 ∷ 0 ∷ 0 ∷ 0 ∷ 0 ∷ 0 ∷ 0 ∷ 0 ∷ 0 ∷ 0 ∷ 0 ∷ 0 ∷ []

abbrev pub sender_tspec : Object
sender_tspec = made 12 2 (bucket 1)

abbrev pub flowspec : Object
flowspec = made 9 2 (bucket 5)

-- an empty route has no EXPLICIT_ROUTE
abbrev pub route_objects : List Step → List Object
route_objects [] = []
route_objects (step ∷ steps) = made 20 1 (route_bytes (step ∷ steps)) ∷ []

abbrev pub protection_of : PathRole → Protection
protection_of (Work guard) = bits.Work guard
protection_of (Back active work primary) = bits.Back active

-- a backup's ASSOCIATION, whose source is the ingress, and PRIMARY_PATH_ROUTE
abbrev pub role_objects : Lsp → PathRole → List Object
role_objects lsp (Work guard) = []
role_objects lsp (Back active work primary) =
    made 199 1 (association_bytes (record { kind = 1; id = work; source = lsp.ingress.0 }))
    ∷ made 38 1 (route_bytes primary) ∷ []

abbrev pub upstream_objects : Option ℕ → List Object
upstream_objects None = []
upstream_objects (Some label) = made 35 2 (label_bytes label) ∷ []

abbrev pub protection_object : PathRole → Object
protection_object role = made 37 2 (protection_bytes (protection_of role))

-- the LABEL_SET includes
abbrev pub set_object : List ℕ → Object
set_object set = made 36 1 (label_set_bytes (record { include = true; labels = set }))

-- behind the EXPLICIT_ROUTE
abbrev pub request_objects : List ℕ → PathRole → List Object
request_objects set role = made 19 4 request_bytes ∷ protection_object role ∷ set_object set ∷ []

-- at the end of a Path
abbrev pub path_end : Lsp → Option ℕ → List Object
path_end lsp upstream = sender_object 11 lsp ∷ sender_tspec ∷ upstream_objects upstream

-- flag 0x04 is Path_State_Removed
abbrev pub flags_of : Bool → ℕ
flags_of removed = if removed then 0x04 else 0x00

abbrev pub error_object : NodeId → ℕ → ErrCode → Option LinkId → Object
error_object at flags code link = made 6 3 (error_bytes (record { node = at; flags = flags; code = code; link = link }))

-- session, hop and time values of a Path
abbrev pub path_head : NodeId → Lsp → NodeId → LinkId → List Object
path_head sender lsp egress link = session_object lsp egress ∷ hop_object sender link ∷ time_values ∷ []

abbrev pub path_err_objects : Lsp → NodeId → NodeId → Bool → ErrCode → List Object
path_err_objects lsp egress at removed code =
    session_object lsp egress ∷ error_object at (flags_of removed) code None ∷ sender_object 11 lsp ∷ []

abbrev pub notify_objects : Lsp → NodeId → NodeId → LinkId → ErrCode → List Object
notify_objects lsp egress at link code =
    error_object at 0 code (Some link) ∷ session_object lsp egress ∷ sender_object 11 lsp ∷ []

abbrev pub msg_objects : NodeId → Msg → List Object
msg_objects sender (Path lsp egress link route set upstream role) =
    path_head sender lsp egress link
    ++ (route_objects route ++ (request_objects set role ++ (role_objects lsp role ++ path_end lsp upstream)))
msg_objects sender (Resv lsp egress link label) =
    session_object lsp egress ∷ hop_object sender link ∷ time_values ∷ style ∷ flowspec ∷ sender_object 10 lsp
    ∷ made 16 2 (label_bytes label) ∷ []
msg_objects sender (PathTear lsp egress link) =
    session_object lsp egress ∷ hop_object sender link ∷ sender_object 11 lsp ∷ []
msg_objects sender (PathErr lsp egress at removed code) = path_err_objects lsp egress at removed code
msg_objects sender (Notify lsp egress at link code) = notify_objects lsp egress at link code

abbrev pub body_objects : NodeId → Option Msg → List Object
body_objects sender None = []
body_objects sender (Some m) = msg_objects sender m

abbrev pub packet_objects : NodeId → Packet → List Object
packet_objects sender p = id_objects p.id ++ (map ack_object p.acks ++ body_objects sender p.body)

-- version 1 with flags 1, Send_TTL 1, the reserved byte 0
abbrev pub header_bytes : ℕ → ℕ → ℕ → List ℕ
header_bytes kind checksum len = 0x11 ∷ kind ∷ (big_bytes 2 checksum ++ (0x01 ∷ 0x00 ∷ big_bytes 2 len))

-- the message of this type with these objects, its checksum computed
abbrev pub message : ℕ → List ℕ → List ℕ
message kind body =
    header_bytes kind (checksum_of (header_bytes kind 0 (8 + length body) ++ body)) (8 + length body) ++ body

abbrev pub written : NodeId → Packet → List ℕ
written sender p = message (type_of p.body) (all_bytes (packet_objects sender p))
