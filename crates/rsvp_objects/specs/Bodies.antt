-- What the bodies of objects mean, field by field, and how they are written. A field that isn't named is read by
-- nothing.
use Rattle.std.specs.{Prelude.{◌≡◌, ◌≤◌, ◌<◌, ◌^◌, ℕ, List, [], ◌∷◌, ◌++◌, length, drop, Option, None, IfSome}, Option.option_to_list}
use Rattle.ason_base.specs.{declared.limits.TheConstants.MOST_LABELS, declared.ids.LinkId.LinkId, declared.ids.NodeId.NodeId, declared.messages.MsgId.MsgId}
use Rattle.byteorder.specs.Endian.{big_bytes}
use Rattle.wire_buf.specs.Objects.{number_at}
use Rattle.rsvp_objects.specs.{declared.error.ErrorSpec.ErrorSpec, declared.hop.HopObject.HopObject, declared.sender.SenderRef.SenderRef, declared.session.Session.Session, Tlvs.{HasIfIndexes, if_index_bytes, if_index_or_none}}

abbrev pub node_at : ℕ → List ℕ → NodeId
node_at place body = record { 0 = number_at place 4 body }

-- SESSION, LSP tunnel (RFC 3209, section 4.6.1.1): endpoint, two bytes, tunnel, extended tunnel
abbrev pub IsSession : List ℕ → Session → Type 0
IsSession body s =
    (length body ≡ 12)
    × (s ≡ record { endpoint = node_at 0 body; tunnel = number_at 6 2 body; extended = number_at 8 4 body })

abbrev pub session_bytes : Session → List ℕ
session_bytes s = big_bytes 4 s.endpoint.0 ++ big_bytes 2 0 ++ big_bytes 2 s.tunnel ++ big_bytes 4 s.extended

-- SENDER_TEMPLATE and FILTER_SPEC, LSP tunnel (RFC 3209, sections 4.6.2.1 and 4.6.3.1): sender, two bytes, LSP id
abbrev pub IsSenderRef : List ℕ → SenderRef → Type 0
IsSenderRef body s = (length body ≡ 8) × (s ≡ record { sender = node_at 0 body; lsp = number_at 6 2 body })

abbrev pub sender_bytes : SenderRef → List ℕ
sender_bytes s = big_bytes 4 s.sender.0 ++ big_bytes 2 0 ++ big_bytes 2 s.lsp

-- LABEL and UPSTREAM_LABEL, generalized (RFC 3473, sections 2.3 and 3): the label, one of 1 to 80
abbrev pub IsLabel : List ℕ → ℕ → Type 0
IsLabel body l = (length body ≡ 4) × (1 ≤ l) × (l ≤ MOST_LABELS) × (l ≡ number_at 0 4 body)

abbrev pub label_bytes : ℕ → List ℕ
label_bytes l = big_bytes 4 l

-- LABEL_REQUEST, generalized (RFC 3473, section 2.1; RFC 3471, section 3.1.1): encoding 8 is Lambda, switching type 150
-- Lambda-Switch Capable; then the G-PID
abbrev pub IsRequest : List ℕ → Type 0
IsRequest body = (length body ≡ 4) × (number_at 0 1 body ≡ 8) × (number_at 1 1 body ≡ 150)

abbrev pub request_bytes : List ℕ
request_bytes = big_bytes 1 8 ++ big_bytes 1 150 ++ big_bytes 2 0

-- MESSAGE_ID and MESSAGE_ID_ACK (RFC 2961, sections 4.2 and 4.3): flags, epoch, number
abbrev pub IsMsgId : List ℕ → MsgId → Type 0
IsMsgId body m = (length body ≡ 8) × (m ≡ record { epoch = number_at 1 3 body; number = number_at 4 4 body })

-- a MESSAGE_ID asks for an acknowledgement by flag 1; its acknowledgement has no flag
abbrev pub msg_id_bytes : ℕ → MsgId → List ℕ
msg_id_bytes flags m = big_bytes 1 flags ++ big_bytes 3 m.epoch ++ big_bytes 4 m.number

-- RSVP_HOP with an interface (RFC 3473, section 8.1.1): address, logical interface handle, TLVs with exactly one
-- IF_INDEX
abbrev pub IsHop : List ℕ → HopObject → Type 0
IsHop body h = (8 ≤ length body) × (h.sender ≡ node_at 0 body) × HasIfIndexes (drop 8 body) (h.link ∷ [])

abbrev pub hop_bytes : HopObject → List ℕ
hop_bytes h = big_bytes 4 h.sender.0 ++ big_bytes 4 0 ++ if_index_bytes h.sender h.link

-- ERROR_SPEC (RFC 2205, appendix A.5): node, flags, code, value
abbrev pub spec_at : List ℕ → Option LinkId → ErrorSpec
spec_at body link = record {
  node = node_at 0 body;
  flags = number_at 4 1 body;
  code = record { code = number_at 5 1 body; value = number_at 6 2 body };
  link = link;
}

abbrev pub IsErrorIpv4 : List ℕ → ErrorSpec → Type 0
IsErrorIpv4 body e = (length body ≡ 8) × (e ≡ spec_at body None)

-- ERROR_SPEC with an interface (RFC 3473, section 8.2.1): the same, then TLVs with at most one IF_INDEX
abbrev pub IsError : List ℕ → ErrorSpec → Type 0
IsError body e = (8 ≤ length body) × (e ≡ spec_at body e.link) × HasIfIndexes (drop 8 body) (option_to_list e.link)

abbrev pub spec_bytes : ErrorSpec → List ℕ
spec_bytes e = big_bytes 4 e.node.0 ++ big_bytes 1 e.flags ++ big_bytes 1 e.code.code ++ big_bytes 2 e.code.value

abbrev pub error_bytes : ErrorSpec → List ℕ
error_bytes e = spec_bytes e ++ if_index_or_none e.node e.link

-- each field of an error has its width
abbrev pub HasWidths : ErrorSpec → Type 0
HasWidths e =
    (e.node.0 < 2 ^ 32) × (e.flags < 2 ^ 8) × (e.code.code < 2 ^ 8) × (e.code.value < 2 ^ 16)
    × IfSome e.link (λ link. link.0 < 2 ^ 32)
