-- What was written is read again.
use Rattle.std.proofs.Common.{◌++◌, ◌<◌, ◌^◌, [], ◌∷◌, None, Some, Option, refl, sym, arith}
use Rattle.byteorder.specs.Endian.{big_bytes}
use Rattle.wire_buf.proofs.Numbers.{again_1, again_2, again_4}
use Rattle.std.specs.Option.{option_to_list, IfSome}
use Rattle.ason_base.specs.{declared.ids.LinkId.LinkId, declared.ids.NodeId.NodeId}
use Rattle.rsvp_objects.specs.{Tlvs.{HasIfIndexes, if_index_bytes, if_index_or_none}, declared.error.ErrorSpec.ErrorSpec, declared.hop.HopObject.HopObject, declared.session.Session.Session, Bodies.{HasWidths, IsError, IsHop, IsSession, error_bytes, hop_bytes, session_bytes}}

pub session_again : (s : Session) → s.endpoint.0 < 2 ^ 32 → s.tunnel < 2 ^ 16 → s.extended < 2 ^ 32 →
    IsSession (session_bytes s) s
session_again s a b c = (
  refl,
  λ i. record {
    endpoint = record { 0 = sym (again_4 s.endpoint.0 a) i };
    tunnel = sym (again_2 s.tunnel b)
        i;
    extended = sym (again_4 s.extended c) i;
  },
)

if_index_again : (node : NodeId) (link : LinkId) → link.0 < 2 ^ 32 →
    HasIfIndexes (if_index_bytes node link) (link ∷ [])
if_index_again node link h = (
  record { kind = 3; value = big_bytes 4 node.0 ++ big_bytes 4 link.0 } ∷ [],
  (record { size = omega arith; kind = refl; len = refl; value = refl }, refl),
  (refl, tt),
  λ i. record { 0 = sym (again_4 link.0 h) i } ∷ [],
)

none_again : (node : NodeId) (link : Option LinkId) → IfSome link (λ l. l.0 < 2 ^ 32) →
    HasIfIndexes (if_index_or_none node link) (option_to_list link)
none_again node None h = ([], refl, tt, refl)
none_again node (Some link) h = if_index_again node link h

pub hop_again : (h : HopObject) → h.sender.0 < 2 ^ 32 → h.link.0 < 2 ^ 32 → IsHop (hop_bytes h) h
hop_again h a b = (omega arith, λ i. record { 0 = sym (again_4 h.sender.0 a) i }, if_index_again h.sender h.link b)

pub error_again : (e : ErrorSpec) → HasWidths e → IsError (error_bytes e) e
error_again e w = (
  omega arith,
  λ i. record {
    node = record { 0 = sym (again_4 e.node.0 w.0) i };
    flags = sym (again_1 e.flags w.1)
        i;
    code = record {
      code = sym (again_1 e.code.code w.2) i;
      value = sym (again_2 e.code.value w.3)
          i;
    };
    link = e.link;
  },
  none_again e.node e.link w.4,
)
