use Rattle.std.proofs.{Common.{◌≡◌, ◌++◌, ◌∙◌, List, ℕ, ap, arith, length, length-append, subst}, lemmas.List.with_items_is}
use Rattle.ason_base.specs.declared.messages.Packet.{Packet}
use Rattle.rsvp_messages.specs.{Packets.type_of, Written.{all_bytes, header_bytes, packet_objects}}
use Rattle.rsvp_messages.proofs.{Lengths.packet-short, Joining.{packet_bytes, put_back, sealed, tail_of}}
use Rattle.rsvp_messages.proofs.writing.encode_ref_into.Goals as goal

pub seal-requires-clause-short : goal.seal-requires-clause-short
seal-requires-clause-short c =
    let p = c.args.p.now in
    let old = c.args.out.now.items in
    let tail = header_bytes c.kind_of.result 0 0 ++ all_bytes (packet_objects c.args.sender p) in
    let e : c.deref_mut.result.now ≡ old ++ tail
    = c.deref_mut.ensures.value ∙ packet_bytes _ _ _ _ _ _ c.args.sender _ p c.p.view_is
    c.in_ok-begin.ensures c.in_ok-write_message_id.ensures c.in_ok-write_acks.ensures c.in_ok-write_body.ensures in
    let start : c.len-start.result ≡ length old = omega (arith, c.len-start.ensures, c.args.out.now.ok.0) in
    packet-short c.args.sender p c.kind_of.result _ c.requires (tail_of _ old tail _ e start)

pub returns-clause-written : goal.returns-clause-written
returns-clause-written c =
    let p = c.args.p.now in
    let old = c.args.out.now.items in
    let tail = header_bytes c.kind_of.result 0 0 ++ all_bytes (packet_objects c.args.sender p) in
    let e : c.deref_mut.result.now ≡ old ++ tail
    = c.deref_mut.ensures.value ∙ packet_bytes _ _ _ _ _ _ c.args.sender _ p c.p.view_is
    c.in_ok-begin.ensures c.in_ok-write_message_id.ensures c.in_ok-write_acks.ensures c.in_ok-write_body.ensures in
    let start : c.len-start.result ≡ length old = omega (arith, c.len-start.ensures, c.args.out.now.ok.0) in
    let is_tail = tail_of _ old tail _ e start in
    let put = put_back _ old tail c.seal.new.out _ e start in
    let kind : c.kind_of.result ≡ type_of p.body =
    subst (λ (q : Packet). c.kind_of.result ≡ type_of q.body) c.p.view_is c.kind_of.ensures in
    with_items_is c.write_body.new.out _
    (omega (
      arith,
      ap length put,
      length-append old c.seal.new.out,
      c.seal.auto.out,
      ap length is_tail,
      ap length e,
      length-append old tail,
      c.deref_mut.ensures.len,
    ))
    ∙ put ∙ ap (λ (l : List ℕ). old ++ l)
    (sealed _ c.seal.new.out c.kind_of.result c.args.sender p is_tail c.seal.ensures kind)
