-- What a controller sends is what the ends of a world send.
use Rattle.std.proofs.Common.{◌≡◌, ℕ, ◌+◌, Bool, true, false, cond, nat_eq, List, [], ◌∷◌, map, refl, sym, ap, ◌∙◌, arith}
use Rattle.ason_base.specs.declared.tables.Out.{Out}
use Rattle.ason_base.proofs.Numbers.{number-flip}
use Rattle.flood.specs.declared.frames.Content.TheVariants.{Message}
use Rattle.hop_reliable.specs.{Hop.{HopState, numbered, sent_message}, Schedules.{HopEnd, end_sends}}
use Rattle.mesh_rules.specs.Machine.{sent_to}
use Rattle.control_channels.specs.{Adjacencies.{packets_on, sent_on, sent_one}, Frames.Sending}
use Rattle.world_rules.specs.{Worlds.{numbered_after, sends_all}, Standing.contents_to}

-- the hop of an end from which these messages are sent, and the packets in which they go
pub record IsHopSent (e : ℕ) (hops : ℕ → HopState) (outs : List Out) (x : HopEnd) : Type 0 where
  pub hop : sent_on hops outs e ≡ (sends_all (sent_to e outs) x).hop
  pub packets : map Message (numbered_after x.hop.sent (sent_to e outs)) ≡ contents_to e (packets_on hops outs)

pub is-sent : (e : ℕ) (outs : List Out) (hops : ℕ → HopState) (x : HopEnd) → hops e ≡ x.hop → IsHopSent e hops outs x
is-sent e [] hops x same = record { hop = same; packets = refl }
is-sent e (o ∷ outs) hops x same = by_test (nat_eq o.to.0 e) refl (is-sent e outs (sent_one hops o))
  where
    messages : (b : Bool) → nat_eq o.to.0 e ≡ b →
        sent_to e (o ∷ outs) ≡ cond b (o.msg ∷ sent_to e outs) (sent_to e outs)
    messages true h = rw h refl
    messages false h = rw h refl

    packet : Sending
    packet = record { to = o.to; content = Message (numbered ((hops o.to.0).sent + 1) o.msg) }

    packets : (b : Bool) → nat_eq o.to.0 e ≡ b →
        contents_to e (packets_on hops (o ∷ outs))
        ≡ cond b (Message (numbered ((hops o.to.0).sent + 1) o.msg) ∷ contents_to e (packets_on (sent_one hops o) outs))
        (contents_to e (packets_on (sent_one hops o) outs))
    packets true h = rw h refl
    packets false h = rw h refl

    by_test : (b : Bool) → nat_eq o.to.0 e ≡ b →
        ((y : HopEnd) → sent_one hops o e ≡ y.hop → IsHopSent e (sent_one hops o) outs y) →
        IsHopSent e hops (o ∷ outs) x
    by_test true h later =
        let here : nat_eq e o.to.0 ≡ true = number-flip o.to.0 e true h in
        let to : o.to.0 ≡ e = grind arith in
        let step : sent_one hops o e ≡ sent_message x.hop o.msg =
        rw here (ap (λ (s : HopState). sent_message s o.msg) same) in
        let rest : IsHopSent e (sent_one hops o) outs (end_sends o.msg x) = later (end_sends o.msg x) step in
        let number : (hops o.to.0).sent ≡ x.hop.sent = ap (λ n. (hops n).sent) to ∙
        ap (λ (s : HopState). s.sent) same in
        record {
          hop = rest.hop ∙ sym (ap (λ ms. (sends_all ms x).hop) (messages true h));
          packets = ap (λ ms. map Message (numbered_after x.hop.sent ms)) (messages true h)
              ∙ ap (λ cs. Message (numbered (x.hop.sent + 1) o.msg) ∷ cs) rest.packets
              ∙ ap (λ n. Message (numbered (n + 1) o.msg) ∷ contents_to e (packets_on (sent_one hops o) outs))
              (sym number)
              ∙ sym (packets true h);
        }
    by_test false h later =
        let here : nat_eq e o.to.0 ≡ false = number-flip o.to.0 e false h in
        let step : sent_one hops o e ≡ x.hop = rw here same in
        let rest : IsHopSent e (sent_one hops o) outs x = later x step in
        record {
          hop = rest.hop ∙ sym (ap (λ ms. (sends_all ms x).hop) (messages false h));
          packets = ap (λ ms. map Message (numbered_after x.hop.sent ms)) (messages false h) ∙ rest.packets
              ∙ sym (packets false h);
        }
