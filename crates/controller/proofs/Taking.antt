-- A packet is taken, an item handled, a tick made: what the node and its hops are after it.
use Rattle.std.proofs.Common.{◌≡◌, ℕ, Bool, true, false, cond, nat_eq, List, [], ◌∷◌, ◌++◌, map, refl, sym, ap, ◌∙◌, subst, arith, append_assoc}
use Rattle.std.specs.{Prelude.{None, Option}, List.flat_map, Option.option_to_list}
use Rattle.ason_base.specs.{declared.commands.DeskItem.DeskItem, declared.messages.Msg.Msg, declared.ids.NodeId.NodeId, declared.messages.MsgId.MsgId, declared.messages.Packet.Packet, declared.tables.Out.Out}
use Rattle.flood.specs.State.{FloodState, sent_at_tick}
use Rattle.hop_reliable.specs.{declared.heard.Heard.Heard, declared.heard.Heard.TheVariants.{Acked, Unnumbered, Ahead, Repeat, Next}, Hop.{HopState, all_sent, handed_up_of, heard_as, received, taken, ticked}}
use Rattle.mesh_rules.specs.{Changes.changed, Events.on_first, Orders.on_item, Waits.on_tick}
use Rattle.mesh_nodes.specs.declared.inputs.Input.TheVariants as input
use Rattle.mesh_nodes.specs.Nodes.{NodeView, stepped}
use Rattle.control_channels.specs.{declared.adjacencies.Adjacency.Adjacency, declared.frames.Frame.Frame, Adjacencies.{ArePrepared, again_to, aged, committed, hop_at, next_at, packets_on, peer_numbers, prepared_at, rested, sent_on, taken_at, taken_by}, Answers.body_answer, Controllers.{Becomes, IsMade, acks_to, after_tick, floods_to, handed_body, item_handled, heard_hops, meaning, took}, Frames.{AllSpelled, Sending, frames_to, sent_frame}}
use Rattle.control_channels.proofs.{Keeping.heard-sent, Later.{packets-later, sent-later}, Preparing.nothing-prepared, Spelled.both-spelled, Resting.{committed-rests, hop-committed, next-aged, peers-aged, peers-committed, resting-committed, same-hop, same-peers}}
use Rattle.rsvp_messages.specs.Packets.{ack_alone}

pub frames-append : (me : NodeId) (xs ys : List Sending) → frames_to me (xs ++ ys) ≡ frames_to me xs ++ frames_to me ys
frames-append me [] ys = refl
frames-append me (x ∷ xs) ys = ap (λ fs. sent_frame me x.to x.content ∷ fs) (frames-append me xs ys)

-- what is prepared at a hop, after an answer
prepared-for : (before mid : List Adjacency) (outs : List Out) → ArePrepared before outs mid →
    map rested mid ≡ map rested before →
    (d : ℕ) → all_sent (record { state = hop_at before d; prepared = (prepared_at mid d).prepared }) ≡ sent_on
    (hop_at before) outs d
prepared-for before mid outs are rest d =
    ap (λ (h : HopState). all_sent (record { state = h; prepared = (prepared_at mid d).prepared }))
    (sym (same-hop mid before rest d)) ∙ are d

pub committed-hops : (before mid after : List Adjacency) (outs : List Out) → ArePrepared before outs mid →
    after ≡ map committed mid →
    (d : ℕ) → hop_at after d ≡ sent_on (hop_at before) outs d
committed-hops before mid after outs are is d = ap (λ xs. hop_at xs d) is ∙ hop-committed mid d ∙ are d

pub committed-peers : (before mid after : List Adjacency) → map rested mid ≡ map rested before →
    after ≡ map committed mid →
    peer_numbers after ≡ peer_numbers before
committed-peers before mid after rest is = ap peer_numbers is ∙ peers-committed mid ∙ same-peers mid before rest

pub committed-rest : (mid after : List Adjacency) → after ≡ map committed mid → map rested after ≡ after
committed-rest mid after is = ap (map rested) is ∙ committed-rests mid ∙ sym is

-- Ticks

pub ticked-hops : (before mid late after : List Adjacency) (outs : List Out) → ArePrepared before outs mid →
    map rested mid ≡ map rested before →
    late ≡ map aged mid → after ≡ map committed late → (d : ℕ) →
    hop_at after d ≡ sent_on (λ e. ticked (hop_at before e)) outs d
ticked-hops before mid late after outs are rest ages is d =
    ap (λ xs. hop_at xs d) is ∙ hop-committed late d ∙ ap (λ xs. next_at xs d) ages ∙ next-aged mid d
    ∙ ap (λ (h : HopState). all_sent (record { state = ticked h; prepared = (prepared_at mid d).prepared }))
    (same-hop mid before rest d)
    ∙ sent-later (hop_at before) (λ e. ticked (hop_at before e)) outs d (prepared_at mid d).prepared
    (prepared-for before mid outs are rest d) refl

pub ticked-peers : (before mid late after : List Adjacency) → map rested mid ≡ map rested before →
    late ≡ map aged mid → after ≡ map committed late →
    peer_numbers after ≡ peer_numbers before
ticked-peers before mid late after rest ages is =
    ap peer_numbers is ∙ peers-committed late ∙ ap peer_numbers ages ∙ peers-aged mid ∙ same-peers mid before rest

-- an item was handled
pub handled-made : (n m : NodeView) (before mid after : List Adjacency) (i j : DeskItem) (none frames : List Frame) →
    i ≡ j → m ≡ stepped n (input.Desk i) →
    ArePrepared before (on_item n.place n.state i).sent mid → map rested mid ≡ map rested before →
    after ≡ map committed mid → none ≡ [] →
    frames ≡ none ++ frames_to n.place.id (packets_on (hop_at before) (on_item n.place n.state i).sent) →
    AllSpelled n.place.id (packets_on (hop_at before) (on_item n.place n.state i).sent) →
    IsMade n m before after (item_handled n.place (meaning n before) j) frames
handled-made n m before mid after i j none frames same node are rest is start framed spelled =
    subst (λ k. IsMade n m before after (item_handled n.place (meaning n before) k) frames) same (record {
      becomes = record {
        place = ap (λ (k : NodeView). k.place) node;
        state = ap (λ (k : NodeView). k.state) node;
        hops = committed-hops before mid after (on_item n.place n.state i).sent are is;
        peers = committed-peers before mid after rest is;
        rest = committed-rest mid after is;
      };
      frames = framed ∙ ap (λ fs. fs ++ frames_to n.place.id
          (packets_on (hop_at before) (on_item n.place n.state i).sent)) start;
      spelled = spelled;
    })

-- a tick was made
pub ticked-made : (n m : NodeView) (me : NodeId) (before mid late after : List Adjacency) (f : FloodState)
    (none again due frames : List Frame) → m ≡ stepped n input.Tick →
    ArePrepared before (on_tick n.place n.state).sent mid → map rested mid ≡ map rested before →
    late ≡ map aged mid → after ≡ map committed late →
    none ≡ [] → me ≡ n.place.id → again ≡ none ++ frames_to me (flat_map again_to before) →
    due ≡ again ++ frames_to me (floods_to (sent_at_tick f)) →
    frames ≡ due ++ frames_to n.place.id (packets_on (hop_at before) (on_tick n.place n.state).sent) →
    AllSpelled me (flat_map again_to before) → AllSpelled me (floods_to (sent_at_tick f)) →
    AllSpelled n.place.id (packets_on (hop_at before) (on_tick n.place n.state).sent) →
    IsMade n m before after (after_tick n.place n.state before f) frames
ticked-made n m me before mid late after f none again due frames node are rest ages is start same resends rows framed
    resent flooded spelled
    = record {
      becomes = record {
        place = ap (λ (k : NodeView). k.place) node;
        state = ap (λ (k : NodeView). k.state) node;
        hops = ticked-hops before mid late after (on_tick n.place n.state).sent are rest ages is;
        peers = ticked-peers before mid late after rest ages is;
        rest = committed-rest late after is;
      };
      frames = framed
          ∙ ap (λ fs. fs ++ frames_to n.place.id (packets_on (hop_at before) sent))
          (all-first ∙ ap (λ fs. fs ++ frames_to me first) start ∙ ap (λ k. frames_to k first) same)
          ∙ ap (λ ps. frames_to n.place.id first ++ frames_to n.place.id ps)
          (packets-later sent (hop_at before) (λ d. ticked (hop_at before d)) (λ d. refl))
          ∙ sym (frames-append n.place.id first (packets_on (λ d. ticked (hop_at before d)) sent));
      spelled = both-spelled n.place.id first (packets_on (λ d. ticked (hop_at before d)) sent)
          (subst (λ k. AllSpelled k first) same
          (both-spelled me (flat_map again_to before) (floods_to (sent_at_tick f)) resent flooded))
          (subst (AllSpelled n.place.id) (packets-later sent (hop_at before) (λ d. ticked (hop_at before d))
          (λ d. refl))
          spelled);
    }
  where
    sent : List Out
    sent = (on_tick n.place n.state).sent

    first : List Sending
    first = flat_map again_to before ++ floods_to (sent_at_tick f)

    all-first : due ≡ none ++ frames_to me first
    all-first =
        rows ∙ ap (λ fs. fs ++ frames_to me (floods_to (sent_at_tick f))) resends
        ∙ append_assoc none (frames_to me (flat_map again_to before)) (frames_to me (floods_to (sent_at_tick f)))
        ∙ ap (λ fs. none ++ fs)
        (sym (frames-append me (flat_map again_to before) (floods_to (sent_at_tick f))))

-- Packets

handed-is : (v : Heard) (q : Packet) → handed_body v q.body ≡ handed_up_of v q
handed-is Next q = refl
handed-is Acked q = refl
handed-is Unnumbered q = refl
handed-is Ahead q = refl
handed-is Repeat q = refl

-- what the parts of a packet's taking make of the hops
pub record IsPacketTaken (n : NodeView) (before mid late after : List Adjacency) (u : NodeId) (v : Heard) (q : Packet)
    (body : Option Msg) : Type 0 where
  pub heard : v ≡ heard_as (hop_at before u.0) q
  pub handed : option_to_list body ≡ handed_body v q.body
  pub are : ArePrepared before (body_answer n u body).sent mid
  pub rest : map rested mid ≡ map rested before
  pub takes : (d : ℕ) → prepared_at late d ≡
      cond (nat_eq d u.0) (taken_by v q.acks (prepared_at mid d)) (prepared_at mid d)
  pub peers : peer_numbers late ≡ peer_numbers mid
  pub is : after ≡ map committed late

module _ (n m : NodeView) (before mid late after : List Adjacency) (u : NodeId) (v : Heard) (q : Packet)
    (body : Option Msg) (was : IsPacketTaken n before mid late after u v q body) where
  open was use {heard, handed, are, rest, takes, peers, is}

  abbrev pub outs : List Out
  outs = (body_answer n u body).sent

  answer-is : body_answer n u body ≡ on_first n.place n.state u (handed_up_of (heard_as (hop_at before u.0) q) q)
  answer-is =
      ap (λ ms. on_first n.place n.state u ms) (handed ∙ handed-is v q ∙ ap (λ w. handed_up_of w q) heard)

  taken-hop : (d : ℕ) → all_sent (prepared_at late d) ≡ all_sent
      (record { state = heard_hops (hop_at before) u q d; prepared = (prepared_at mid d).prepared })
  taken-hop d = ap all_sent (takes d) ∙ go (nat_eq d u.0) refl
    where
      state : hop_at mid d ≡ hop_at before d
      state = same-hop mid before rest d

      go : (b : Bool) → nat_eq d u.0 ≡ b →
          all_sent (cond b (taken_by v q.acks (prepared_at mid d)) (prepared_at mid d))
          ≡ all_sent (record {
            state = cond b (received (hop_at before d) q) (hop_at before d);
            prepared =
                (prepared_at mid d).prepared;
          })
      go true e =
          let same : d ≡ u.0 = grind arith in
          ap (λ (h : HopState). all_sent (record {
            state = taken h v q.acks;
            prepared =
                (prepared_at mid d).prepared;
          })) state
          ∙ ap (λ w. all_sent (record {
            state = taken (hop_at before d) w q.acks;
            prepared =
                (prepared_at mid d).prepared;
          }))
          (heard ∙ ap (λ k. heard_as (hop_at before k) q) (sym same))
      go false e = ap (λ (h : HopState). all_sent (record { state = h; prepared = (prepared_at mid d).prepared })) state

  took-hops : (d : ℕ) → hop_at after d ≡ sent_on (heard_hops (hop_at before) u q) outs d
  took-hops d =
      ap (λ xs. hop_at xs d) is ∙ hop-committed late d ∙ taken-hop d
      ∙ sent-later (hop_at before) (heard_hops (hop_at before) u q) outs d (prepared_at mid d).prepared
      (prepared-for before mid outs are rest d) (heard-sent (hop_at before) u q d)

  pub took-becomes : m.place ≡ n.place → m.state ≡ changed n.state (body_answer n u body) →
      Becomes n m before after (took n.place (meaning n before) u q).after
  took-becomes place state = record {
    place = place;
    state = state ∙ ap (changed n.state) answer-is;
    hops = λ d. took-hops d ∙ ap (λ a. sent_on (heard_hops (hop_at before) u q) a.sent d) answer-is;
    peers = ap peer_numbers is ∙ peers-committed late ∙ peers ∙ same-peers mid before rest;
    rest = committed-rest late after is;
  }

  pub took-frames : (first acked last : List Frame) → acked ≡ first ++ frames_to n.place.id (acks_to u v q) →
      last ≡ acked ++ frames_to n.place.id (packets_on (hop_at before) outs) →
      last ≡ first ++ frames_to n.place.id (took n.place (meaning n before) u q).sendings
  took-frames first acked last a l =
      l ∙ ap (λ fs. fs ++ frames_to n.place.id (packets_on (hop_at before) outs)) a
      ∙ append_assoc first (frames_to n.place.id (acks_to u v q))
      (frames_to n.place.id (packets_on (hop_at before) outs))
      ∙ ap (λ fs. first ++ fs) (sym (frames-append n.place.id (acks_to u v q) (packets_on (hop_at before) outs)))
      ∙ ap (λ ps. first ++ frames_to n.place.id (acks_to u v q ++ ps))
      (packets-later outs (hop_at before) (heard_hops (hop_at before) u q) (λ d. heard-sent (hop_at before) u q d))
      ∙ ap (λ w. first ++ frames_to n.place.id (acks_to u w q ++ packets_on (heard_hops (hop_at before) u q) outs))
      heard
      ∙ ap (λ b. first ++ frames_to n.place.id (acks_to u (heard_as (hop_at before u.0) q) q ++
      packets_on (heard_hops (hop_at before) u q) b.sent)) answer-is

  pub took-spelled : AllSpelled n.place.id (acks_to u v q) → AllSpelled n.place.id (packets_on (hop_at before) outs) →
      AllSpelled n.place.id (took n.place (meaning n before) u q).sendings
  took-spelled acks packets =
      subst (λ b. AllSpelled n.place.id (acks_to u (heard_as (hop_at before u.0) q) q ++ packets_on after-heard b.sent))
      answer-is
      (subst (λ w. AllSpelled n.place.id (acks_to u w q ++ packets_on after-heard outs)) heard
      (both-spelled n.place.id (acks_to u v q) (packets_on after-heard outs) acks
      (subst (AllSpelled n.place.id)
      (packets-later outs (hop_at before) after-heard (λ d. heard-sent (hop_at before) u q d)) packets)))
    where
      after-heard : ℕ → HopState
      after-heard = heard_hops (hop_at before) u q

-- An acknowledgement alone is taken: nothing is handed up or prepared.
pub ack-taken : (n : NodeView) (before late : List Adjacency) (u : NodeId) (id : MsgId) → map rested before ≡ before →
    map rested late ≡ late →
    ((d : ℕ) → prepared_at late d ≡ taken_at before u Acked (id ∷ []) d) → peer_numbers late ≡ peer_numbers before →
    IsPacketTaken n before before late late u Acked (ack_alone id) None
ack-taken n before late u id rest rests takes peers = record {
  heard = refl;
  handed = refl;
  are = nothing-prepared n u None before refl rest;
  rest = refl;
  takes = takes;
  peers = peers;
  is = resting-committed late rests;
}
