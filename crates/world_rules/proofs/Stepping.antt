-- A controller's step is what the world does at its node.
use Rattle.std.proofs.Common.{◌≡◌, ℕ, Bool, true, false, cond, nat_eq, List, [], ◌∷◌, ◌++◌, map, refl, sym, ap, ◌∙◌, subst, arith, append-nil, append_assoc}
use Rattle.std.specs.{Prelude.{◌&&◌, Some}, List.flat_map}
use Rattle.ason_base.specs.{declared.ids.NodeId.NodeId, declared.messages.Msg.Msg, declared.messages.Packet.Packet, Network.Network}
use Rattle.ason_base.proofs.Numbers.{self-number, number-flip}
use Rattle.flood.specs.{declared.frames.Content.Content, declared.frames.Content.TheVariants.{Message, Flood}, declared.messages.FloodMsg.FloodMsg, Networks.sent_to_node, State.{FloodState, learnt_of, sends_after, sent_at_tick}}
use Rattle.flood.specs.State as flood
use Rattle.hop_reliable.specs.{declared.heard.Heard.Heard, declared.heard.Heard.TheVariants.{Acked, Unnumbered, Ahead, Repeat, Next}, Hop.{HopState, answers_to, received, resent, ticked}, Schedules.{HopEnd, end_takes, end_ticks}}
use Rattle.mesh_rules.specs.{Changes.Answer, Events.{on_first, on_first_item}, LocalNodes.local_node, Machine.sent_to, Messages.on_message, Orders.on_item, Waits.on_tick}
use Rattle.control_channels.specs.{Adjacencies.{again_to, hop_at, packets_on}, Controllers.{Meaning, acks_to, after_tick, carried, flood_after, floods_to, item_handled, heard_hops, took_flood, took_frame, with_learnt}, Frames.Sending}
use Rattle.world_rules.specs.{Worlds.{World, world_commit, delivered, flooded, floods_ticked, handed_up, heard_at, hops_ticked, packet_taken, with_event, with_floods, with_packets}, WorldRuns.world_without_item, Standing.{ContentsAreTaken, DeliveriesAreTaken, IsStepOf, ItemsAreHandled, NoiseMovesNothing, StandsAt, TicksAreTicked, contents_to}}
use Rattle.world_rules.specs.Worlds as world
use Rattle.world_rules.proofs.{Again.{again-packets, are-apart, contents-append}, Sent.{IsHopSent, is-sent}}

-- what the node is as a controller
abbrev at_node : World → ℕ → Meaning
at_node w n = record { state = w.nodes n; hops = λ e. (w.ends n e).hop }

same_meaning : (w : World) (n : ℕ) (c : Meaning) → StandsAt w n c → c ≡ at_node w n
same_meaning w n c is = λ i. record { state = is.state i; hops = λ e. is.hops e i }

-- A rule's answer

-- before it this went; where it is from the same node, the two are one step
committed : (old w : World) (n : ℕ) (a : Answer) (first : List Sending) (f : FloodState) → f ≡ w.floods n →
    ((e : ℕ) → w.channels n e ≡ old.channels n e ++ contents_to e first) →
    IsStepOf old (world_commit w n a) n (carried (at_node w n).hops (w.nodes n) a first) f
committed old w n a first f flood before = record {
  stands = record {
    state = rw (self-number n) refl;
    hops = λ e. (sent e).hop ∙ sym (ap (λ b. (cond b (world.sends_all (sent_to e a.sent) (w.ends n e))
        (w.ends n e)).hop) (self-number n));
  };
  flood = flood;
  channels = λ e.
      ap (λ b. cond b (with_packets (w.channels n e) (world.numbered_after (w.ends n e).hop.sent (sent_to e a.sent)))
      (w.channels n e)) (self-number n)
      ∙ ap (λ cs. w.channels n e ++ cs) (sent e).packets
      ∙ ap (λ cs. cs ++ contents_to e (packets_on (at_node w n).hops a.sent)) (before e)
      ∙ append_assoc (old.channels n e) (contents_to e first) (contents_to e (packets_on (at_node w n).hops a.sent))
      ∙ ap (λ cs. old.channels n e ++ cs) (sym (contents-append e first (packets_on (at_node w n).hops a.sent)));
}
  where
    sent : (e : ℕ) → IsHopSent e (at_node w n).hops a.sent (w.ends n e)
    sent e = is-sent e a.sent (at_node w n).hops (w.ends n e) refl

nothing_added : (cs : List Content) → cs ≡ cs ++ []
nothing_added cs = sym (append-nil cs)

-- A frame

end_taken : (w : World) (d u : NodeId) (p : Packet) (e : ℕ) →
    (packet_taken w d u p).ends d.0 e ≡ cond (nat_eq e u.0) (end_takes (Some p) (w.ends d.0 e)) (w.ends d.0 e)
end_taken w d u p e = ap (λ b. cond (b && nat_eq e u.0) (end_takes (Some p) (w.ends d.0 e)) (w.ends d.0 e)) (self-number d.0)

taken_hop : (b : Bool) (p : Packet) (x : HopEnd) →
    cond b (received x.hop p) x.hop ≡ (cond b (end_takes (Some p) x) x).hop
taken_hop true p x = refl
taken_hop false p x = refl

hop_taken : (w : World) (d u : NodeId) (p : Packet) →
    heard_hops (at_node w d.0).hops u p ≡ (at_node (packet_taken w d u p) d.0).hops
hop_taken w d u p =
    λ i e. (taken_hop (nat_eq e u.0) p (w.ends d.0 e) ∙ sym (ap (λ (x : HopEnd). x.hop) (end_taken w d u p e))) i

-- acknowledgements go to the neighbour that sent the frame
acks_here : (e : ℕ) (u : NodeId) (v : Heard) (p : Packet) → nat_eq u.0 e ≡ true →
    contents_to e (acks_to u v p) ≡ map Message (answers_to v p)
acks_here e u Next p h = rw h refl
acks_here e u Repeat p h = rw h refl
acks_here e u Acked p h = refl
acks_here e u Unnumbered p h = refl
acks_here e u Ahead p h = refl

acks_elsewhere : (e : ℕ) (u : NodeId) (v : Heard) (p : Packet) → nat_eq u.0 e ≡ false →
    contents_to e (acks_to u v p) ≡ []
acks_elsewhere e u Next p h = rw h refl
acks_elsewhere e u Repeat p h = rw h refl
acks_elsewhere e u Acked p h = refl
acks_elsewhere e u Unnumbered p h = refl
acks_elsewhere e u Ahead p h = refl

acknowledged : (w : World) (d u : NodeId) (p : Packet) (e : ℕ) →
    (packet_taken w d u p).channels d.0 e ≡ w.channels d.0 e ++ contents_to e (acks_to u (heard_at w d u p) p)
acknowledged w d u p e =
    ap (λ b. cond (b && nat_eq e u.0) (with_packets (w.channels d.0 e) (answers_to (heard_at w d (record {
      0 =
          e;
    }) p) p)) (w.channels d.0 e)) (self-number d.0)
    ∙ by_test (nat_eq e u.0) refl
  where
    by_test : (b : Bool) → nat_eq e u.0 ≡ b →
        cond b (with_packets (w.channels d.0 e) (answers_to (heard_at w d (record { 0 = e }) p) p)) (w.channels d.0 e)
        ≡ w.channels d.0 e ++ contents_to e (acks_to u (heard_at w d u p) p)
    by_test true h =
        let same : e ≡ u.0 = grind arith in
        ap (λ n. with_packets (w.channels d.0 e) (answers_to (heard_at w d (record { 0 = n }) p) p)) same
        ∙ sym (ap (λ cs. w.channels d.0 e ++ cs) (acks_here e u (heard_at w d u p) p (number-flip e u.0 true h)))
    by_test false h =
        nothing_added (w.channels d.0 e)
        ∙ sym (ap (λ cs. w.channels d.0 e ++ cs)
        (acks_elsewhere e u (heard_at w d u p) p (number-flip e u.0 false h)))

-- what is handed up is handled
carries : (t : Network) (w : World) (d u : NodeId) (p : Packet) (h : List Msg) →
    IsStepOf w (world.handled t (packet_taken w d u p) d u h) d.0
    (carried (heard_hops (at_node w d.0).hops u p) (w.nodes d.0) (on_first (local_node t d) (w.nodes d.0) u h)
    (acks_to u (heard_at w d u p) p)) (w.floods d.0)
carries t w d u p [] = record {
  stands = record { state = refl; hops = λ e. ap (λ (f : ℕ → HopState). f e) (hop_taken w d u p) };
  flood = refl;
  channels = λ e.
      acknowledged w d u p e
      ∙ ap (λ ss. w.channels d.0 e ++ contents_to e ss)
      (sym (append-nil (acks_to u (heard_at w d u p) p)));
}
carries t w d u p (m ∷ ms) =
    subst (λ hops. IsStepOf w (world_commit (packet_taken w d u p) d.0 a) d.0
    (carried hops (w.nodes d.0) a (acks_to u (heard_at w d u p) p)) (w.floods d.0)) (sym (hop_taken w d u p))
    (committed w (packet_taken w d u p) d.0 a (acks_to u (heard_at w d u p) p) (w.floods d.0) refl
    (acknowledged w d u p))
  where
    a : Answer
    a = on_message (local_node t d) (w.nodes d.0) u m

-- Floods

floods_there : (e : ℕ) (sends : List (NodeId × FloodMsg)) →
    map Flood (sent_to_node e sends) ≡ contents_to e (floods_to sends)
floods_there e [] = refl
floods_there e (x ∷ xs) = go (nat_eq x.0.0 e) refl (floods_there e xs)
  where
    go : (b : Bool) → nat_eq x.0.0 e ≡ b → map Flood (sent_to_node e xs) ≡ contents_to e (floods_to xs) →
        map Flood (sent_to_node e (x ∷ xs)) ≡ contents_to e (floods_to (x ∷ xs))
    go true h later = rw h (ap (λ cs. Flood x.1 ∷ cs) later)
    go false h later = rw h later

floods : (t : Network) (w : World) (d u : NodeId) (m : FloodMsg) →
    IsStepOf w (flooded t w d u m) d.0 (took_flood (local_node t d) (at_node w d.0) (w.floods d.0) u m)
    (flood.flood_received (w.floods d.0) u m)
floods t w d u m = record {
  stands = record {
    state = sym (ap (λ b. cond b (with_learnt (local_node t d) (w.nodes d.0) (learnt_of (w.floods d.0) m))
        (w.nodes d.0)) (self-number d.0));
    hops = λ e. refl;
  };
  flood = sym (ap (λ b. cond b (flood.flood_received (w.floods d.0) u m) (w.floods d.0)) (self-number d.0));
  channels = λ e.
      ap (λ b. cond b (with_floods (w.channels d.0 e) (sent_to_node e (sends_after (w.floods d.0) u m)))
      (w.channels d.0 e)) (self-number d.0)
      ∙ ap (λ cs. w.channels d.0 e ++ cs) (floods_there e (sends_after (w.floods d.0) u m));
}

delivers : (t : Network) (w : World) (d u : NodeId) (x : Content) →
    IsStepOf w (delivered t w d u (Some x)) d.0 (took_frame (local_node t d) (at_node w d.0) (w.floods d.0) u x)
    (flood_after (w.floods d.0) u x)
delivers t w d u (Message p) =
    let f = carries t w d u p (handed_up w d u p) in
    record { stands = f.stands; flood = kept (handed_up w d u p); channels = f.channels }
  where
    kept : (ms : List Msg) → w.floods d.0 ≡ (world.handled t (packet_taken w d u p) d u ms).floods d.0
    kept [] = refl
    kept (m ∷ ms) = refl
delivers t w d u (Flood m) = floods t w d u m

pub contents-are-taken : ContentsAreTaken
contents-are-taken t w d u x c is =
    subst (λ m. IsStepOf w (delivered t before d u (Some x)) d.0
    (took_frame (local_node t d) m (w.floods d.0) u x) (flood_after (w.floods d.0) u x))
    (sym (same_meaning w d.0 c is))
    (record {
      stands = record { state = f.stands.state; hops = f.stands.hops };
      flood = f.flood;
      channels = f.channels;
    })
  where
    before : World
    before = with_event w d.0

    f : IsStepOf before (delivered t before d u (Some x)) d.0
        (took_frame (local_node t d) (at_node before d.0) (before.floods d.0) u x)
        (flood_after (before.floods d.0) u x)
    f = delivers t before d u x

pub deliveries-are-taken : DeliveriesAreTaken
deliveries-are-taken t w d u k x c is there =
    subst (λ o. IsStepOf w (delivered t (with_event w d.0) d u o) d.0
    (took_frame (local_node t d) c (w.floods d.0) u x) (flood_after (w.floods d.0) u x)) (sym there)
    (contents-are-taken t w d u x c is)

-- Noise

pub noise-moves-nothing : NoiseMovesNothing
noise-moves-nothing t w d u bytes c is = record {
  stands = record { state = is.state; hops = is.hops };
  flood = refl;
  channels = λ e. nothing_added (w.channels d.0 e);
}

-- An item

pub items-are-handled : ItemsAreHandled
items-are-handled t w n i items c is desk =
    subst (λ m. IsStepOf w (world_commit before n.0 (on_first_item (local_node t n) (w.nodes n.0) (w.desks n.0))) n.0
    (item_handled (local_node t n) m i) (w.floods n.0)) (sym (same_meaning w n.0 c is))
    (subst (λ a. IsStepOf w (world_commit before n.0 a) n.0 (item_handled (local_node t n) (at_node w n.0) i)
    (w.floods n.0))
    (sym (ap (on_first_item (local_node t n) (w.nodes n.0)) desk))
    (committed w before n.0 (on_item (local_node t n) (w.nodes n.0) i) [] (w.floods n.0) refl
    (λ e. nothing_added (w.channels n.0 e))))
  where
    before : World
    before = world_without_item (with_event w n.0) n.0

-- A tick

end_ticked : (w : World) (n e : ℕ) → (hops_ticked w n).ends n e ≡ end_ticks (w.ends n e)
end_ticked w n e = ap (λ b. cond b (end_ticks (w.ends n e)) (w.ends n e)) (self-number n)

pub ticks-are-ticked : TicksAreTicked
ticks-are-ticked t w n s adjacencies is peers =
    subst (λ z. IsStepOf w (world_commit before n.0 a) n.0 (after_tick (local_node t n) z adjacencies f)
    (flood.ticked_flood f))
    (sym is.state)
    (subst (λ h. IsStepOf w (world_commit before n.0 a) n.0 (carried h (w.nodes n.0) a first) (flood.ticked_flood f))
    (sym ends)
    (committed w before n.0 a first (flood.ticked_flood f)
    (sym (ap (λ b. cond b (flood.ticked_flood f) f) (self-number n.0))) resends))
  where
    f : FloodState
    f = w.floods n.0

    hops : World
    hops = hops_ticked (with_event w n.0) n.0

    before : World
    before = floods_ticked hops n.0

    a : Answer
    a = on_tick (local_node t n) (w.nodes n.0)

    first : List Sending
    first = flat_map again_to adjacencies ++ floods_to (sent_at_tick f)

    ends : (λ (d : ℕ). ticked (hop_at adjacencies d)) ≡ (at_node before n.0).hops
    ends = λ i d. (ap ticked (is.hops d) ∙ sym (ap (λ (x : HopEnd). x.hop) (end_ticked (with_event w n.0) n.0 d))) i

    messages : (e : ℕ) → hops.channels n.0 e ≡ w.channels n.0 e ++ contents_to e (flat_map again_to adjacencies)
    messages e =
        ap (λ b. cond b (with_packets (w.channels n.0 e) (resent (w.ends n.0 e).hop)) (w.channels n.0 e))
        (self-number n.0)
        ∙ ap (λ (h : HopState). with_packets (w.channels n.0 e) (resent h)) (sym (is.hops e))
        ∙ sym (ap (λ cs. w.channels n.0 e ++ cs)
        (again-packets e adjacencies (are-apart (local_node t n) adjacencies peers)))

    resends : (e : ℕ) → before.channels n.0 e ≡ w.channels n.0 e ++ contents_to e first
    resends e =
        ap (λ b. cond b (with_floods (hops.channels n.0 e) (sent_to_node e (sent_at_tick f))) (hops.channels n.0 e))
        (self-number n.0)
        ∙ ap (λ cs. hops.channels n.0 e ++ cs) (floods_there e (sent_at_tick f))
        ∙ ap (λ cs. cs ++ contents_to e (floods_to (sent_at_tick f))) (messages e)
        ∙ append_assoc (w.channels n.0 e) (contents_to e (flat_map again_to adjacencies))
        (contents_to e (floods_to (sent_at_tick f)))
        ∙ ap (λ cs. w.channels n.0 e ++ cs)
        (sym (contents-append e (flat_map again_to adjacencies) (floods_to (sent_at_tick f))))
