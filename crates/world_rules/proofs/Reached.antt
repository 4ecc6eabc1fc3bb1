-- In every world the two ends of each hop are a pair to which a schedule of the hop leads.
use Rattle.std.proofs.Common.{◌≡◌, ℕ, Bool, true, false, cond, nat_eq, List, [], ◌∷◌, ◌++◌, refl, sym, ap, ◌∙◌, subst, arith}
use Rattle.std.specs.{Prelude.{◌&&◌, Option, Some, None, is_some}, List.slice_get}
use Rattle.ason_base.specs.{declared.ids.NodeId.NodeId, declared.commands.Command.Command, declared.commands.Command.TheVariants.{Setup, Release, Protect, Retry, Revert, Fail, Repair}, declared.commands.Event.Event, declared.commands.Event.TheVariants.{Deliver, Noise, Tick, Desk, Post}, declared.messages.Msg.Msg, declared.messages.Packet.Packet, Network.Network}
use Rattle.ason_base.proofs.Numbers.{two-numbers}
use Rattle.flood.specs.{declared.frames.Content.Content, declared.frames.Content.TheVariants.{Message, Flood}, declared.messages.FloodMsg.FloodMsg, Networks.sent_to_node, State.{sends_after, sent_at_tick}}
use Rattle.hop_reliable.specs.Schedules.{HopEnd, BothWays, HandedUpInOrder, IsInOrder, idle, end_takes, end_ticks}
use Rattle.mesh_rules.specs.{Changes.Answer, Events.on_first_item, LocalNodes.local_node, Machine.sent_to, Messages.on_message, Waits.on_tick}
use Rattle.world_rules.specs.{Worlds.{World, world_commit, delivered, flooded, floods_ticked, frame_at, handed_up, handled, hops_ticked, sends_all, world_start, packet_taken, with_event}, WorldRuns.{IsEnabled, IsWorldRun, world_after, is_world_channel, may_act, world_posted, world_step, world_without_item}}
use Rattle.world_rules.proofs.{Channels.{HasPackets, IsPacketMade, has-flooded, has-sent, has-taken, has-ticked, is-made}, Ends.{IsHopReached, hop_pair, reached-east, reached-sends, reached-start, reached-ticks, reached-west}, Ways.up-sends}

-- an end whose frames nobody takes, and which takes none
pub record IsAlone (x : HopEnd) : Type 0 where
  pub up : x.up ≡ []
  pub reached : IsHopReached (hop_pair x idle)

pub record AreReached (w : World) : Type 0 where
  -- the two ends of a hop between two nodes
  pub apart : (a b : ℕ) → nat_eq a b ≡ false → IsHopReached (hop_pair (w.ends a b) (w.ends b a))
  -- there is no channel from a node to itself
  pub alone : (a : ℕ) → IsAlone (w.ends a a)
  pub channels : (a b : ℕ) → HasPackets (w.channels a b) (w.ends a b)

pub are-reached-start : (t : Network) → AreReached (world_start t)
are-reached-start t = record {
  apart = λ a b e. reached-start;
  alone = λ a. record { up = refl; reached = reached-start };
  channels = λ a b. refl;
}

pub reached-event : (w : World) (n : ℕ) → AreReached w → AreReached (with_event w n)
reached-event w n r = record { apart = r.apart; alone = r.alone; channels = r.channels }

-- A rule's answer

alone_sends : (b : Bool) (ms : List Msg) (x : HopEnd) → IsAlone x → IsAlone (cond b (sends_all ms x) x)
alone_sends true ms x f = record {
  up = up-sends ms x ∙ f.up;
  reached =
      reached-sends true false ms [] x idle f.reached;
}
alone_sends false ms x f = f

pub reached-commit : (w : World) (n : ℕ) (a : Answer) → AreReached w → AreReached (world_commit w n a)
reached-commit w n a r = record {
  apart = λ u d e. reached-sends (nat_eq u n) (nat_eq d n) (sent_to d a.sent) (sent_to u a.sent) (w.ends u d)
      (w.ends d u) (r.apart u d e);
  alone = λ u. alone_sends (nat_eq u n) (sent_to u a.sent) (w.ends u u) (r.alone u);
  channels = λ u d. has-sent (nat_eq u n) (sent_to d a.sent) (w.channels u d) (w.ends u d) (r.channels u d);
}

-- Hops tick

alone_ticks : (b : Bool) (x : HopEnd) → IsAlone x → IsAlone (cond b (end_ticks x) x)
alone_ticks true x f = record { up = f.up; reached = reached-ticks true false x idle f.reached }
alone_ticks false x f = f

pub reached-hops : (w : World) (n : ℕ) → AreReached w → AreReached (hops_ticked w n)
reached-hops w n r = record {
  apart = λ u d e. reached-ticks (nat_eq u n) (nat_eq d n) (w.ends u d) (w.ends d u) (r.apart u d e);
  alone = λ u. alone_ticks (nat_eq u n) (w.ends u u) (r.alone u);
  channels = λ u d. has-ticked (nat_eq u n) (w.channels u d) (w.ends u d) (r.channels u d);
}

-- Floods

pub reached-flooded : (t : Network) (w : World) (d u : NodeId) (m : FloodMsg) → AreReached w →
    AreReached (flooded t w d u m)
reached-flooded t w d u m r = record {
  apart = r.apart;
  alone = r.alone;
  channels = λ a b. has-flooded (nat_eq a d.0) (sent_to_node b (sends_after (w.floods a) u m)) (w.channels a b)
      (w.ends a b) (r.channels a b);
}

pub reached-floods : (w : World) (n : ℕ) → AreReached w → AreReached (floods_ticked w n)
reached-floods w n r = record {
  apart = r.apart;
  alone = r.alone;
  channels = λ a b. has-flooded (nat_eq a n) (sent_to_node b (sent_at_tick (w.floods a))) (w.channels a b) (w.ends a b)
      (r.channels a b);
}

-- A packet is taken

not_both : (a b u d : ℕ) → nat_eq u d ≡ false → (nat_eq a d && nat_eq b u) ≡ true → (nat_eq b d && nat_eq a u) ≡ false
not_both a b u d e h = grind arith

not_alone : (a u d : ℕ) → nat_eq u d ≡ false → (nat_eq a d && nat_eq a u) ≡ false
not_alone a u d e = grind arith

pub reached-taken : (w : World) (d u : NodeId) (p : Packet) → nat_eq u.0 d.0 ≡ false → IsPacketMade (w.ends u.0 d.0) p →
    AreReached w →
    AreReached (packet_taken w d u p)
reached-taken w d u p other made r = record {
  apart = λ a b e. both a b e (nat_eq a d.0 && nat_eq b u.0) refl (nat_eq b d.0 && nat_eq a u.0) refl;
  alone = λ a. subst (λ c. IsAlone (cond c (end_takes (Some p) (w.ends a a)) (w.ends a a)))
      (sym (not_alone a u.0 d.0 other)) (r.alone a);
  channels = λ a b. has-taken (nat_eq a d.0 && nat_eq b u.0) p (w.channels a b) (w.ends a b) (r.channels a b);
}
  where
    -- what goes from the sender's end is among its frames
    there : (a b : ℕ) → (nat_eq a d.0 && nat_eq b u.0) ≡ true → slice_get (w.ends b a).frames made.place ≡ Some p
    there a b h =
        let is = two-numbers a b u.0 d.0 h in
        ap (λ n. slice_get (w.ends n a).frames made.place) is.1
        ∙ ap (λ n. slice_get (w.ends u.0 n).frames made.place) is.0 ∙ made.there

    both : (a b : ℕ) → nat_eq a b ≡ false → (c : Bool) → (nat_eq a d.0 && nat_eq b u.0) ≡ c → (f : Bool) →
        (nat_eq b d.0 && nat_eq a u.0) ≡ f →
        IsHopReached (hop_pair (cond c (end_takes (Some p) (w.ends a b)) (w.ends a b))
        (cond f (end_takes (Some p) (w.ends b a)) (w.ends b a)))
    both a b e true h true k = absurd (cc (not_both a b u.0 d.0 other h, k))
    both a b e true h false k = reached-west (w.ends a b) (w.ends b a) made.place p (there a b h) (r.apart a b e)
    both a b e false h true k = reached-east (w.ends a b) (w.ends b a) made.place p (there b a k) (r.apart a b e)
    both a b e false h false k = r.apart a b e

-- a frame that was sent was made at its sender's end
pub reached-frame : (w : World) (d u : NodeId) (k : ℕ) (p : Packet) → nat_eq u.0 d.0 ≡ false →
    frame_at w u d k ≡ Some (Message p) → AreReached w →
    AreReached (packet_taken w d u p)
reached-frame w d u k p other e r =
    reached-taken w d u p other (is-made (w.channels u.0 d.0) (w.ends u.0 d.0) k p (r.channels u.0 d.0) e) r

-- Every event

reached_handled : (t : Network) (w : World) (d u : NodeId) (ms : List Msg) → AreReached w →
    AreReached (handled t w d u ms)
reached_handled t w d u [] r = r
reached_handled t w d u (m ∷ ms) r = reached-commit w d.0 (on_message (local_node t d) (w.nodes d.0) u m) r

reached_delivered : (t : Network) (w : World) (d u : NodeId) (k : ℕ) (o : Option Content) → nat_eq u.0 d.0 ≡ false →
    frame_at w u d k ≡ o →
    AreReached w → AreReached (delivered t w d u o)
reached_delivered t w d u k None other e r = r
reached_delivered t w d u k (Some (Message p)) other e r =
    reached_handled t (packet_taken w d u p) d u (handed_up w d u p) (reached-frame w d u k p other e r)
reached_delivered t w d u k (Some (Flood m)) other e r = reached-flooded t w d u m r

reached_posted : (t : Network) (w : World) (c : Command) → AreReached w → AreReached (world_posted t w c)
reached_posted t w (Setup n from to protected both via backup) r =
    record { apart = r.apart; alone = r.alone; channels = r.channels }
reached_posted t w (Release n from) r = record { apart = r.apart; alone = r.alone; channels = r.channels }
reached_posted t w (Protect n from) r = record { apart = r.apart; alone = r.alone; channels = r.channels }
reached_posted t w (Retry n from) r = record { apart = r.apart; alone = r.alone; channels = r.channels }
reached_posted t w (Revert n from) r = record { apart = r.apart; alone = r.alone; channels = r.channels }
reached_posted t w (Fail g) r = record { apart = r.apart; alone = r.alone; channels = r.channels }
reached_posted t w (Repair g) r = record { apart = r.apart; alone = r.alone; channels = r.channels }

-- the two nodes of a channel aren't one
pub is-other : (t : Network) (u d : NodeId) (b c : Bool) → (b && is_world_channel t u d && c) ≡ true →
    nat_eq u.0 d.0 ≡ false
is-other t u d b c h = grind arith

pub reached-item : (w : World) (n : ℕ) → AreReached w → AreReached (world_without_item w n)
reached-item w n r = record { apart = r.apart; alone = r.alone; channels = r.channels }

pub are-reached-step : (t : Network) (w : World) (e : Event) → IsEnabled t w e → AreReached w →
    AreReached (world_step t w e)
are-reached-step t w (Deliver d u k) on r =
    reached_delivered t (with_event w d.0) d u k (frame_at w u d k)
    (is-other t u d (may_act t w d) (is_some (frame_at w u d k)) on) refl (reached-event w d.0 r)
are-reached-step t w (Noise d u bytes) on r = reached-event w d.0 r
are-reached-step t w (Tick n) on r =
    reached-commit (floods_ticked (hops_ticked (with_event w n.0) n.0) n.0) n.0
    (on_tick (local_node t n) (w.nodes n.0))
    (reached-floods (hops_ticked (with_event w n.0) n.0) n.0
    (reached-hops (with_event w n.0) n.0 (reached-event w n.0 r)))
are-reached-step t w (Desk n) on r =
    reached-commit (world_without_item (with_event w n.0) n.0) n.0
    (on_first_item (local_node t n) (w.nodes n.0) (w.desks n.0))
    (reached-item (with_event w n.0) n.0 (reached-event w n.0 r))
are-reached-step t w (Post c) on r = reached_posted t w c r

pub are-reached-run : (t : Network) (events : List Event) (w : World) → IsWorldRun t w events → AreReached w →
    AreReached (world_after t w events)
are-reached-run t [] w run r = r
are-reached-run t (e ∷ es) w run r = are-reached-run t es (world_step t w e) run.1 (are-reached-step t w e run.0 r)

-- What the law of the hop says of them

pub in-order : HandedUpInOrder → (w : World) → AreReached w → (a b : ℕ) → IsInOrder (w.ends a b) (w.ends b a)
in-order law w r a b = by_test (nat_eq a b) refl
  where
    by_test : (c : Bool) → nat_eq a b ≡ c → IsInOrder (w.ends a b) (w.ends b a)
    by_test false e = let f = r.apart a b e in (subst (BothWays IsInOrder) f.leads (law f.schedule)).0
    by_test true e =
        let is : a ≡ b = grind arith in
        subst (λ n. IsInOrder (w.ends a n) (w.ends n a)) is
        ((w.ends a a).given, ap (λ (up : List Msg). up ++ (w.ends a a).given) (r.alone a).up)
