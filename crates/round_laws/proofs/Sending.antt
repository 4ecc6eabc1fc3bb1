-- Whatever a node does: a hop that takes all that is sent meanwhile, from the last number on, hands up all of it.
use Rattle.std.proofs.Common.{◌≡◌, ◌≤◌, ◌+◌, ℕ, Bool, true, false, cond, nat_eq, nat_lt, nat_le, List, [], ◌∷◌, ◌++◌, map, refl, sym, ap, ◌∙◌, subst, append_assoc, append-nil, arith}
use Rattle.std.specs.Prelude.{◌&&◌, Some}
use Rattle.ason_base.specs.{declared.ids.NodeId.NodeId, declared.commands.Command.Command, declared.commands.Command.TheVariants.{Setup, Release, Protect, Retry, Revert, Fail, Repair}, declared.messages.Msg.Msg, declared.messages.Packet.Packet, Network.Network}
use Rattle.flood.specs.{declared.frames.Content.Content, declared.frames.Content.TheVariants.{Message, Flood}, declared.messages.FloodMsg.FloodMsg, Networks.sent_to_node, State.{sends_after, sent_at_tick}}
use Rattle.hop_reliable.specs.{Hop.{answers_to, heard_as, numbered, resent}, Schedules.{HopEnd, end_sends, end_takes, end_ticks}}
use Rattle.mesh_rules.specs.{Changes.Answer, Events.on_first_item, LocalNodes.local_node, Machine.sent_to, Messages.on_message, Waits.on_tick}
use Rattle.world_rules.specs.{Worlds.{World, world_commit, delivered, floods_ticked, handed_up, handled, hops_ticked, numbered_after, sends_all, packet_taken, with_event, with_floods, with_packets}, WorldRuns.{world_posted, world_without_item}}
use Rattle.world_merge.specs.Deeds.{Deed, Handled, Heard, Posted, Ticked, Took, alone_from, done}
use Rattle.round_laws.specs.Rings.{climb, climb_one}
use Rattle.round_laws.proofs.Climbing.{all_more, climb-append, climbs_all}

-- The channel has more at its end, and this is enough to hand up all from one number to the other.
pub record BringsMore (old new : List Content) (s r : ℕ) : Type 0 where
  pub more : List Content
  pub whole : new ≡ old ++ more
  pub enough : r ≤ climb s more

none_more : (cs : List Content) (s : ℕ) → BringsMore cs cs s s
none_more cs s = record { more = []; whole = sym (append-nil cs); enough = omega arith }

then_brings : (a b c : List Content) (i j k : ℕ) → BringsMore a b i j → BringsMore b c j k → BringsMore a c i k
then_brings a b c i j k f g = record {
  more = f.more ++ g.more;
  whole = g.whole ∙ ap (λ cs. cs ++ g.more) f.whole ∙ append_assoc a f.more g.more;
  enough = omega (arith, g.enough, all_more j (climb i f.more) g.more f.enough, climb-append i f.more g.more);
}

-- what is no new message
more_packets : (b : Bool) (cs : List Content) (packets : List Packet) (s r : ℕ) → r ≡ s →
    BringsMore cs (cond b (with_packets cs packets) cs) s r
more_packets true cs packets s r same =
    record { more = map Message packets; whole = refl; enough = omega (arith, same, climbs_all s (map Message packets)) }
more_packets false cs packets s r same = subst (BringsMore cs cs s) (sym same) (none_more cs s)

more_floods : (b : Bool) (cs : List Content) (floods : List FloodMsg) (s : ℕ) →
    BringsMore cs (cond b (with_floods cs floods) cs) s s
more_floods true cs floods s =
    record { more = map Flood floods; whole = refl; enough = climbs_all s (map Flood floods) }
more_floods false cs floods s = none_more cs s

-- the next message is handed up
next_up : (s : ℕ) (m : Msg) → climb_one s (Message (numbered (s + 1) m)) ≡ s + 1
next_up s m =
    let one : nat_eq 1 1 ≡ true = refl in
    let low : nat_lt (s + 1) (s + 1) ≡ false = grind arith in
    let high : nat_le (s + 1) s ≡ false = grind arith in
    rw (low, high) refl

sent_all : (ms : List Msg) (x : HopEnd) →
    (sends_all ms x).hop.sent ≤ climb x.hop.sent (map Message (numbered_after x.hop.sent ms))
sent_all [] x = omega arith
sent_all (m ∷ ms) x =
    subst (λ n. (sends_all ms (end_sends m x)).hop.sent ≤ climb n (map Message (numbered_after (x.hop.sent + 1) ms)))
    (sym (next_up x.hop.sent m)) (sent_all ms (end_sends m x))

new_messages : (b : Bool) (cs : List Content) (ms : List Msg) (x : HopEnd) →
    BringsMore cs (cond b (with_packets cs (numbered_after x.hop.sent ms)) cs) x.hop.sent
    (cond b (sends_all ms x) x).hop.sent
new_messages true cs ms x =
    record { more = map Message (numbered_after x.hop.sent ms); whole = refl; enough = sent_all ms x }
new_messages false cs ms x = none_more cs x.hop.sent

-- Each deed

abbrev Sent : World → World → ℕ → ℕ → Type 0
Sent w v a b = BringsMore (w.channels a b) (v.channels a b) (w.ends a b).hop.sent (v.ends a b).hop.sent

commits : (w : World) (n : ℕ) (a : Answer) (u d : ℕ) → Sent w (world_commit w n a) u d
commits w n a u d = new_messages (nat_eq u n) (w.channels u d) (sent_to d a.sent) (w.ends u d)

handles : (t : Network) (w : World) (d u : NodeId) (ms : List Msg) (a b : ℕ) → Sent w (handled t w d u ms) a b
handles t w d u [] a b = none_more (w.channels a b) (w.ends a b).hop.sent
handles t w d u (m ∷ ms) a b = commits w d.0 (on_message (local_node t d) (w.nodes d.0) u m) a b

sent_taken : (c : Bool) (p : Packet) (x : HopEnd) → (cond c (end_takes (Some p) x) x).hop.sent ≡ x.hop.sent
sent_taken true p x = refl
sent_taken false p x = refl

sent_ticked : (c : Bool) (x : HopEnd) → (cond c (end_ticks x) x).hop.sent ≡ x.hop.sent
sent_ticked true x = refl
sent_ticked false x = refl

delivers : (t : Network) (w : World) (d u : NodeId) (x : Content) (a b : ℕ) →
    Sent w (delivered t w d u (Some x)) a b
delivers t w d u (Message p) a b =
    then_brings (w.channels a b) ((packet_taken w d u p).channels a b)
    ((handled t (packet_taken w d u p) d u (handed_up w d u p)).channels a b) (w.ends a b).hop.sent
    ((packet_taken w d u p).ends a b).hop.sent
    ((handled t (packet_taken w d u p) d u (handed_up w d u p)).ends a b).hop.sent
    (more_packets (nat_eq a d.0 && nat_eq b u.0) (w.channels a b) (answers_to (heard_as (w.ends a b).hop p) p)
    (w.ends a b).hop.sent ((packet_taken w d u p).ends a b).hop.sent
    (sent_taken (nat_eq a d.0 && nat_eq b u.0) p (w.ends a b)))
    (handles t (packet_taken w d u p) d u (handed_up w d u p) a b)
delivers t w d u (Flood m) a b =
    more_floods (nat_eq a d.0) (w.channels a b) (sent_to_node b (sends_after (w.floods a) u m)) (w.ends a b).hop.sent

posts : (t : Network) (w : World) (c : Command) (a b : ℕ) → Sent w (world_posted t w c) a b
posts t w (Setup n from to protected both via backup) a b = none_more (w.channels a b) (w.ends a b).hop.sent
posts t w (Release n from) a b = none_more (w.channels a b) (w.ends a b).hop.sent
posts t w (Protect n from) a b = none_more (w.channels a b) (w.ends a b).hop.sent
posts t w (Retry n from) a b = none_more (w.channels a b) (w.ends a b).hop.sent
posts t w (Revert n from) a b = none_more (w.channels a b) (w.ends a b).hop.sent
posts t w (Fail g) a b = none_more (w.channels a b) (w.ends a b).hop.sent
posts t w (Repair g) a b = none_more (w.channels a b) (w.ends a b).hop.sent

deed_brings : (t : Network) (n : NodeId) (w : World) (d : Deed) (a b : ℕ) → Sent w (done t n w d) a b
deed_brings t n w (Ticked s) a b =
    let hops : World = hops_ticked (with_event w n.0) n.0 in
    let floods : World = floods_ticked hops n.0 in
    let tick : Answer = on_tick (local_node t n) (w.nodes n.0) in
    let s0 : ℕ = (w.ends a b).hop.sent in
    let s1 : ℕ = (hops.ends a b).hop.sent in
    then_brings (w.channels a b) (floods.channels a b) ((world_commit floods n.0 tick).channels a b) s0 s1
    ((world_commit floods n.0 tick).ends a b).hop.sent
    (then_brings (w.channels a b) (hops.channels a b) (floods.channels a b) s0 s1 s1
    (more_packets (nat_eq a n.0) (w.channels a b) (resent (w.ends a b).hop) s0 s1
    (sent_ticked (nat_eq a n.0) (w.ends a b)))
    (more_floods (nat_eq a n.0) (hops.channels a b) (sent_to_node b (sent_at_tick (w.floods a))) s1))
    (commits floods n.0 tick a b)
deed_brings t n w (Handled s) a b =
    commits (world_without_item (with_event w n.0) n.0) n.0
    (on_first_item (local_node t n) (w.nodes n.0) (w.desks n.0)) a b
deed_brings t n w (Took s u k x) a b = delivers t (with_event w n.0) n u x a b
deed_brings t n w (Heard s u bytes) a b = none_more (w.channels a b) (w.ends a b).hop.sent
deed_brings t n w (Posted s c) a b = posts t w c a b

-- a list of deeds
pub deeds_bring : (t : Network) (n : NodeId) (w : World) (ds : List Deed) (a b : ℕ) → Sent w (alone_from t n w ds) a b
deeds_bring t n w [] a b = none_more (w.channels a b) (w.ends a b).hop.sent
deeds_bring t n w (d ∷ ds) a b =
    then_brings (w.channels a b) ((done t n w d).channels a b) ((alone_from t n (done t n w d) ds).channels a b)
    (w.ends a b).hop.sent ((done t n w d).ends a b).hop.sent ((alone_from t n (done t n w d) ds).ends a b).hop.sent
    (deed_brings t n w d a b) (deeds_bring t n (done t n w d) ds a b)
