-- What was sent on a channel stays there.
use Rattle.std.proofs.Common.{◌≡◌, ℕ, Bool, true, false, cond, nat_eq, List, [], ◌∷◌, ◌++◌, map, refl, sym, ap, ◌∙◌, append_assoc, append-nil}
use Rattle.std.specs.Prelude.{◌&&◌, Option, Some, None}
use Rattle.ason_base.specs.{declared.ids.NodeId.NodeId, declared.commands.Command.Command, declared.commands.Command.TheVariants.{Setup, Release, Protect, Retry, Revert, Fail, Repair}, declared.commands.Event.Event, declared.commands.Event.TheVariants.{Deliver, Noise, Tick, Desk, Post}, declared.messages.Msg.Msg, declared.messages.Packet.Packet, Network.Network}
use Rattle.flood.specs.{declared.frames.Content.Content, declared.frames.Content.TheVariants.{Message, Flood}, declared.messages.FloodMsg.FloodMsg, Networks.sent_to_node, State.{sends_after, sent_at_tick}}
use Rattle.hop_reliable.specs.Hop.{answers_to, heard_as, resent}
use Rattle.mesh_rules.specs.{Changes.Answer, Events.on_first_item, LocalNodes.local_node, Machine.sent_to, Messages.on_message, Waits.on_tick}
use Rattle.world_rules.specs.{Worlds.{World, world_commit, delivered, floods_ticked, frame_at, handed_up, handled, hops_ticked, numbered_after, packet_taken, with_event, with_floods, with_packets}, WorldRuns.{world_posted, world_step, world_without_item}}
use Rattle.world_merge.specs.Deeds.{Deed, Handled, Heard, Posted, Ticked, Took, alone_from, done}

-- the channel has more at its end
pub record Grows (old new : List Content) : Type 0 where
  pub more : List Content
  pub whole : new ≡ old ++ more

-- it may be nothing
pub same : (cs : List Content) → Grows cs cs
same cs = record { more = []; whole = sym (append-nil cs) }

-- and more after that
pub then_grows : (a b c : List Content) → Grows a b → Grows b c → Grows a c
then_grows a b c f g = record {
  more = f.more ++ g.more;
  whole = g.whole ∙ ap (λ cs. cs ++ g.more) f.whole ∙ append_assoc a f.more g.more;
}

if_sent : (b : Bool) (cs : List Content) (packets : List Packet) → Grows cs (cond b (with_packets cs packets) cs)
if_sent true cs packets = record { more = map Message packets; whole = refl }
if_sent false cs packets = same cs

if_flooded : (b : Bool) (cs : List Content) (floods : List FloodMsg) → Grows cs (cond b (with_floods cs floods) cs)
if_flooded true cs floods = record { more = map Flood floods; whole = refl }
if_flooded false cs floods = same cs

grows_commit : (w : World) (n : ℕ) (a : Answer) (u d : ℕ) → Grows (w.channels u d) ((world_commit w n a).channels u d)
grows_commit w n a u d = if_sent (nat_eq u n) (w.channels u d) (numbered_after (w.ends u d).hop.sent (sent_to d a.sent))

grows_handled : (t : Network) (w : World) (d u : NodeId) (ms : List Msg) (a b : ℕ) →
    Grows (w.channels a b) ((handled t w d u ms).channels a b)
grows_handled t w d u [] a b = same (w.channels a b)
grows_handled t w d u (m ∷ ms) a b = grows_commit w d.0 (on_message (local_node t d) (w.nodes d.0) u m) a b

pub grows_delivered : (t : Network) (w : World) (d u : NodeId) (o : Option Content) (a b : ℕ) →
    Grows (w.channels a b) ((delivered t w d u o).channels a b)
grows_delivered t w d u None a b = same (w.channels a b)
grows_delivered t w d u (Some (Message p)) a b =
    then_grows (w.channels a b) ((packet_taken w d u p).channels a b)
    ((handled t (packet_taken w d u p) d u (handed_up w d u p)).channels a b)
    (if_sent (nat_eq a d.0 && nat_eq b u.0) (w.channels a b) (answers_to (heard_as (w.ends a b).hop p) p))
    (grows_handled t (packet_taken w d u p) d u (handed_up w d u p) a b)
grows_delivered t w d u (Some (Flood m)) a b =
    if_flooded (nat_eq a d.0) (w.channels a b) (sent_to_node b (sends_after (w.floods a) u m))

grows_posted : (t : Network) (w : World) (c : Command) (a b : ℕ) →
    Grows (w.channels a b) ((world_posted t w c).channels a b)
grows_posted t w (Setup n from to protected both via backup) a b = same (w.channels a b)
grows_posted t w (Release n from) a b = same (w.channels a b)
grows_posted t w (Protect n from) a b = same (w.channels a b)
grows_posted t w (Retry n from) a b = same (w.channels a b)
grows_posted t w (Revert n from) a b = same (w.channels a b)
grows_posted t w (Fail g) a b = same (w.channels a b)
grows_posted t w (Repair g) a b = same (w.channels a b)

-- an event
pub channel-grows : (t : Network) (w : World) (e : Event) (a b : ℕ) →
    Grows (w.channels a b) ((world_step t w e).channels a b)
channel-grows t w (Deliver d u k) a b = grows_delivered t (with_event w d.0) d u (frame_at w u d k) a b
channel-grows t w (Noise d u bytes) a b = same (w.channels a b)
channel-grows t w (Tick n) a b =
    let hops : World = hops_ticked (with_event w n.0) n.0 in
    let floods : World = floods_ticked hops n.0 in
    let tick : Answer = on_tick (local_node t n) (w.nodes n.0) in
    then_grows (w.channels a b) (floods.channels a b) ((world_commit floods n.0 tick).channels a b)
    (then_grows (w.channels a b) (hops.channels a b) (floods.channels a b)
    (if_sent (nat_eq a n.0) (w.channels a b) (resent (w.ends a b).hop))
    (if_flooded (nat_eq a n.0) (hops.channels a b) (sent_to_node b (sent_at_tick (w.floods a)))))
    (grows_commit floods n.0 tick a b)
channel-grows t w (Desk n) a b =
    grows_commit (world_without_item (with_event w n.0) n.0) n.0 (on_first_item (local_node t n) (w.nodes n.0)
    (w.desks n.0)) a b
channel-grows t w (Post c) a b = grows_posted t w c a b

-- a deed
pub deed-grows : (t : Network) (n : NodeId) (w : World) (d : Deed) (a b : ℕ) →
    Grows (w.channels a b) ((done t n w d).channels a b)
deed-grows t n w (Ticked s) a b = channel-grows t w (Tick n) a b
deed-grows t n w (Handled s) a b = channel-grows t w (Desk n) a b
deed-grows t n w (Took s u k x) a b = grows_delivered t (with_event w n.0) n u (Some x) a b
deed-grows t n w (Heard s u bytes) a b = same (w.channels a b)
deed-grows t n w (Posted s c) a b = channel-grows t w (Post c) a b

-- all deeds
pub deeds-grow : (t : Network) (n : NodeId) (w : World) (ds : List Deed) (a b : ℕ) →
    Grows (w.channels a b) ((alone_from t n w ds).channels a b)
deeds-grow t n w [] a b = same (w.channels a b)
deeds-grow t n w (d ∷ ds) a b =
    then_grows (w.channels a b) ((done t n w d).channels a b) ((alone_from t n (done t n w d) ds).channels a b)
    (deed-grows t n w d a b) (deeds-grow t n (done t n w d) ds a b)
