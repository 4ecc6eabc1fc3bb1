-- What a deed makes of its node's part of a world is read off that part alone.
use Rattle.std.proofs.Common.{◌≡◌, ℕ, cond, nat_eq, List, [], ◌∷◌, ◌++◌, drop, refl, ◌∙◌, subst}
use Rattle.std.specs.Prelude.{◌&&◌, ◌+◌, Some}
use Rattle.ason_base.specs.{declared.ids.NodeId.NodeId, declared.ids.CallNo.CallNo, declared.commands.Command.Command, declared.commands.Command.TheVariants.{Setup, Release, Protect, Retry, Revert, Fail, Repair}, declared.commands.DeskItem.DeskItem, declared.commands.DeskItem.TheVariants.Order, declared.commands.Event.TheVariants.{Tick, Desk, Post}, declared.commands.Group.Group, declared.messages.Msg.Msg, declared.messages.Packet.Packet, Network.Network}
use Rattle.flood.specs.{declared.frames.Content.Content, declared.frames.Content.TheVariants.{Message, Flood}, Networks.sent_to_node, State.{learnt_of, sends_after, sent_at_tick}}
use Rattle.flood.specs.State as flood
use Rattle.hop_reliable.specs.{Hop.{answers_to, handed_up_of, heard_as, resent}, Schedules.{end_takes, end_ticks}}
use Rattle.mesh_rules.specs.{Changes.{Answer, changed}, Events.on_first_item, Failures.{all_news, with_group, without_group}, LocalNodes.local_node, Machine.sent_to, Messages.on_message, Waits.on_tick}
use Rattle.control_channels.specs.Controllers.{with_learnt}
use Rattle.world_rules.specs.{Worlds.{World, world_commit, delivered, floods_ticked, handed_up, handled, hops_ticked, numbered_after, sends_all, packet_taken, with_event, with_floods, with_packets}, WorldRuns.{world_step, world_with_failed, world_with_item, world_with_posted, world_without_item}}
use Rattle.world_merge.specs.{Deeds.{Deed, Handled, Heard, Posted, Ticked, Took, done}, Merges.Agrees}

-- Agreeing

-- Worlds agree of a node where what they have of it is the same: the node, its desk, its ends, its flood, its channels
-- and its count, and the posts.
pub agree : (n : ℕ) (w v : World) → w.nodes n ≡ v.nodes n → w.desks n ≡ v.desks n →
    ((d : ℕ) → w.ends n d ≡ v.ends n d) → w.floods n ≡ v.floods n → ((d : ℕ) → w.channels n d ≡ v.channels n d) →
    w.made n ≡ v.made n → w.posted ≡ v.posted → w.failed ≡ v.failed → Agrees n w v
agree n w v node desk ends flood channels made posted failed = record {
  node = node;
  desk = desk;
  ends = ends;
  flood = flood;
  channels = channels;
  made = made;
  posted = posted;
  failed = failed;
}

pub agrees-self : (n : ℕ) (w : World) → Agrees n w w
agrees-self n w = agree n w w refl refl (λ d. refl) refl (λ d. refl) refl refl refl

pub then-agrees : (n : ℕ) (u v w : World) → Agrees n u v → Agrees n v w → Agrees n u w
then-agrees n u v w f g =
    agree n u w (f.node ∙ g.node) (f.desk ∙ g.desk) (λ d. f.ends d ∙ g.ends d) (f.flood ∙ g.flood)
    (λ d. f.channels d ∙ g.channels d) (f.made ∙ g.made) (f.posted ∙ g.posted) (f.failed ∙ g.failed)

-- The same deed in two worlds that agree

counted : (n k : ℕ) (w v : World) → Agrees n w v → Agrees n (with_event w k) (with_event v k)
counted n k w v p =
    agree n (with_event w k) (with_event v k) p.node p.desk p.ends p.flood p.channels
    (λ i. cond (nat_eq n k) (p.made i + 1) (p.made i)) p.posted p.failed

committed : (n k : ℕ) (w v : World) (a b : Answer) → a ≡ b → Agrees n w v →
    Agrees n (world_commit w k a) (world_commit v k b)
committed n k w v a b e p =
    agree n (world_commit w k a) (world_commit v k b) (λ i. cond (nat_eq n k) (changed (p.node i) (e i)) (p.node i))
    p.desk
    (λ d i. cond (nat_eq n k) (sends_all (sent_to d (e i).sent) (p.ends d i)) (p.ends d i)) p.flood
    (λ d i.
    cond (nat_eq n k)
    (with_packets (p.channels d i) (numbered_after (p.ends d i).hop.sent (sent_to d (e i).sent))) (p.channels d i))
    p.made p.posted p.failed

took_packet : (n u : NodeId) (p : Packet) (w v : World) → Agrees n.0 w v →
    Agrees n.0 (packet_taken w n u p) (packet_taken v n u p)
took_packet n u p w v f =
    agree n.0 (packet_taken w n u p) (packet_taken v n u p) f.node f.desk
    (λ d i. cond (nat_eq n.0 n.0 && nat_eq d u.0) (end_takes (Some p) (f.ends d i)) (f.ends d i)) f.flood
    (λ d i.
    cond (nat_eq n.0 n.0 && nat_eq d u.0)
    (with_packets (f.channels d i) (answers_to (heard_as (f.ends d i).hop p) p)) (f.channels d i))
    f.made f.posted f.failed

same_handled : (t : Network) (n u : NodeId) (ms : List Msg) (w v : World) → Agrees n.0 w v →
    Agrees n.0 (handled t w n u ms) (handled t v n u ms)
same_handled t n u [] w v f = f
same_handled t n u (m ∷ ms) w v f =
    committed n.0 n.0 w v (on_message (local_node t n) (w.nodes n.0) u m)
    (on_message (local_node t n) (v.nodes n.0) u m)
    (λ i. on_message (local_node t n) (f.node i) u m) f

same_delivered : (t : Network) (n u : NodeId) (x : Content) (w v : World) → Agrees n.0 w v →
    Agrees n.0 (delivered t w n u (Some x)) (delivered t v n u (Some x))
same_delivered t n u (Message p) w v f =
    subst (λ ms. Agrees n.0 (handled t (packet_taken w n u p) n u (handed_up w n u p))
    (handled t (packet_taken v n u p) n u ms))
    (λ i. handed_up_of (heard_as (f.ends u.0 i).hop p) p)
    (same_handled t n u (handed_up w n u p) (packet_taken w n u p) (packet_taken v n u p) (took_packet n u p w v f))
same_delivered t n u (Flood m) w v f =
    agree n.0 (delivered t w n u (Some (Flood m))) (delivered t v n u (Some (Flood m)))
    (λ i. cond (nat_eq n.0 n.0) (with_learnt (local_node t n) (f.node i) (learnt_of (f.flood i) m)) (f.node i))
    f.desk f.ends (λ i. cond (nat_eq n.0 n.0) (flood.flood_received (f.flood i) u m) (f.flood i))
    (λ d i.
    cond (nat_eq n.0 n.0) (with_floods (f.channels d i) (sent_to_node d (sends_after (f.flood i) u m)))
    (f.channels d i)) f.made f.posted f.failed

hops : (n k : ℕ) (w v : World) → Agrees n w v → Agrees n (hops_ticked w k) (hops_ticked v k)
hops n k w v f =
    agree n (hops_ticked w k) (hops_ticked v k) f.node f.desk
    (λ d i. cond (nat_eq n k) (end_ticks (f.ends d i)) (f.ends d i)) f.flood
    (λ d i. cond (nat_eq n k) (with_packets (f.channels d i) (resent (f.ends d i).hop)) (f.channels d i)) f.made
    f.posted f.failed

floods : (n k : ℕ) (w v : World) → Agrees n w v → Agrees n (floods_ticked w k) (floods_ticked v k)
floods n k w v f =
    agree n (floods_ticked w k) (floods_ticked v k) f.node f.desk f.ends
    (λ i. cond (nat_eq n k) (flood.ticked_flood (f.flood i)) (f.flood i))
    (λ d i.
    cond (nat_eq n k) (with_floods (f.channels d i) (sent_to_node d (sent_at_tick (f.flood i)))) (f.channels d i))
    f.made f.posted f.failed

same_ticked : (t : Network) (n : NodeId) (w v : World) → Agrees n.0 w v →
    Agrees n.0 (world_step t w (Tick n)) (world_step t v (Tick n))
same_ticked t n w v f =
    committed n.0 n.0 (floods_ticked (hops_ticked (with_event w n.0) n.0) n.0)
    (floods_ticked (hops_ticked (with_event v n.0) n.0) n.0) (on_tick (local_node t n) (w.nodes n.0))
    (on_tick (local_node t n) (v.nodes n.0)) (λ i. on_tick (local_node t n) (f.node i))
    (floods n.0 n.0 (hops_ticked (with_event w n.0) n.0) (hops_ticked (with_event v n.0) n.0)
    (hops n.0 n.0 (with_event w n.0) (with_event v n.0) (counted n.0 n.0 w v f)))

popped : (n k : ℕ) (w v : World) → Agrees n w v → Agrees n (world_without_item w k) (world_without_item v k)
popped n k w v f =
    agree n (world_without_item w k) (world_without_item v k) f.node
    (λ i. cond (nat_eq n k) (drop 1 (f.desk i)) (f.desk i))
    f.ends f.flood f.channels f.made f.posted f.failed

same_desk : (t : Network) (n : NodeId) (w v : World) → Agrees n.0 w v →
    Agrees n.0 (world_step t w (Desk n)) (world_step t v (Desk n))
same_desk t n w v f =
    committed n.0 n.0 (world_without_item (with_event w n.0) n.0) (world_without_item (with_event v n.0) n.0)
    (on_first_item (local_node t n) (w.nodes n.0) (w.desks n.0))
    (on_first_item (local_node t n) (v.nodes n.0) (v.desks n.0))
    (λ i. on_first_item (local_node t n) (f.node i) (f.desk i))
    (popped n.0 n.0 (with_event w n.0) (with_event v n.0) (counted n.0 n.0 w v f))

ordered : (n k : ℕ) (x : DeskItem) (w v : World) → Agrees n w v →
    Agrees n (world_with_item w k x) (world_with_item v k x)
ordered n k x w v f =
    agree n (world_with_item w k x) (world_with_item v k x) f.node
    (λ i. cond (nat_eq n k) (f.desk i ++ x ∷ []) (f.desk i))
    f.ends f.flood f.channels f.made f.posted f.failed

told : (t : Network) (n : ℕ) (after before : List Group) (w v : World) → after ≡ before → Agrees n w v →
    Agrees n (world_with_failed t w after) (world_with_failed t v before)
told t n after before w v e f =
    agree n (world_with_failed t w after) (world_with_failed t v before) f.node
    (λ i. f.desk i ++ all_news t (f.failed i) (e i) n) f.ends f.flood f.channels f.made f.posted e

numbered : (n : ℕ) (c : CallNo) (w v : World) → Agrees n w v → Agrees n (world_with_posted w c) (world_with_posted v c)
numbered n c w v f =
    agree n (world_with_posted w c) (world_with_posted v c) f.node f.desk f.ends f.flood f.channels f.made
    (λ i. f.posted i ++ c ∷ []) f.failed

-- a post
pub same-posted : (t : Network) (n : ℕ) (c : Command) (w v : World) → Agrees n w v →
    Agrees n (world_step t w (Post c)) (world_step t v (Post c))
same-posted t n (Setup c from to protected both via backup) w v f =
    numbered n c (world_with_item w from.0 (Order (Setup c from to protected both via backup)))
    (world_with_item v from.0 (Order (Setup c from to protected both via backup)))
    (ordered n from.0 (Order (Setup c from to protected both via backup)) w v f)
same-posted t n (Release c from) w v f = ordered n from.0 (Order (Release c from)) w v f
same-posted t n (Protect c from) w v f = ordered n from.0 (Order (Protect c from)) w v f
same-posted t n (Retry c from) w v f = ordered n from.0 (Order (Retry c from)) w v f
same-posted t n (Revert c from) w v f = ordered n from.0 (Order (Revert c from)) w v f
same-posted t n (Fail g) w v f =
    told t n (with_group g w.failed) (with_group g v.failed) w v (λ i. with_group g (f.failed i)) f
same-posted t n (Repair g) w v f =
    told t n (without_group g w.failed) (without_group g v.failed) w v (λ i. without_group g (f.failed i)) f

-- a node's deed makes the same of it in worlds that agree of it
pub same-done : (t : Network) (n : NodeId) (d : Deed) (w v : World) → Agrees n.0 w v →
    Agrees n.0 (done t n w d) (done t n v d)
same-done t n (Ticked s) w v f = same_ticked t n w v f
same-done t n (Handled s) w v f = same_desk t n w v f
same-done t n (Took s u k x) w v f =
    same_delivered t n u x (with_event w n.0) (with_event v n.0) (counted n.0 n.0 w v f)
same-done t n (Heard s u bytes) w v f = counted n.0 n.0 w v f
same-done t n (Posted s c) w v f = same-posted t n.0 c w v f
