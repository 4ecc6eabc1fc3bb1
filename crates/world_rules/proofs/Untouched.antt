-- What an event isn't of stays, and a channel leads to a node from its neighbour.
use Rattle.std.proofs.{Common.{◌≡◌, ℕ, Bool, true, false, cond, nat_eq, List, [], ◌∷◌, filter, refl, ap, ◌∙◌, arith}, lemmas.Bool.or_right}
use Rattle.std.specs.{Prelude.{◌&&◌, ◌||◌, not, Option, Some, None}, List.list_any}
use Rattle.ason_base.specs.{declared.ids.NodeId.NodeId, declared.network.LinkSpec.LinkSpec, declared.commands.Command.Command, declared.commands.Command.TheVariants.{Setup, Release, Protect, Retry, Revert, Fail, Repair}, declared.commands.Event.TheVariants.{Deliver, Noise, Tick, Desk, Post}, declared.messages.Msg.Msg, Network.{Network, are_ends, end_beside, is_node_id, other_end, touches}}
use Rattle.ason_base.proofs.Numbers.{number-flip, self-number}
use Rattle.flood.specs.{declared.frames.Content.Content, declared.frames.Content.TheVariants.{Message, Flood}}
use Rattle.mesh_rules.specs.{Changes.Answer, Events.on_first_item, LocalNodes.local_node, Messages.on_message, Waits.on_tick}
use Rattle.world_rules.specs.{Worlds.{World, world_commit, delivered, floods_ticked, frame_at, handed_up, handled, hops_ticked, packet_taken, with_event}, WorldRuns.{world_posted, world_step, world_without_item}, Standing.{ChannelsJoinNeighbours, IsUntouched, OthersAreUntouched}}
use Rattle.std.proofs.Common.{◌+◌}

then_untouched : (u v w : World) (m : ℕ) → IsUntouched u v m → IsUntouched v w m → IsUntouched u w m
then_untouched u v w m f g = record {
  nodes = g.nodes ∙ f.nodes;
  ends = λ d. g.ends d ∙ f.ends d;
  floods = g.floods ∙ f.floods;
  channels = λ d. g.channels d ∙ f.channels d;
}

same_nodes : (w v : World) (m : ℕ) → v.nodes m ≡ w.nodes m → v.ends m ≡ w.ends m → v.floods m ≡ w.floods m →
    v.channels m ≡ w.channels m → IsUntouched w v m
same_nodes w v m f g k h =
    record { nodes = f; ends = λ d. ap (λ z. z d) g; floods = k; channels = λ d. ap (λ z. z d) h }

commit_elsewhere : (w : World) (n : ℕ) (a : Answer) (m : ℕ) → nat_eq m n ≡ false → IsUntouched w (world_commit w n a) m
commit_elsewhere w n a m e =
    record { nodes = rw e refl; ends = λ d. rw e refl; floods = refl; channels = λ d. rw e refl }

hops_elsewhere : (w : World) (n m : ℕ) → nat_eq m n ≡ false → IsUntouched w (hops_ticked w n) m
hops_elsewhere w n m e = record { nodes = refl; ends = λ d. rw e refl; floods = refl; channels = λ d. rw e refl }

floods_elsewhere : (w : World) (n m : ℕ) → nat_eq m n ≡ false → IsUntouched w (floods_ticked w n) m
floods_elsewhere w n m e = record { nodes = refl; ends = λ d. refl; floods = rw e refl; channels = λ d. rw e refl }

handled_elsewhere : (t : Network) (w : World) (d u : NodeId) (ms : List Msg) (m : ℕ) → nat_eq m d.0 ≡ false →
    IsUntouched w (handled t w d u ms) m
handled_elsewhere t w d u [] m e = same_nodes w w m refl refl refl refl
handled_elsewhere t w d u (x ∷ xs) m e = commit_elsewhere w d.0 (on_message (local_node t d) (w.nodes d.0) u x) m e

delivered_elsewhere : (t : Network) (w : World) (d u : NodeId) (o : Option Content) (m : ℕ) → nat_eq m d.0 ≡ false →
    IsUntouched w (delivered t w d u o) m
delivered_elsewhere t w d u None m e = same_nodes w w m refl refl refl refl
delivered_elsewhere t w d u (Some (Message p)) m e =
    then_untouched w (packet_taken w d u p) (handled t (packet_taken w d u p) d u (handed_up w d u p)) m
    (record { nodes = refl; ends = λ b. rw e refl; floods = refl; channels = λ b. rw e refl })
    (handled_elsewhere t (packet_taken w d u p) d u (handed_up w d u p) m e)
delivered_elsewhere t w d u (Some (Flood f)) m e =
    record { nodes = rw e refl; ends = λ b. refl; floods = rw e refl; channels = λ b. rw e refl }

pub posted_elsewhere : (t : Network) (w : World) (c : Command) (m : ℕ) → IsUntouched w (world_posted t w c) m
posted_elsewhere t w (Setup n from to protected both via backup) m =
    same_nodes w (world_posted t w (Setup n from to protected both via backup)) m refl refl refl refl
posted_elsewhere t w (Release n from) m = same_nodes w (world_posted t w (Release n from)) m refl refl refl refl
posted_elsewhere t w (Protect n from) m = same_nodes w (world_posted t w (Protect n from)) m refl refl refl refl
posted_elsewhere t w (Retry n from) m = same_nodes w (world_posted t w (Retry n from)) m refl refl refl refl
posted_elsewhere t w (Revert n from) m = same_nodes w (world_posted t w (Revert n from)) m refl refl refl refl
posted_elsewhere t w (Fail g) m = same_nodes w (world_posted t w (Fail g)) m refl refl refl refl
posted_elsewhere t w (Repair g) m = same_nodes w (world_posted t w (Repair g)) m refl refl refl refl

event_elsewhere : (w : World) (n m : ℕ) → IsUntouched w (with_event w n) m
event_elsewhere w n m = same_nodes w (with_event w n) m refl refl refl refl

pub others-are-untouched : OthersAreUntouched
others-are-untouched t w (Deliver d u k) m e =
    then_untouched w (with_event w d.0) (delivered t (with_event w d.0) d u (frame_at w u d k)) m
    (event_elsewhere w d.0 m)
    (delivered_elsewhere t (with_event w d.0) d u (frame_at w u d k) m (number-flip d.0 m false e))
others-are-untouched t w (Noise d u bytes) m e = event_elsewhere w d.0 m
others-are-untouched t w (Tick n) m e =
    let hops : World = hops_ticked (with_event w n.0) n.0 in
    let before : World = floods_ticked hops n.0 in
    let other : nat_eq m n.0 ≡ false = number-flip n.0 m false e in
    then_untouched w before (world_step t w (Tick n)) m
    (then_untouched w hops before m
    (then_untouched w (with_event w n.0) hops m (event_elsewhere w n.0 m)
    (hops_elsewhere (with_event w n.0) n.0 m other)) (floods_elsewhere hops n.0 m other))
    (commit_elsewhere before n.0 (on_tick (local_node t n) (w.nodes n.0)) m other)
others-are-untouched t w (Desk n) m e =
    let before : World = world_without_item (with_event w n.0) n.0 in
    let other : nat_eq m n.0 ≡ false = number-flip n.0 m false e in
    then_untouched w before (world_step t w (Desk n)) m (same_nodes w before m refl refl refl refl)
    (commit_elsewhere before n.0 (on_first_item (local_node t n) (w.nodes n.0) (w.desks n.0)) m other)
others-are-untouched t w (Post c) m e = posted_elsewhere t w c m

-- Channels and neighbours

pub an_end : (low high u d : NodeId) → nat_eq u.0 d.0 ≡ false → are_ends low high u d ≡ true →
    (nat_eq low.0 d.0 || nat_eq high.0 d.0) ≡ true
an_end low high u d other h = grind arith

pub other_is : (low high u d : NodeId) → nat_eq u.0 d.0 ≡ false → are_ends low high u d ≡ true →
    nat_eq (end_beside low high d).0 u.0 ≡ true
other_is low high u d other h = by_test (nat_eq low.0 d.0) refl
  where
    by_test : (b : Bool) → nat_eq low.0 d.0 ≡ b → nat_eq (cond b high low).0 u.0 ≡ true
    by_test true e = grind arith
    by_test false e = grind arith

among_own : (u d : NodeId) (links : List LinkSpec) → nat_eq u.0 d.0 ≡ false →
    list_any (λ l. are_ends l.low l.high u d) links ≡ true →
    list_any (λ l. nat_eq (other_end l d).0 u.0) (filter (touches d) links) ≡ true
among_own u d [] other h = absurd (cc (h))
among_own u d (l ∷ ls) other h =
    by_test (are_ends l.low l.high u d) refl (touches d l) refl h (λ k. among_own u d ls other k)
  where
    later : (b : Bool) → list_any (λ k. nat_eq (other_end k d).0 u.0) (filter (touches d) ls) ≡ true →
        list_any (λ k. nat_eq (other_end k d).0 u.0) (cond b (l ∷ filter (touches d) ls) (filter (touches d) ls)) ≡ true
    later true r = or_right (nat_eq (other_end l d).0 u.0)
        (list_any (λ k. nat_eq (other_end k d).0 u.0) (filter (touches d) ls)) r
    later false r = r

    by_test : (a : Bool) → are_ends l.low l.high u d ≡ a → (b : Bool) → touches d l ≡ b →
        (a || list_any (λ k. are_ends k.low k.high u d) ls) ≡ true →
        (list_any (λ k. are_ends k.low k.high u d) ls ≡ true →
        list_any (λ k. nat_eq (other_end k d).0 u.0) (filter (touches d) ls) ≡ true) →
        list_any (λ k. nat_eq (other_end k d).0 u.0) (cond b (l ∷ filter (touches d) ls) (filter (touches d) ls)) ≡ true
    by_test true joins true own f g = rw (other_is l.low l.high u d other joins) refl
    by_test true joins false own f g = absurd (cc (own, an_end l.low l.high u d other joins))
    by_test false joins b own f g = later b (g f)

pub parts : (a b c f : Bool) → (a && b && not c && f) ≡ true → (c ≡ false) × (f ≡ true)
parts a b c f h = (grind arith, grind arith)

pub channels-join-neighbours : ChannelsJoinNeighbours
channels-join-neighbours t u d h =
    let both = parts (is_node_id t.nodes u) (is_node_id t.nodes d) (nat_eq u.0 d.0)
    (list_any (λ l. are_ends l.low l.high u d) t.links) h in
    among_own u d t.links both.0 both.1

-- An event of a node is counted there once.
pub made-once : (w : World) (n : NodeId) → (with_event w n.0).made n.0 ≡ w.made n.0 + 1
made-once w n = ap (λ b. cond b (w.made n.0 + 1) (w.made n.0)) (self-number n.0)
