-- What an event of a world gives is enabled in the mesh, and leads from the image before it to the image after it.
use Rattle.std.proofs.Common.{◌≡◌, ℕ, Bool, true, false, cond, nat_eq, List, [], ◌++◌, refl, sym, ap, ◌∙◌, arith, append-nil}
use Rattle.std.specs.Prelude.{◌&&◌, nat_lt, Option, Some, None, is_some}
use Rattle.ason_base.specs.{declared.limits.TheConstants.MOST_EVENTS, declared.ids.NodeId.NodeId, declared.commands.Command.Command, declared.commands.Command.TheVariants.Fail, declared.commands.Event.Event, declared.commands.Event.TheVariants.{Deliver, Noise, Tick, Desk, Post}, declared.messages.Msg.Msg, Network.{Network, is_node_id}, declared.network.TeRow.TeRow}
use Rattle.flood.specs.{declared.frames.Content.Content, declared.frames.Content.TheVariants.{Message, Flood}, declared.messages.FloodMsg.FloodMsg, State.learnt_of}
use Rattle.hop_reliable.specs.Schedules.{HandedUpInOrder}
use Rattle.mesh_rules.specs.{Changes.{Answer, changed, learns, nothing}, Events.{has_first, on_first_item}, Learnt.{on_link, on_row}, LocalNodes.local_node, Machine.sent_to, Waits.on_tick, State.NodeState}
use Rattle.mesh_rules.specs.Events as mesh_runs
use Rattle.mesh_rules.specs.Machine as mesh
use Rattle.control_channels.specs.Controllers.{with_learnt}
use Rattle.world_rules.specs.{Worlds.{World, delivered, flooded, floods_ticked, frame_at, handed_up, heard_at, hops_ticked, packet_taken, with_event}, WorldRuns.{IsEnabled, is_world_channel, may_act, world_posted, world_step, world_without_item}, Images.{given_by, given_by_frame, image, learnt_by}, WorldLaws.{EachIsFound, NoiseIsNotShown, OnlyNewRowsAreShown, OnlyTheNextIsShown}}
use Rattle.world_rules.proofs.{Reached.{AreReached, is-other, reached-event, reached-floods, reached-frame, reached-hops, reached-item}, Learnt.{IsTrue, MayLearnIt, may-learn-it}, PacketsShown.{image-commit, image-hops, image_unmoved, ShowsRun, shows_handled, at_most_one, nothing_up, handled_none}}
use Rattle.ason_base.proofs.Bools.{and-right, and-left}

-- A rule's answer

-- Hops tick

-- A packet is taken

-- Every event

-- A flood message

-- nothing is learnt
image_kept : (t : Network) (w : World) (d u : NodeId) (m : FloodMsg) → learnt_of (w.floods d.0) m ≡ None →
    image (flooded t w d u m) ≡ image w
image_kept t w d u m none = λ i. record {
  nodes = λ n. node n (nat_eq n d.0) i;
  desks = w.desks;
  mail = (image w).mail;
  posted = w.posted;
  failed = w.failed;
}
  where
    node : (n : ℕ) (c : Bool) →
        cond c (with_learnt (local_node t d) (w.nodes n) (learnt_of (w.floods d.0) m)) (w.nodes n) ≡ w.nodes n
    node n true = ap (with_learnt (local_node t d) (w.nodes n)) none
    node n false = refl

-- a row is learnt
image_learnt : (t : Network) (w : World) (d u : NodeId) (m : FloodMsg) (row : TeRow) →
    learnt_of (w.floods d.0) m ≡ Some row →
    mesh.commit (image w) d.0 (on_row (local_node t d) (w.nodes d.0) row) ≡ image (flooded t w d u m)
image_learnt t w d u m row new = λ i. record {
  nodes = λ n. node n (nat_eq n d.0) refl i;
  desks = w.desks;
  mail = λ a b. mail (nat_eq a d.0) b ((image w).mail a b) i;
  posted = w.posted;
  failed = w.failed;
}
  where
    rule : NodeState → Answer
    rule s = on_row (local_node t d) s row

    node : (n : ℕ) (c : Bool) → nat_eq n d.0 ≡ c →
        cond c (changed (w.nodes n) (rule (w.nodes d.0))) (w.nodes n)
        ≡ cond c (with_learnt (local_node t d) (w.nodes n) (learnt_of (w.floods d.0) m)) (w.nodes n)
    node n true e =
        let same : n ≡ d.0 = grind arith in
        ap (λ k. changed (w.nodes n) (rule (w.nodes k))) (sym same)
        ∙ sym (ap (with_learnt (local_node t d) (w.nodes n)) new)
    node n false e = refl

    none_sent : (b : Bool) (k : ℕ) → sent_to k (cond b nothing (learns row)).sent ≡ []
    none_sent true k = refl
    none_sent false k = refl

    mail : (c : Bool) (b : ℕ) (ms : List Msg) → cond c (ms ++ sent_to b (rule (w.nodes d.0)).sent) ms ≡ ms
    mail true b ms = ap (λ (xs : List Msg). ms ++ xs) (none_sent _ b) ∙ append-nil ms
    mail false b ms = refl

shows_flooded : (t : Network) (w : World) (d u : NodeId) (m : FloodMsg) (o : Option TeRow) →
    learnt_of (w.floods d.0) m ≡ o → ((row : TeRow) → o ≡ Some row → MayLearnIt t w d row) →
    ShowsRun t (image w) (learnt_by d o) (image (flooded t w d u m))
shows_flooded t w d u m None e may = record { run = tt; leads = sym (image_kept t w d u m e) }
shows_flooded t w d u m (Some row) e may =
    let it = may row refl in
    record {
      run = (it.enabled, tt);
      leads = ap (λ l. mesh.commit (image w) d.0 (on_link (local_node t d) (w.nodes d.0) l)) it.found
          ∙ ap (λ r. mesh.commit (image w) d.0 (on_row (local_node t d) (w.nodes d.0) r)) (sym it.is)
          ∙ image_learnt t w d u m row e;
    }

shows_delivered : HandedUpInOrder → (t : Network) (w : World) (d u : NodeId) (k : ℕ) (o : Option Content) →
    nat_eq u.0 d.0 ≡ false → is_world_channel t u d ≡ true → EachIsFound t → IsTrue t w →
    frame_at w u d k ≡ o → AreReached w → ShowsRun t (image w) (given_by_frame w d u o) (image (delivered t w d u o))
shows_delivered law t w d u k None other channel each is e r = record { run = tt; leads = refl }
shows_delivered law t w d u k (Some (Flood m)) other channel each is e r =
    shows_flooded t w d u m (learnt_of (w.floods d.0) m) refl
    (λ row new. may-learn-it t w d u k m row each is other channel e new)
shows_delivered law t w d u k (Some (Message p)) other channel each is e r =
    shows_handled law t w d u p (handed_up w d u p) other (reached-frame w d u k p other e r) refl
    (λ m ms h. at_most_one (heard_at w d u p) p m ms h)

shows_posted : (t : Network) (w : World) (c : Command) → mesh_runs.posted t (image w) c ≡ image (world_posted t w c)
shows_posted t w (Fail g) = refl
shows_posted t w c = refl

middle_holds : (a b c : Bool) → (a && b && c) ≡ true → b ≡ true
middle_holds a b c h = grind arith

true-event : (t : Network) (w : World) (n : ℕ) → IsTrue t w → IsTrue t (with_event w n)
true-event t w n is = record { truth = is.truth; sent = is.sent; known = is.known }

image-floods : (w : World) (n : ℕ) → image (floods_ticked w n) ≡ image w
image-floods w n = refl

pub shows-step : HandedUpInOrder → (t : Network) → EachIsFound t → (w : World) (e : Event) → IsEnabled t w e →
    IsTrue t w → AreReached w → ShowsRun t (image w) (given_by w e) (image (world_step t w e))
shows-step law t each w (Deliver d u k) on is r =
    shows_delivered law t (with_event w d.0) d u k (frame_at w u d k)
    (is-other t u d (may_act t w d) (is_some (frame_at w u d k)) on)
    (middle_holds (may_act t w d) (is_world_channel t u d) (is_some (frame_at w u d k)) on) each
    (true-event t w d.0 is) refl
    (reached-event w d.0 r)
shows-step law t each w (Noise d u bytes) on is r = record { run = tt; leads = refl }
shows-step law t each w (Tick n) on is r =
    let before : World = with_event w n.0 in
    let rule : Answer = on_tick (local_node t n) (w.nodes n.0) in
    record {
      run = (and-left (is_node_id t.nodes n) (nat_lt (w.made n.0) MOST_EVENTS) on, tt);
      leads = ap (λ s. mesh.commit s n.0 rule) (sym (image-hops before n.0))
          ∙ sym (ap (λ s. mesh.commit s n.0 rule) (image-floods (hops_ticked before n.0) n.0))
          ∙ sym (image-commit law (floods_ticked (hops_ticked before n.0) n.0)
          (reached-floods (hops_ticked before n.0) n.0 (reached-hops before n.0 (reached-event w n.0 r))) n.0 rule);
    }
shows-step law t each w (Desk n) on is r =
    let before : World = world_without_item (with_event w n.0) n.0 in
    let rule : Answer = on_first_item (local_node t n) (w.nodes n.0) (w.desks n.0) in
    record {
      run = (and-right (may_act t w n) (has_first (w.desks n.0)) on, tt);
      leads = sym (image-commit law before (reached-item (with_event w n.0) n.0 (reached-event w n.0 r)) n.0 rule);
    }
shows-step law t each w (Post c) on is r = record { run = (on, tt); leads = shows_posted t w c }

-- What leaves the image

pub noise-is-not-shown : NoiseIsNotShown
noise-is-not-shown t w d u bytes = refl

pub only-the-next-is-shown : OnlyTheNextIsShown
only-the-next-is-shown t w d u k p e other =
    let before : World = with_event w d.0 in
    let none : handed_up before d u p ≡ [] = nothing_up (heard_at w d u p) p other in
    ap (λ o. image (delivered t before d u o)) e
    ∙ ap image (handled_none t (packet_taken before d u p) d u (handed_up before d u p) none)
    ∙ image_unmoved before d u p none

pub only-new-rows-are-shown : OnlyNewRowsAreShown
only-new-rows-are-shown t w d u k m e none =
    ap (λ o. image (delivered t (with_event w d.0) d u o)) e ∙ image_kept t (with_event w d.0) d u m none
