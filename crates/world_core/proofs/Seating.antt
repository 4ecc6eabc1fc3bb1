-- A seat that stands for its node still does after an event.
use Rattle.std.proofs.Common.{◌≡◌, ◌+◌, ℕ, cond, nat_eq, List, ◌++◌, drop, refl, sym, ap, ◌∙◌, subst, eqb-true}
use Rattle.std.specs.{Prelude.{Option, Some, None}, Option.option_map}
use Rattle.ason_base.specs.{declared.ids.NodeId.NodeId, declared.commands.DeskItem.DeskItem, Network.Network}
use Rattle.ason_base.specs.declared.commands.Event.TheVariants as world
use Rattle.ason_base.proofs.{Finding.found-passes, Numbers.self-number}
use Rattle.flood.specs.{declared.frames.Content.Content, Frames.{IsFrame, SpellsNothing}, State.FloodState}
use Rattle.flood.specs.State as flood
use Rattle.hop_reliable.specs.Schedules.{HopEnd}
use Rattle.mesh_rules.specs.LocalNodes.{LocalNode, local_node}
use Rattle.control_channels.specs.{declared.frames.Frame.Frame, declared.inputs.CoreInput.CoreInput, Adjacencies.neighbours, Controllers.{AreMade, Stepped, after_tick, flood_after, item_handled, meaning, parts_of, took_frame, unmoved}, Frames.{AllSpelled, frames_to}}
use Rattle.control_channels.proofs.Reaching.{hop-new, peers-new}
use Rattle.world_core.specs.declared.acts.Act.TheVariants as act
use Rattle.world_core.specs.{Channels.{ChannelState, HasFrames, after_frames, channel_to, receivers}, Seats.{HasDone, SeatHasReacted, SeatStands, SeatState, new_seat}}
use Rattle.world_rules.specs.{WorldRuns.world_step, Standing.{IsStepOf, IsUntouched, contents_to}, Worlds.{World, frame_at, world_start, with_event}}
use Rattle.world_rules.proofs.{Delivered.kept-delivered, Stepping.{deliveries-are-taken, items-are-handled, noise-moves-nothing, ticks-are-ticked}}
use Rattle.world_core.proofs.Sending.{has-sent, new-frames, new-there, still-there}
use Rattle.world_rules.proofs.Untouched.{made-once}

-- what an event of its node makes of a seat and of the world
record IsStepped (w new : World) (s after : SeatState) (x : Stepped) (f : FloodState)
    (frames : List Frame) : Type 0 where
  are : AreMade (parts_of s.controller) (parts_of after.controller) x f frames
  world : IsStepOf w new s.node.0 x f
  desk : after.desk ≡ new.desks s.node.0
  count : new.made s.node.0 ≡ w.made s.node.0 + 1

stepped : (t : Network) (w new : World) (s after : SeatState) (x : Stepped) (f : FloodState) {i : CoreInput}
    (done : SeatHasReacted s after i) → SeatStands t w s → IsStepped w new s after x f done.frames →
    SeatStands t new after
stepped t w new s after x f done stands is =
    subst (λ (n : NodeId). SeatStands t new (record {
      node = n;
      controller = after.controller;
      desk = after.desk;
      channels = after.channels;
    })) (sym done.node) (record {
      place = is.are.made.becomes.place ∙ stands.place;
      stands = record {
        state = is.are.made.becomes.state ∙ is.world.stands.state;
        hops = λ d. is.are.made.becomes.hops d ∙ is.world.stands.hops d;
      };
      flood = is.are.flood ∙ is.world.flood;
      hops = is.are.made.becomes.peers ∙ stands.hops;
      made = done.step.steps ∙ ap (λ k. k + 1) stands.made ∙ sym is.count;
      desk = is.desk;
      channels = λ d. still-there done.frames s.channels after.channels done.sent d.0 ∙ stands.channels d;
      frames = λ d c found. go d c (channel_to s.channels d.0) refl (sym (done.sent d.0) ∙ found);
    })
  where
    id : s.controller.node.place.id ≡ s.node
    id = ap (λ (p : LocalNode). p.id) stands.place

    sent : done.frames ≡ frames_to s.node x.sendings
    sent = is.are.made.frames ∙ ap (λ (n : NodeId). frames_to n x.sendings) id

    spelled : AllSpelled s.node x.sendings
    spelled = subst (λ (n : NodeId). AllSpelled n x.sendings) id is.are.made.spelled

    go : (d : NodeId) (c : ChannelState) (o : Option ChannelState) → channel_to s.channels d.0 ≡ o →
        option_map (after_frames done.frames) o ≡ Some c → HasFrames s.node (new.channels s.node.0 d.0) c.frames
    go d c None there e = absurd (cc (e))
    go d c (Some k) there e =
        let same : after_frames done.frames k ≡ c = cc (e) in
        let to : k.to.0 ≡ d.0 = eqb-true k.to.0 d.0
        (found-passes (λ (y : ChannelState). nat_eq y.to.0 d.0) s.channels k there) in
        subst (λ (y : ChannelState). HasFrames s.node (new.channels s.node.0 d.0) y.frames) same
        (subst (λ contents. HasFrames s.node contents (after_frames done.frames k).frames) (sym (is.world.channels d.0))
        (subst (λ fs. HasFrames s.node (w.channels s.node.0 d.0 ++ contents d)
        (after_frames fs k).frames) (sym sent)
        (has-sent s.node (w.channels s.node.0 d.0) k d.0 x.sendings to spelled (stands.frames d k there))))
      where
        contents : NodeId → List Content
        contents n = contents_to n.0 x.sendings

-- A tick

pub tick-stands : (t : Network) (w : World) (s after : SeatState) → SeatStands t w s → HasDone s act.Tick after →
    SeatStands t (world_step t w (world.Tick s.node)) after
tick-stands t w s after stands done =
    stepped t w (world_step t w (world.Tick s.node)) s after
    (after_tick s.controller.node.place s.controller.node.state s.controller.adjacencies s.controller.flood)
    (flood.ticked_flood s.controller.flood) done.0 stands
    (record {
      are = done.0.step.reaction;
      world = subst (λ (p : LocalNode). IsStepOf w (world_step t w (world.Tick s.node)) s.node.0
          (after_tick p s.controller.node.state s.controller.adjacencies s.controller.flood)
          (flood.ticked_flood s.controller.flood)) (sym stands.place)
          (subst (λ (f : FloodState). IsStepOf w (world_step t w (world.Tick s.node)) s.node.0
          (after_tick (local_node t s.node) s.controller.node.state s.controller.adjacencies f) (flood.ticked_flood f))
          (sym stands.flood)
          (ticks-are-ticked t w s.node s.controller.node.state s.controller.adjacencies stands.stands stands.hops));
      desk = done.1 ∙ stands.desk;
      count = made-once w s.node;
    })

-- An item

pub handle-stands : (t : Network) (w : World) (s after : SeatState) → SeatStands t w s → HasDone s act.Handle after →
    SeatStands t (world_step t w (world.Desk s.node)) after
handle-stands t w s after stands done =
    stepped t w (world_step t w (world.Desk s.node)) s after
    (item_handled s.controller.node.place (meaning s.controller.node s.controller.adjacencies) done.0)
    s.controller.flood
    done.2 stands
    (record {
      are = done.2.step.reaction;
      world = subst (λ (p : LocalNode). IsStepOf w (world_step t w (world.Desk s.node)) s.node.0
          (item_handled p (meaning s.controller.node s.controller.adjacencies) done.0) s.controller.flood)
          (sym stands.place)
          (subst (λ (f : FloodState). IsStepOf w (world_step t w (world.Desk s.node)) s.node.0
          (item_handled (local_node t s.node) (meaning s.controller.node s.controller.adjacencies) done.0) f)
          (sym stands.flood)
          (items-are-handled t w s.node done.0 after.desk
          (meaning s.controller.node s.controller.adjacencies) stands.stands
          (sym stands.desk ∙ done.1)));
      desk = ap (drop 1) (sym done.1 ∙ stands.desk)
          ∙ sym (ap (λ b. cond b (drop 1 (w.desks s.node.0)) (w.desks s.node.0)) (self-number s.node.0));
      count = made-once w s.node;
    })

-- A frame

pub frame-stands : (t : Network) (w : World) (s after : SeatState) (u : NodeId) (k : ℕ) (bytes : List ℕ)
    (x : Content) → frame_at w u s.node k ≡ Some x → IsFrame bytes x → SeatStands t w s →
    HasDone s (act.Take u bytes) after → SeatStands t (world_step t w (world.Deliver s.node u k)) after
frame-stands t w s after u k bytes x there bears stands done =
    let kept = kept-delivered t (with_event w s.node.0) s.node u (frame_at w u s.node k) s.node.0 in
    stepped t w (world_step t w (world.Deliver s.node u k)) s after
    (took_frame s.controller.node.place (meaning s.controller.node s.controller.adjacencies) s.controller.flood u x)
    (flood_after s.controller.flood u x) done.0 stands
    (record {
      are = done.0.step.reaction.0 x bears;
      world = subst (λ (m : LocalNode). IsStepOf w (world_step t w (world.Deliver s.node u k)) s.node.0
          (took_frame m (meaning s.controller.node s.controller.adjacencies) s.controller.flood u x)
          (flood_after s.controller.flood u x)) (sym stands.place)
          (subst (λ (f : FloodState). IsStepOf w (world_step t w (world.Deliver s.node u k)) s.node.0
          (took_frame (local_node t s.node) (meaning s.controller.node s.controller.adjacencies) f u x)
          (flood_after f u x)) (sym stands.flood)
          (deliveries-are-taken t w s.node u k x (meaning s.controller.node s.controller.adjacencies) stands.stands
          there));
      desk = done.1 ∙ stands.desk ∙ sym kept.desk;
      count = kept.made ∙ made-once w s.node;
    })

pub noise-stands : (t : Network) (w : World) (s after : SeatState) (u : NodeId) (bytes : List ℕ) → SpellsNothing bytes →
    SeatStands t w s → HasDone s (act.Take u bytes) after →
    SeatStands t (world_step t w (world.Noise s.node u bytes)) after
noise-stands t w s after u bytes nothing stands done =
    stepped t w (world_step t w (world.Noise s.node u bytes)) s after
    (unmoved (meaning s.controller.node s.controller.adjacencies)) s.controller.flood done.0 stands
    (record {
      are = done.0.step.reaction.1 nothing;
      world = subst (λ (f : FloodState). IsStepOf w (world_step t w (world.Noise s.node u bytes)) s.node.0
          (unmoved (meaning s.controller.node s.controller.adjacencies)) f) (sym stands.flood)
          (noise-moves-nothing t w s.node u bytes (meaning s.controller.node s.controller.adjacencies) stands.stands);
      desk = done.1 ∙ stands.desk;
      count = made-once w s.node;
    })

-- Events of other nodes

-- a seat of which the event isn't, with the desk that its node has in the world
desk-stands : (t : Network) (w new : World) (s : SeatState) (desk : List DeskItem) → IsUntouched w new s.node.0 →
    desk ≡ new.desks s.node.0 → new.made s.node.0 ≡ w.made s.node.0 → SeatStands t w s →
    SeatStands t new (record s { desk = desk })
desk-stands t w new s desk same desks made stands = record {
  place = stands.place;
  stands = record {
    state = stands.stands.state ∙ sym same.nodes;
    hops = λ d. stands.stands.hops d ∙ sym (ap (λ (x : HopEnd). x.hop) (same.ends d));
  };
  flood = stands.flood ∙ sym same.floods;
  hops = stands.hops;
  made = stands.made ∙ sym made;
  desk = desks;
  channels = stands.channels;
  frames = λ d c found. subst (λ contents. HasFrames s.node contents c.frames) (sym (same.channels d.0))
      (stands.frames d c found);
}

pub still-stands : (t : Network) (w new : World) (s : SeatState) → IsUntouched w new s.node.0 →
    new.desks s.node.0 ≡ w.desks s.node.0 → new.made s.node.0 ≡ w.made s.node.0 → SeatStands t w s → SeatStands t new s
still-stands t w new s same desks made stands =
    desk-stands t w new s s.desk same (stands.desk ∙ sym desks) made stands

-- these items more on the desk, here and in the world
pub put-stands : (t : Network) (w new : World) (s : SeatState) (more : List DeskItem) → IsUntouched w new s.node.0 →
    new.desks s.node.0 ≡ w.desks s.node.0 ++ more → new.made s.node.0 ≡ w.made s.node.0 → SeatStands t w s →
    SeatStands t new (record s { desk = s.desk ++ more })
put-stands t w new s more same desks made stands =
    desk-stands t w new s (s.desk ++ more) same (ap (λ items. items ++ more) stands.desk ∙ sym desks) made stands

-- A new seat

pub new-stands : (t : Network) (n : NodeId) → SeatStands t (world_start t) (new_seat t n)
new-stands t n = record {
  place = refl;
  stands = record { state = refl; hops = hop-new (neighbours (local_node t n)) };
  flood = refl;
  hops = peers-new (neighbours (local_node t n));
  made = refl;
  desk = refl;
  channels = new-there t n;
  frames = λ d c found. record { bytes = new-frames (receivers t n) d.0 c found; spelled = tt };
}
