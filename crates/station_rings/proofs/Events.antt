-- A tick, an item, a frame and noise are deeds of the station's node.
use Rattle.std.proofs.{Common.{◌≡◌, true, cond, List, ◌∷◌, drop, map, filter, refl, sym, ap, ◌∙◌, subst}, lemmas.Bool.and_from}
use Rattle.std.specs.{Prelude.Some, List.Contains}
use Rattle.ason_base.specs.{declared.ids.NodeId.NodeId, declared.network.NodeSpec.NodeSpec, declared.commands.Event.TheVariants.{Deliver, Desk, Noise, Tick}, Network.Network}
use Rattle.ason_base.proofs.{Members.{kept-there, there-from_map, there-map}, Numbers.self-number}
use Rattle.flood.specs.State as flood
use Rattle.flood.specs.State.{FloodState}
use Rattle.mesh_rules.specs.{Events.has_first, LocalNodes.{LocalNode, local_node}}
use Rattle.control_channels.specs.declared.inputs.CoreInput.TheVariants as input
use Rattle.control_channels.specs.Controllers.{ControllerState, after_tick, flood_after, meaning, took_frame, unmoved}
use Rattle.control_channels.specs.Controllers as controllers
use Rattle.world_rules.specs.{WorldRuns.{is_world_channel, may_act, neighbours_of, world_step}, Standing.IsStepOf, Worlds.{World, delivered, with_event}}
use Rattle.world_rules.proofs.{Stepping.{contents-are-taken, items-are-handled, noise-moves-nothing, ticks-are-ticked}, Delivered.{IsWorldKept, kept-delivered}}
use Rattle.world_merge.specs.Deeds.{Handled, Heard, Ticked, Took, alone}
use Rattle.station_rings.specs.{Links.LinkView, Parcels.{IsBroughtIn, IsStampedBy}, Steps.{FramesAreDeeds, HasReacted, ItemsAreDeeds, NoiseIsADeed, TicksAreDeeds}}
use Rattle.station_rings.proofs.{Doing.{able, does}, Linking.{kept-in, kept-stamp}}
use Rattle.world_rules.proofs.Untouched.{made-once}

pub ticks-are-deeds : TicksAreDeeds
ticks-are-deeds t n ds old new sound r desk clock =
    does t n ds (Ticked new.clock) old new (after_tick c.node.place c.node.state c.adjacencies c.flood)
    (flood.ticked_flood c.flood) r.frames sound refl r.clock r.log r.links
    (record {
      are = r.step.reaction;
      steps = r.step.steps;
      world =
          subst (λ (p : LocalNode). IsStepOf w (world_step t w (Tick n)) n.0
          (after_tick p c.node.state c.adjacencies c.flood) (flood.ticked_flood c.flood)) (sym sound.node.place)
          (subst (λ (f : FloodState). IsStepOf w (world_step t w (Tick n)) n.0
          (after_tick (local_node t n) c.node.state c.adjacencies f) (flood.ticked_flood f)) (sym sound.node.flood)
          (ticks-are-ticked t w n c.node.state c.adjacencies sound.node.stands sound.node.hops));
      items = desk ∙ sound.node.desk;
      count = made-once w n;
    }) (able t n ds old sound r.few) tt clock
  where
    c : ControllerState
    c = old.controller

    w : World
    w = alone t n ds

pub items-are-deeds : ItemsAreDeeds
items-are-deeds t n ds i old new sound r desk clock =
    does t n ds (Handled new.clock) old new
    (controllers.item_handled c.node.place (meaning c.node c.adjacencies) i) c.flood r.frames
    sound refl r.clock r.log r.links
    (record {
      are = r.step.reaction;
      steps = r.step.steps;
      world =
          subst (λ (p : LocalNode). IsStepOf w (world_step t w (Desk n)) n.0
          (controllers.item_handled p (meaning c.node c.adjacencies) i) c.flood) (sym sound.node.place)
          (subst (λ (f : FloodState). IsStepOf w (world_step t w (Desk n)) n.0
          (controllers.item_handled (local_node t n) (meaning c.node c.adjacencies) i) f) (sym sound.node.flood)
          (items-are-handled t w n i new.desk (meaning c.node c.adjacencies) sound.node.stands items));
      items =
          sym (ap (drop 1) items)
          ∙ sym (ap (λ b. cond b (drop 1 (w.desks n.0)) (w.desks n.0)) (self-number n.0));
      count = made-once w n;
    }) (and_from (may_act t w n) (has_first (w.desks n.0)) (able t n ds old sound r.few) (ap has_first items)) tt clock
  where
    c : ControllerState
    c = old.controller

    w : World
    w = alone t n ds

    items : w.desks n.0 ≡ i ∷ new.desk
    items = sym sound.node.desk ∙ desk

-- a link leads to a neighbour, from which a channel leads back
channel_back : (t : Network) (n : NodeId) (links : List LinkView) (l : LinkView) →
    map (λ (k : LinkView). k.peer) links ≡ neighbours_of t n → Contains links l → is_world_channel t l.peer n ≡ true
channel_back t n links l peers there =
    subst (λ (v : NodeId). is_world_channel t v n ≡ true) found.2
    (kept-there (λ (m : NodeSpec). is_world_channel t m.id n) t.nodes found.0 found.1).1
  where
    near : Contains (neighbours_of t n) l.peer
    near = subst (λ ns. Contains ns l.peer) peers (there-map (λ (k : LinkView). k.peer) links l there)

    found : (m : NodeSpec) × Contains (filter (λ (m : NodeSpec). is_world_channel t m.id n) t.nodes) m × (m.id ≡ l.peer)
    found = there-from_map (λ (m : NodeSpec). m.id) (filter (λ (m : NodeSpec). is_world_channel t m.id n) t.nodes)
        l.peer near

pub frames-are-deeds : FramesAreDeeds
frames-are-deeds t n ds old new l p x sound d =
    does t n ds (Took new.clock l.peer p.number x) old new
    (took_frame c.node.place (meaning c.node c.adjacencies) c.flood l.peer x) (flood_after c.flood l.peer x) r.frames
    sound refl r.clock r.log r.links
    (record {
      are = r.step.reaction.0 x d.brought.spells;
      steps = r.step.steps;
      world =
          subst (λ (q : LocalNode). IsStepOf w after n.0
          (took_frame q (meaning c.node c.adjacencies) c.flood l.peer x) (flood_after c.flood l.peer x))
          (sym sound.node.place)
          (subst (λ (f : FloodState). IsStepOf w after n.0
          (took_frame (local_node t n) (meaning c.node c.adjacencies) f l.peer x) (flood_after f l.peer x))
          (sym sound.node.flood)
          (contents-are-taken t w n l.peer x (meaning c.node c.adjacencies) sound.node.stands));
      items = d.desk ∙ sound.node.desk ∙ sym kept.desk;
      count = kept.made ∙ made-once w n;
    }) (and_from (may_act t w n) (is_world_channel t l.peer n) (able t n ds old sound r.few)
    (channel_back t n old.links l sound.peers d.link)) came stamped
  where
    c : ControllerState
    c = old.controller

    w : World
    w = alone t n ds

    r : HasReacted n old new (input.Frame l.peer p.frame) (Deliver n l.peer p.number)
    r = d.reacted

    after : World
    after = delivered t (with_event w n.0) n l.peer (Some x)

    kept : IsWorldKept (with_event w n.0) after n.0
    kept = kept-delivered t (with_event w n.0) n l.peer (Some x) n.0

    here : IsBroughtIn new.clock l.peer p.number x old.links
    here = record {
      link = l;
      there = d.link;
      brought = record { peer = refl; parcel = p; came = d.came; brought = d.brought };
    }

    came : IsBroughtIn new.clock l.peer p.number x new.links
    came =
        subst (IsBroughtIn new.clock l.peer p.number x) (sym r.links)
        (kept-in new.clock r.frames old.links (Took new.clock l.peer p.number x) here)

    before : IsStampedBy new.clock old.clock l.peer p.number old.links
    before = record {
      link = l;
      there = d.link;
      peer = refl;
      parcel = p;
      came = d.came;
      number = refl;
      stamp = d.clock;
    }

    stamped : IsStampedBy new.clock old.clock l.peer p.number new.links
    stamped =
        subst (IsStampedBy new.clock old.clock l.peer p.number) (sym r.links)
        (kept-stamp new.clock r.frames old.links old.clock (Took new.clock l.peer p.number x) before)

pub noise-is-a-deed : NoiseIsADeed
noise-is-a-deed t n ds old new l bytes sound h clock =
    does t n ds (Heard new.clock l.peer bytes) old new (unmoved (meaning c.node c.adjacencies)) c.flood
    h.reacted.frames sound refl h.reacted.clock h.reacted.log h.reacted.links
    (record {
      are = h.reacted.step.reaction.1 h.nothing;
      steps = h.reacted.step.steps;
      world =
          subst (λ f. IsStepOf w (world_step t w (Noise n l.peer bytes)) n.0 (unmoved (meaning c.node c.adjacencies)) f)
          (sym sound.node.flood)
          (noise-moves-nothing t w n l.peer bytes (meaning c.node c.adjacencies) sound.node.stands);
      items = h.desk ∙ sound.node.desk;
      count = made-once w n;
    }) (
      and_from (may_act t w n) (is_world_channel t l.peer n) (able t n ds old sound h.reacted.few)
          (channel_back t n old.links l sound.peers h.link),
      h.nothing,
    ) tt clock
  where
    c : ControllerState
    c = old.controller

    w : World
    w = alone t n ds
