-- What one node does leaves the other nodes' parts of a world.
use Rattle.std.proofs.Common.{◌≡◌, ℕ, false, cond, nat_eq, List, drop, refl, ap, ◌∙◌}
use Rattle.std.specs.Prelude.{◌+◌}
use Rattle.ason_base.specs.{declared.ids.NodeId.NodeId, declared.commands.Event.Event, declared.commands.Event.TheVariants.{Deliver, Noise, Tick, Desk}, Network.Network}
use Rattle.ason_base.proofs.Numbers.{number-flip}
use Rattle.world_rules.specs.{Worlds.{World, frame_at, with_event}, WorldRuns.{is_event_of, world_step}, Standing.IsUntouched}
use Rattle.world_rules.proofs.{Delivered.{IsWorldKept, kept-delivered}, Untouched.others-are-untouched}
use Rattle.world_merge.specs.Merges.{Agrees}
use Rattle.world_merge.proofs.Agreeing.{agree}

counted_elsewhere : (w : World) (k m : ℕ) → nat_eq k m ≡ false → (with_event w k).made m ≡ w.made m
counted_elsewhere w k m e = ap (λ b. cond b (w.made m + 1) (w.made m)) (number-flip k m false e)

-- the events that are of one node each
pub data NodeEvent : Type 0 where
  Delivered : (to from : NodeId) (number : ℕ) → NodeEvent
  Noised : (to from : NodeId) (bytes : List ℕ) → NodeEvent
  TickedAt : (node : NodeId) → NodeEvent
  HandledAt : (node : NodeId) → NodeEvent

abbrev pub event : NodeEvent → Event
event (Delivered d u k) = Deliver d u k
event (Noised d u bytes) = Noise d u bytes
event (TickedAt n) = Tick n
event (HandledAt n) = Desk n

kept_elsewhere : (t : Network) (w : World) (e : NodeEvent) (m : ℕ) → is_event_of m (event e) ≡ false →
    IsWorldKept w (world_step t w (event e)) m
kept_elsewhere t w (Delivered d u k) m e =
    let f = kept-delivered t (with_event w d.0) d u (frame_at w u d k) m in
    record { desk = f.desk; made = f.made ∙ counted_elsewhere w d.0 m e; posted = f.posted; failed = f.failed }
kept_elsewhere t w (Noised d u bytes) m e =
    record { desk = refl; made = counted_elsewhere w d.0 m e; posted = refl; failed = refl }
kept_elsewhere t w (TickedAt n) m e =
    record { desk = refl; made = counted_elsewhere w n.0 m e; posted = refl; failed = refl }
kept_elsewhere t w (HandledAt n) m e = record {
  desk = ap (λ b. cond b (drop 1 (w.desks m)) (w.desks m)) (number-flip n.0 m false e);
  made = counted_elsewhere w n.0 m e;
  posted = refl;
  failed = refl;
}

-- an event of another node leaves all of this one
pub others-agree : (t : Network) (w : World) (e : NodeEvent) (m : ℕ) → is_event_of m (event e) ≡ false →
    Agrees m (world_step t w (event e)) w
others-agree t w e m other =
    let f : IsUntouched w (world_step t w (event e)) m = others-are-untouched t w (event e) m other in
    let g = kept_elsewhere t w e m other in
    agree m (world_step t w (event e)) w f.nodes g.desk f.ends f.floods f.channels g.made g.posted g.failed
