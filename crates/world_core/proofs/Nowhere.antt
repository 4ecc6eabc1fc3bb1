-- In every run of a topology nothing waits at a number that is no node's.
use Rattle.std.proofs.Common.{◌≡◌, Bool, true, false, List, [], ◌∷◌, refl, arith}
use Rattle.std.specs.Prelude.{◌&&◌, is_some, not}
use Rattle.ason_base.specs.{declared.commands.Event.Event, declared.commands.Event.TheVariants.{Deliver, Noise, Tick, Desk, Post}, declared.ids.NodeId.NodeId, Network.{IsTopology, Network, is_node_id}}
use Rattle.ason_base.proofs.{Bools.and-left, Numbers.self-number}
use Rattle.mesh_rules.specs.{Commands.{is_again, is_valid}, Events.has_first}
use Rattle.world_core.specs.Replays.{IsNowhere}
use Rattle.world_rules.specs.{WorldRuns.{IsEnabled, IsWorldRun, world_after, is_world_channel, may_act, world_step}, Worlds.{World, frame_at, world_start}}
use Rattle.world_core.proofs.{Left.still-nowhere, Beginning.nothing-due, Posting.nowhere-posted}

-- who may act is a node
acts : (a b c : Bool) → (a && b && c) ≡ true → a ≡ true
acts a b c h = grind arith

pub node_of : (t : Network) (w : World) (n : NodeId) → may_act t w n ≡ true → is_node_id t.nodes n ≡ true
node_of t w n may = and-left (is_node_id t.nodes n) _ may

nowhere-step : (t : Network) (w : World) (e : Event) (m : NodeId) → IsTopology t → IsEnabled t w e →
    is_node_id t.nodes m ≡ false → IsNowhere w m.0 → IsNowhere (world_step t w e) m.0
nowhere-step t w (Deliver d u k) m valid on none is =
    still-nowhere t w (Deliver d u k) d m (self-number d.0)
    (node_of t w d (acts (may_act t w d) (is_world_channel t u d) (is_some (frame_at w u d k)) on)) none is
nowhere-step t w (Noise d u bytes) m valid on none is =
    still-nowhere t w (Noise d u bytes) d m (self-number d.0)
    (node_of t w d (and-left (may_act t w d) (is_world_channel t u d) on.0)) none is
nowhere-step t w (Tick n) m valid on none is =
    still-nowhere t w (Tick n) n m (self-number n.0) (node_of t w n on) none is
nowhere-step t w (Desk n) m valid on none is =
    still-nowhere t w (Desk n) n m (self-number n.0)
    (node_of t w n (and-left (may_act t w n) (has_first (w.desks n.0)) on)) none is
nowhere-step t w (Post c) m valid on none is =
    nowhere-posted t w c m valid (and-left (is_valid t c) (not (is_again w.posted c)) on) none is

nowhere_on : (t : Network) (events : List Event) (w : World) (m : NodeId) → IsTopology t → IsWorldRun t w events →
    is_node_id t.nodes m ≡ false → IsNowhere w m.0 → IsNowhere (world_after t w events) m.0
nowhere_on t [] w m valid run none is = is
nowhere_on t (e ∷ es) w m valid run none is =
    nowhere_on t es (world_step t w e) m valid run.1 none (nowhere-step t w e m valid run.0 none is)

pub nowhere-run : (t : Network) (events : List Event) (m : NodeId) → IsTopology t →
    IsWorldRun t (world_start t) events →
    is_node_id t.nodes m ≡ false → IsNowhere (world_after t (world_start t) events) m.0
nowhere-run t events m valid run none =
    nowhere_on t events (world_start t) m valid run none
    (record { desk = refl; hops = λ d. refl; flood = nothing-due t m valid none })
