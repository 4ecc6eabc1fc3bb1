-- Which events of a world are enabled, what each does, and runs of them.
use Rattle.std.specs.{Prelude.{ℕ, ◌==◌, ◌&&◌, nat_lt, Bool, false, not, List, [], ◌∷◌, ◌++◌, drop, filter, map, IsTrue, is_some, count_by, if◌then◌else◌}, List.list_any}
use Rattle.ason_base.specs.{declared.limits.TheConstants.MOST_EVENTS, declared.ids.NodeId.NodeId, declared.ids.CallNo.CallNo, declared.commands.Command.Command, declared.commands.Command.TheVariants.{Setup, Release, Protect, Retry, Revert, Fail, Repair}, declared.commands.DeskItem.DeskItem, declared.commands.DeskItem.TheVariants.Order, declared.commands.Group.Group, declared.commands.Event.Event, declared.commands.Event.TheVariants.{Deliver, Noise, Tick, Desk, Post}, Network.{Network, are_ends, is_node_id}}
use Rattle.mesh_rules.specs.{Commands.{is_valid, is_again}, Events.{has_first, on_first_item}, Failures.{all_news, with_group, without_group}, LocalNodes.local_node}
use Rattle.flood.specs.Frames.{SpellsNothing}
use Rattle.world_rules.specs.Worlds.{World, world_commit, delivered, frame_at, world_ticked, with_event}

-- What is enabled

-- a channel leads from a node of the topology to another, where a link joins them
abbrev pub is_world_channel : Network → NodeId → NodeId → Bool
is_world_channel t u d =
    is_node_id t.nodes u && is_node_id t.nodes d && not (u.0 == d.0)
    && list_any (λ l. are_ends l.low l.high u d) t.links

-- the nodes from which a channel leads to this one, in order of number
abbrev pub neighbours_of : Network → NodeId → List NodeId
neighbours_of t n = map (λ m. m.id) (filter (λ m. is_world_channel t m.id n) t.nodes)

-- the node is of the topology, and made fewer events than a node makes at most
abbrev pub may_act : Network → World → NodeId → Bool
may_act t w n = is_node_id t.nodes n && nat_lt (w.made n.0) MOST_EVENTS

abbrev pub IsEnabled : Network → World → Event → Type 0
IsEnabled t w (Deliver d u k) = IsTrue (may_act t w d && is_world_channel t u d && is_some (frame_at w u d k))
IsEnabled t w (Noise d u bytes) = IsTrue (may_act t w d && is_world_channel t u d) × SpellsNothing bytes
IsEnabled t w (Tick n) = IsTrue (may_act t w n)
IsEnabled t w (Desk n) = IsTrue (may_act t w n && has_first (w.desks n.0))
IsEnabled t w (Post c) = IsTrue (is_valid t c && not (is_again w.posted c))

-- What each event does

-- without the first item of the node's desk
abbrev pub world_without_item : World → ℕ → World
world_without_item w n = record w { desks = λ m. if m == n then drop 1 (w.desks m) else w.desks m }

-- with an item more at the end of the node's desk
abbrev pub world_with_item : World → ℕ → DeskItem → World
world_with_item w n item = record w { desks = λ m. if m == n then w.desks m ++ item ∷ [] else w.desks m }

abbrev pub world_with_posted : World → CallNo → World
world_with_posted w n = record w { posted = w.posted ++ n ∷ [] }

-- these groups have failed now, and the nodes are told what has changed
abbrev pub world_with_failed : Network → World → List Group → World
world_with_failed t w after = record w {
  desks = λ n. w.desks n ++ all_news t w.failed after n;
  failed = after;
}

-- a call's command goes to the desk of its ingress; where a group fails or is repaired, the nodes are told what has changed
abbrev pub world_posted : Network → World → Command → World
world_posted t w (Setup n from to protected both via backup) =
    world_with_posted (world_with_item w from.0 (Order (Setup n from to protected both via backup))) n
world_posted t w (Release n from) = world_with_item w from.0 (Order (Release n from))
world_posted t w (Protect n from) = world_with_item w from.0 (Order (Protect n from))
world_posted t w (Retry n from) = world_with_item w from.0 (Order (Retry n from))
world_posted t w (Revert n from) = world_with_item w from.0 (Order (Revert n from))
world_posted t w (Fail g) = world_with_failed t w (with_group g w.failed)
world_posted t w (Repair g) = world_with_failed t w (without_group g w.failed)

-- the first item of the node's desk is handled
abbrev pub desk_handled : Network → World → NodeId → World
desk_handled t w n = world_commit (world_without_item w n.0) n.0 (on_first_item (local_node t n) (w.nodes n.0) (w.desks n.0))

-- the one successor; each event but a post is one of its node
abbrev pub world_step : Network → World → Event → World
world_step t w (Deliver d u k) = delivered t (with_event w d.0) d u (frame_at w u d k)
world_step t w (Noise d u bytes) = with_event w d.0
world_step t w (Tick n) = world_ticked t (with_event w n.0) n
world_step t w (Desk n) = desk_handled t (with_event w n.0) n
world_step t w (Post c) = world_posted t w c

-- the event is one of this node; a post is of no node
abbrev pub is_event_of : ℕ → Event → Bool
is_event_of n (Deliver d u k) = d.0 == n
is_event_of n (Noise d u bytes) = d.0 == n
is_event_of n (Tick m) = m.0 == n
is_event_of n (Desk m) = m.0 == n
is_event_of n (Post c) = false

-- how many of these events are of the node
abbrev pub event_count : ℕ → List Event → ℕ
event_count n es = count_by (is_event_of n) es

-- Runs

-- each event is enabled where it comes
abbrev pub IsWorldRun : Network → World → List Event → Type 0
IsWorldRun t w [] = Unit {0}
IsWorldRun t w (e ∷ es) = IsEnabled t w e × IsWorldRun t (world_step t w e) es

-- where a run leads
abbrev pub world_after : Network → World → List Event → World
world_after t w [] = w
world_after t w (e ∷ es) = world_after t (world_step t w e) es
