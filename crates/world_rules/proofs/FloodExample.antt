-- A run in which a node learns of a link, worked out: b floods the rows of its two links, of which a knows one.
use Rattle.std.proofs.Common.{◌≡◌, ℕ, true, List, [], ◌∷◌, refl, map}
use Rattle.ason_base.specs.{declared.ids.NodeId.NodeId, declared.network.LinkSpec.LinkSpec, declared.commands.Event.Event, Network.{Network, row_of}}
use Rattle.ason_base.specs.declared.commands.Event.TheVariants as world
use Rattle.flood.specs.{declared.frames.Content.TheVariants.Flood, declared.messages.FloodMsg.TheVariants.{Row, Ack}, State.pending_count}
use Rattle.mesh_rules.specs.declared.events.MeshEvent.TheVariants.{Learn, Tick}
use Rattle.world_rules.specs.{WorldLaws.known_at, Worlds.{World, world_start}, WorldRuns.{IsWorldRun, world_after}, Images.mesh_events}
use Rattle.world_rules.proofs.ExampleNodes.{a, b, c}

link : ℕ → NodeId → NodeId → LinkSpec
link k low high = record { id = record { 0 = k }; low = low; high = high; labels = 1; metric = 1; srlgs = [] }

first : LinkSpec
first = link 1 a b

second : LinkSpec
second = link 2 b c

network : Network
network = record {
  wait = 0;
  nodes = record { id = a; convert = true } ∷ record { id = b; convert = true } ∷ record { id = c; convert = true }
      ∷ [];
  links = first ∷ second ∷ [];
}

events : List Event
events =
    world.Tick b
    ∷ world.Deliver a b 2  -- the row of the second link, before that of the first
    ∷ world.Deliver a b 1
    ∷ []

last : World
last = world_after network (world_start network) events

is_run : IsWorldRun network (world_start network) events
unfolding network events first second link a b c
is_run = (refl, (refl, (refl, tt)))

is_shown : mesh_events network (world_start network) events ≡ Tick b ∷ Learn a (record { 0 = 2 }) ∷ []
unfolding network events first second link a b c
is_shown = refl

is_known : known_at network last a ≡ row_of first ∷ row_of second ∷ []
unfolding network events first second link a b c last
is_known = refl

-- Each row is acknowledged, the one that was known too. To b goes nothing that came from there.
answered : last.channels 1 2 ≡ Flood (Ack 2) ∷ Flood (Ack 1) ∷ []
unfolding network events first second link a b c last
answered = refl

sent : last.channels 2 1 ≡ Flood (Row 1 b (row_of first)) ∷ Flood (Row 2 b (row_of second)) ∷ []
unfolding network events first second link a b c last
sent = refl

-- Own rows are due from the start: each of b's to two neighbours. Those of a and c to b.
due : map (λ n. pending_count ((world_start network).floods n)) (1 ∷ 2 ∷ 3 ∷ 4 ∷ []) ≡ 1 ∷ 4 ∷ 1 ∷ 0 ∷ []
unfolding network first second link a b c
due = refl
