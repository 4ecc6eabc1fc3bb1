-- One run of a world, worked out: a call over one link, with a frame that comes twice and acknowledgements that come
-- late.
use Rattle.std.proofs.Common.{◌≡◌, ◌-◌, ℕ, false, true, List, [], ◌∷◌, refl, map}
use Rattle.std.specs.Prelude.{Option, Some, None}
use Rattle.ason_base.specs.{declared.limits.TheConstants.MOST_EVENTS, declared.ids.LinkId.LinkId, declared.ids.NodeId.NodeId, declared.messages.MsgId.MsgId, declared.messages.Packet.Packet, declared.commands.Command.Command, declared.commands.Command.TheVariants.Setup, declared.commands.Event.Event, Labels.numbers_from, Network.Network}
use Rattle.ason_base.specs.declared.commands.Event.TheVariants as world
use Rattle.mesh_rules.specs.declared.events.MeshEvent.TheVariants.{Take, Desk, Post}
use Rattle.rsvp_messages.specs.Packets.{Spells}
use Rattle.flood.specs.{declared.frames.Content.Content, declared.frames.Content.TheVariants.{Message, Flood}, Frames.SpellsNothing}
use Rattle.world_rules.specs.{Frames.packets_of, Worlds.{World, world_start}, WorldRuns.{IsEnabled, IsWorldRun, world_after, world_step}, Images.mesh_events}
use Rattle.world_rules.proofs.ExampleNodes.{a, b}

link : LinkId
link = record { 0 = 1 }

network : Network
network = record {
  wait = 0;
  nodes = record { id = a; convert = true } ∷ record { id = b; convert = true } ∷ [];
  links = record { id = link; low = a; high = b; labels = 1; metric = 1; srlgs = [] } ∷ [];
}

first : MsgId
first = record { epoch = 1; number = 1 }

setup : Command
setup = Setup (record { 0 = 0 }) a b false false (Some (record { node = a; link = link } ∷ [])) None

events : List Event
events =
    world.Post setup
    ∷ world.Desk a
    ∷ world.Deliver b a 1  -- the Path
    ∷ world.Deliver b a 1  -- again
    ∷ world.Deliver a b 2  -- the Resv, before the acknowledgement
    ∷ world.Deliver a b 1  -- the acknowledgement of the Path
    ∷ world.Deliver b a 2  -- the acknowledgement of the Resv
    ∷ []

last : World
last = world_after network (world_start network) events

is_run : IsWorldRun network (world_start network) events
unfolding network events setup a b link numbers_from
is_run = (refl, (refl, (refl, (refl, (refl, (refl, (refl, tt)))))))

is_shown : mesh_events network (world_start network) events ≡ Post setup ∷ Desk a ∷ Take b a ∷ Take a b ∷ []
unfolding network events setup a b link numbers_from
is_shown = refl

is_settled : (last.ends 1 2).hop.unacked ≡ []
unfolding network events setup a b link numbers_from last
is_settled = refl

-- A node's acknowledgement goes before what the rule sends, and a frame that comes again is acknowledged again.

acks_of : Content → List ℕ
acks_of (Message p) = map (λ ack. ack.number) p.acks
acks_of (Flood m) = []

acknowledged : map acks_of (last.channels 2 1) ≡ (1 ∷ []) ∷ [] ∷ (1 ∷ []) ∷ []
unfolding network events setup a b link numbers_from last acks_of
acknowledged = refl

-- Node b took a frame, the same again, and one more. The Post is of no node.

counted : last.made 2 ≡ 3
unfolding network events setup a b link numbers_from last
counted = refl

all_counted : last.made 1 ≡ 3
unfolding network events setup a b link numbers_from last
all_counted = refl

-- What is acknowledged doesn't go again, and what isn't does, as it was.

before_the_acks : World
before_the_acks = world_after network (world_start network) (world.Post setup ∷ world.Desk a ∷ [])

numbers_of : Packet → Option MsgId
numbers_of p = p.id

again : map numbers_of (packets_of ((world_step network before_the_acks (world.Tick a)).channels 1 2)) ≡ Some first ∷
    Some first ∷ []
unfolding network setup a b link numbers_from before_the_acks numbers_of first
again = refl

not_again : packets_of ((world_step network last (world.Tick a)).channels 1 2) ≡ packets_of (last.channels 1 2)
unfolding network events setup a b link numbers_from last
not_again = refl

-- What isn't enabled after the run: a frame that wasn't sent, frame 0, a frame on no channel, noise that spells a
-- packet, a tick of no
-- node of the topology, an empty desk, a call number that was posted.

IsRefused : World → Event → Type 0
IsRefused w e = IsEnabled network w e → ⊥

c : NodeId
c = record { 0 = 3 }

not_sent : IsRefused last (world.Deliver b a 4)
unfolding network events setup a b link numbers_from last IsRefused
not_sent e = absurd (cc (e))

not_from_zero : IsRefused last (world.Deliver b a 0)
unfolding network events setup a b link numbers_from last IsRefused
not_from_zero e = absurd (cc (e))

no_channel : IsRefused last (world.Deliver a a 1)
unfolding network events setup a b link numbers_from last IsRefused
no_channel e = absurd (cc (e))

no_noise : (body : List ℕ) (p : Packet) → Spells body p → IsRefused last (world.Noise b a (46 ∷ body))
unfolding IsRefused
no_noise body p spelled e = e.1 (Message p) (body, refl, spelled)

no_node : IsRefused last (world.Tick c)
unfolding network events setup a b c link numbers_from last IsRefused
no_node e = absurd (cc (e))

no_item : IsRefused last (world.Desk a)
unfolding network events setup a b link numbers_from last IsRefused
no_item e = absurd (cc (e))

not_twice : IsRefused last (world.Post setup)
unfolding network events setup a b link numbers_from last IsRefused
not_twice e = absurd (cc (e))

-- A node that made 50,000 events makes no other, and one that made one less does.

with_made : ℕ → World
with_made k = record last { made = λ n. k }

not_at_the_limit : IsRefused (with_made MOST_EVENTS) (world.Tick a)
unfolding network events setup a b link numbers_from last with_made IsRefused
not_at_the_limit e = absurd (cc (e))

below_the_limit : IsEnabled network (with_made (MOST_EVENTS - 1)) (world.Tick a)
unfolding network events setup a b link numbers_from last with_made
below_the_limit = refl

-- Bytes that begin with neither 46 nor 89 spell nothing.

noise : IsEnabled network last (world.Noise b a (7 ∷ []))
unfolding network events setup a b link numbers_from last
noise = (refl, other)
  where
    other : SpellsNothing (7 ∷ [])
    other (Message p) (body, e, spelled) = absurd (cc (e))
    other (Flood m) (body, e, spelled) = absurd (cc (e))
