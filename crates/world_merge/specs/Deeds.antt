-- What happens at one node, and what the node makes of its own part of a world, as if it were alone there.
use Rattle.std.specs.Prelude.{◌&&◌, ℕ, nat_lt, not, List, [], ◌∷◌, Some, IsTrue, if◌then◌else◌}
use Rattle.ason_base.specs.{declared.ids.NodeId.NodeId, declared.commands.Command.Command, declared.commands.Event.TheVariants.{Noise, Tick, Desk, Post}, Network.Network}
use Rattle.flood.specs.{declared.frames.Content.Content, Frames.SpellsNothing}
use Rattle.mesh_rules.specs.{Commands.{is_valid, is_again}, Events.has_first}
use Rattle.world_rules.specs.{Worlds.{World, delivered, world_start, with_event}, WorldRuns.{is_world_channel, may_act, world_step}}

-- One thing that happens at a node, with its stamp: the node ticks, handles the first item of its desk, takes a frame,
-- or hears noise; or a command is posted, which every node has in its list. Of a frame stands what it bears, since a
-- node alone doesn't know what its neighbour sent.
pub data Deed : Type 0 where
  Ticked : (stamp : ℕ) → Deed
  Handled : (stamp : ℕ) → Deed
  Took : (stamp : ℕ) (from : NodeId) (number : ℕ) (content : Content) → Deed
  Heard : (stamp : ℕ) (from : NodeId) (bytes : List ℕ) → Deed
  Posted : (stamp : ℕ) (command : Command) → Deed

abbrev pub stamp_of : Deed → ℕ
stamp_of (Ticked s) = s
stamp_of (Handled s) = s
stamp_of (Took s u k x) = s
stamp_of (Heard s u bytes) = s
stamp_of (Posted s c) = s

-- What a deed does

-- A frame is delivered with what it bears, whatever the channel has. All else is the world's step.
abbrev pub done : Network → NodeId → World → Deed → World
done t n w (Ticked s) = world_step t w (Tick n)
done t n w (Handled s) = world_step t w (Desk n)
done t n w (Took s u k x) = delivered t (with_event w n.0) n u (Some x)
done t n w (Heard s u bytes) = world_step t w (Noise n u bytes)
done t n w (Posted s c) = world_step t w (Post c)

-- where these lead from a world, one after the other
abbrev pub alone_from : Network → NodeId → World → List Deed → World
alone_from t n w [] = w
alone_from t n w (d ∷ ds) = alone_from t n (done t n w d) ds

-- the world in which the node did this, and nobody else did anything
abbrev pub alone : Network → NodeId → List Deed → World
alone t n ds = alone_from t n (world_start t) ds

-- What may be done

-- the event of the deed is enabled, as far as the node alone can tell
abbrev pub IsDoable : Network → NodeId → World → Deed → Type 0
IsDoable t n w (Ticked s) = IsTrue (may_act t w n)
IsDoable t n w (Handled s) = IsTrue (may_act t w n && has_first (w.desks n.0))
IsDoable t n w (Took s u k x) = IsTrue (may_act t w n && is_world_channel t u n)
IsDoable t n w (Heard s u bytes) = IsTrue (may_act t w n && is_world_channel t u n) × SpellsNothing bytes
IsDoable t n w (Posted s c) = IsTrue (is_valid t c && not (is_again w.posted c))

-- each where it comes
abbrev pub AreDoable : Network → NodeId → World → List Deed → Type 0
AreDoable t n w [] = Unit {0}
AreDoable t n w (d ∷ ds) = IsDoable t n w d × AreDoable t n (done t n w d) ds

-- What was sent

-- what was done before the first deed with a stamp above this one
abbrev pub upto : ℕ → List Deed → List Deed
upto s [] = []
upto s (d ∷ ds) = if nat_lt s (stamp_of d) then [] else d ∷ upto s ds

-- all that the node u sent to the node with number d, once it had done this
abbrev pub sent_by : Network → NodeId → List Deed → ℕ → List Content
sent_by t u ds d = (alone t u ds).channels u.0 d
