-- A round of all nodes, on any number of workers.
use Rattle.std.specs.{Prelude.{◌≡◌, ◌≤◌, ◌<◌, ◌+◌, ◌-◌, ◌==◌, ℕ, true, false, List, [], ◌∷◌, ◌++◌, length, if◌then◌else◌}, List.AllByRecursion}
use mathlib.Core.List.{IsPrefix}
use Rattle.ason_base.specs.{declared.limits.TheConstants.MOST_FRAMES, declared.ids.NodeId.NodeId, declared.commands.Disturb.Disturb, Network.{Network, is_node_id}}
use Rattle.world_rules.specs.WorldRuns.{is_world_channel}
use Rattle.world_merge.specs.Stamps.{sent_stamp}
use Rattle.round_rules.specs.{Functions.{AreHeldAs, Popped, tick_if}, Held.due_in, Limits.{going, turn_to}, Records.{Record, deeds_at}, Rings.{count_of, got_from, handed, is_number_in, standing}}

-- Frames

-- each number is above the one before, the first above this one
abbrev pub NumbersRise : ℕ → List ℕ → Type 0
NumbersRise n [] = Unit {0}
NumbersRise n (k ∷ ks) = (n < k) × NumbersRise k ks

-- the numbers of those that come from this neighbour
abbrev pub numbers_by : NodeId → List Popped → List ℕ
numbers_by u [] = []
numbers_by u (p ∷ ps) = if p.from.0 == u.0 then p.number ∷ numbers_by u ps else numbers_by u ps

-- a frame of this number was sent to the node, and this is the stamp of its sending
pub record WasSentTo (t : Network) (r : Record) (n : NodeId) (p : Popped) : Type 0 where
  pub joined : is_world_channel t p.from n ≡ true
  pub some : 0 < p.number
  pub within : p.number ≤ count_of t r p.from n
  pub stamp : p.stamp ≡ sent_stamp t p.from (deeds_at r p.from.0) n.0 p.number

-- The frames to which a node's turns come: of those that it holds the ones that are due, and of its rings. With those
-- that it took before they are the first that were handed to each ring, in their order; none is passed over.
pub record AreFramesAt (t : Network) (before after : Record) (n : NodeId) (due pops : List Popped) : Type 0 where
  pub held : AreHeldAs (due_in (tick_if true (before.doings n.0))) due
  pub sent : AllByRecursion (WasSentTo t after n) (due ++ pops)
  pub first : (u : NodeId) → is_world_channel t u n ≡ true →
      IsPrefix (got_from u (before.doings n.0) ++ numbers_by u pops) (handed t after u n)

-- Drops

-- a frame is dropped only where those that stood in its ring at the start and those sent since are 256 at least
pub record MayDrop (t : Network) (before after : Record) (u d : NodeId) (k : ℕ) : Type 0 where
  pub within : k ≤ count_of t after u d
  pub full : MOST_FRAMES ≤ length (standing t before u d) + (k - count_of t before u d - 1)

-- of the frames that were sent meanwhile
pub record DropsAt (t : Network) (before after : Record) (u d : NodeId) : Type 0 where
  pub more : List ℕ
  pub all : after.dropped u.0 d.0 ≡ before.dropped u.0 d.0 ++ more
  pub later : NumbersRise (count_of t before u d) more
  pub may : AllByRecursion (MayDrop t before after u d) more

-- The round

-- One node's part: all of its turns together are one, with a tick, that comes to its end. Each frame that stood in one
-- of its rings is taken.
pub record IsRoundAt (t : Network) (lines : List Disturb) (before after : Record) (n : NodeId) : Type 0 where
  pub due : List Popped
  pub pops : List Popped
  pub frames : AreFramesAt t before after n due pops
  pub turn : turn_to t lines n true (before.doings n.0) due pops ≡ going (after.doings n.0)
  pub taken : (u : NodeId) (k : ℕ) → is_world_channel t u n ≡ true → is_number_in (standing t before u n) k ≡ true →
      is_number_in (numbers_by u pops) k ≡ true

pub record IsRound (t : Network) (lines : List Disturb) (before after : Record) : Type 0 where
  pub nodes : (n : NodeId) → is_node_id t.nodes n ≡ true → IsRoundAt t lines before after n
  pub others : (n : NodeId) → is_node_id t.nodes n ≡ false → after.doings n.0 ≡ before.doings n.0
  pub drops : (u d : NodeId) → DropsAt t before after u d
