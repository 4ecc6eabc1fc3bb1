-- Bytes that spell nothing.
use Rattle.std.specs.Prelude.{◌≡◌, ◌+◌, ℕ, Bool, true, false, List, [], ◌∷◌, ◌++◌, IsTrue, length}
use Rattle.ason_base.specs.{declared.ids.NodeId.NodeId, declared.commands.Entry.Entry, declared.commands.Event.Event, declared.commands.Event.TheVariants.Noise, Network.Network}
use Rattle.world_merge.specs.Deeds.{Heard}
use Rattle.round_rules.specs.{Doings.{Did, Doing}, Functions.clock_of, States.{IsStationOf, StationState}}

abbrev pub tells_noise : Event → Bool
tells_noise (Noise to from bytes) = true
tells_noise _ = false

-- the line tells of bytes that spell nothing
abbrev pub is_noise_line : Entry → Bool
is_noise_line e = tells_noise e.event

-- The node heard bytes that spell nothing, whatever it did before, and stays as it was. Nothing was sent or taken, and a
-- line of it was written.
pub record HasHeard (u : NodeId) (bytes : List ℕ) (old new : StationState) : Type 0 where
  pub stands : (t : Network) (n : NodeId) (ds : List Doing) → IsStationOf t n ds old →
      IsStationOf t n (ds ++ Did (Heard (clock_of ds + 1) u bytes) ∷ []) new
  pub links : new.links ≡ old.links
  pub lines : new.lines ≡ old.lines
  pub grows : length new.log ≡ length old.log + 1
  pub node : new.controller.node ≡ old.controller.node
  pub log : (e : Entry) × IsTrue (is_noise_line e) × (new.log ≡ old.log ++ e ∷ [])
