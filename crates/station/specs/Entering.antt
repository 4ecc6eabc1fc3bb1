-- An event of a station, and how it ends.
use Rattle.std.specs.Prelude.{◌≡◌, ◌+◌, ℕ, Bool, max, length, Result, Ok, Err}
use Rattle.ason_base.specs.{declared.commands.Event.Event, declared.commands.Event.TheVariants.Deliver, declared.ids.NodeId.NodeId}
use Rattle.control_channels.specs.{declared.inputs.CoreInput.CoreInput, Controllers.IsUnambiguous}
use Rattle.station_rings.specs.declared.parcels.Head.{Head}
use Rattle.round_rules.specs.{Entered.{HasEntered, able, me_of}, States.StationState}
use Rattle.station.specs.declared.halts.Halt.{Halt}
use Rattle.station.specs.declared.halts.Halt.TheVariants as halt

-- the controller takes the input, or all is as it was for want of memory
abbrev pub Enters : Result (Unit {0}) Halt → CoreInput → Event → ℕ → StationState → StationState → Type 0
Enters (Ok x) i e stamp old new = HasEntered i e stamp old new × IsUnambiguous i
Enters (Err halt.AtLimit) i e stamp old new = ⊥
Enters (Err halt.OutOfMemory) i e stamp old new = new ≡ old

-- whether a frame with this stamp can be delivered
abbrev pub is_able_for : ℕ → StationState → Bool
is_able_for stamp s = able (length s.log) (max s.clock stamp + 1)

-- the frame of this neighbour, of which this is known, is delivered as this input, or isn't for want of memory
abbrev pub Gives : Result (Unit {0}) Halt → Head → NodeId → CoreInput → StationState → StationState → Type 0
Gives r h u i old new = Enters r i (Deliver (me_of old) u h.number) (max old.clock h.stamp + 1) old new
