-- What is told of the frames that the nodes of a trace took.
use Rattle.std.specs.{Prelude.{◌≡◌, ◌++◌, ℕ, List, [], codes, flat_map, map, Option, Some, None}, Fmt.decimal}
use Rattle.ason_base.specs.{declared.commands.Event.Event, declared.commands.Event.TheVariants.{Deliver, Noise, Tick, Desk, Post}, declared.ids.NodeId.NodeId}
use Rattle.wire_buf.specs.Hex.{hex_text}
use Rattle.plan_reader.specs.declared.plan.Plan.{Plan}
use Rattle.table_text.specs.TableText.{node_name}
use Rattle.trace_text.specs.{TraceRead.IsTraceOf, declared.read.Trace.Trace}
use Rattle.world_rules.specs.{WorldRuns.{IsWorldRun, world_after}, Worlds.world_start}
use Rattle.world_core.specs.{Replays.{StateStandsFor, WorldState}, Seats.frame_there}

-- `NODE FROM NUMBER `
abbrev pub delivery_text : Plan → NodeId → NodeId → ℕ → List ℕ
delivery_text p to from number =
    node_name p to ++ codes " " ++ node_name p from ++ codes " " ++ decimal number ++ codes " "

abbrev pub digits_of : Option (List ℕ) → List ℕ
digits_of None = []
digits_of (Some bytes) = hex_text bytes

-- the bytes of the frame of this number on the channel between the nodes
abbrev pub frame_text : WorldState → NodeId → NodeId → ℕ → List ℕ
frame_text k to from number = digits_of (frame_there k.seats from to number) ++ codes "\n"

-- the line of a delivery; other events have none
abbrev pub frame_line : Plan → WorldState → Event → List ℕ
frame_line p k (Deliver to from number) = delivery_text p to from number ++ frame_text k to from number
frame_line p k (Noise to from bytes) = []
frame_line p k (Tick n) = []
frame_line p k (Desk n) = []
frame_line p k (Post c) = []

-- The bytes are of the form of a trace, its events are a run of its plan, and this is the line of each delivery with the frame
-- that the world had sent, to which the run leads.
pub record IsTold (bytes text : List ℕ) : Type 0 where
  pub trace : Trace
  pub world : WorldState
  pub form : IsTraceOf bytes trace
  pub run : IsWorldRun trace.plan.topology (world_start trace.plan.topology) (map (λ e. e.event) trace.entries)
  pub stands : StateStandsFor trace.plan.topology world
      (world_after trace.plan.topology (world_start trace.plan.topology) (map (λ e. e.event) trace.entries))
  pub told : text ≡ flat_map (frame_line trace.plan world) (map (λ e. e.event) trace.entries)
