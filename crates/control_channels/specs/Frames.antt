-- The frames that a controller sends.
use Rattle.std.specs.{Prelude.{List, map}, List.AllByRecursion}
use Rattle.ason_base.specs.declared.ids.NodeId.{NodeId}
use Rattle.flood.specs.{declared.frames.Content.Content, Frames.{IsFrame, frame_bytes}}
use Rattle.control_channels.specs.declared.frames.Frame.{Frame}

-- what goes to a neighbour: a packet, or a flood message
pub record Sending : Type 0 where
  pub to : NodeId
  pub content : Content

-- the frame that a node sends
abbrev pub sent_frame : NodeId → NodeId → Content → Frame
sent_frame me to c = record { to = to; bytes = frame_bytes me c }

abbrev pub frames_to : NodeId → List Sending → List Frame
frames_to me sendings = map (λ s. sent_frame me s.to s.content) sendings

-- the frame of each sending spells what it bears
abbrev pub AllSpelled : NodeId → List Sending → Type 0
AllSpelled me sendings = AllByRecursion (λ s. IsFrame (frame_bytes me s.content) s.content) sendings
