-- The channels that lead from a node, with the bytes of all that was ever sent on them.
use Rattle.std.specs.{Prelude.{◌≡◌, ℕ, ◌-◌, ◌==◌, Bool, List, [], ◌∷◌, ◌++◌, filter, find, map, Option, Some, None, slice_get, slice_set, if◌then◌else◌}, List.AllByRecursion, Option.option_map}
use Rattle.ason_base.specs.{declared.ids.NodeId.NodeId, Network.Network}
use Rattle.flood.specs.{declared.frames.Content.Content, Frames.{IsFrame, frame_bytes}}
use Rattle.control_channels.specs.declared.frames.Frame.{Frame}
use Rattle.world_rules.specs.WorldRuns.{is_world_channel}

-- the node to which it leads, and the frames, the oldest first
pub record ChannelState : Type 0 where
  pub to : NodeId
  pub frames : List (List ℕ)

abbrev pub new_channel : NodeId → ChannelState
new_channel n = record { to = n; frames = [] }

-- the nodes to which a channel leads from this one, in order of number
abbrev pub receivers : Network → NodeId → List NodeId
receivers t n = map (λ m. m.id) (filter (λ m. is_world_channel t n m.id) t.nodes)

-- Which channel, and which frame

abbrev pub leads_to : ℕ → ChannelState → Bool
leads_to n c = c.to.0 == n

abbrev pub channel_to : List ChannelState → ℕ → Option ChannelState
channel_to channels n = find (leads_to n) channels

-- the frame with this number, of which the first has number 1
abbrev pub frame_numbered : List (List ℕ) → ℕ → Option (List ℕ)
frame_numbered frames k = if k == 0 then None else slice_get frames (k - 1)

abbrev pub frame_on : Option ChannelState → ℕ → Option (List ℕ)
frame_on None k = None
frame_on (Some c) k = frame_numbered c.frames k

-- Sending

abbrev pub with_frame : List ℕ → ChannelState → ChannelState
with_frame bytes c = record c { frames = c.frames ++ bytes ∷ [] }

-- the channel at this place is changed, and no other
abbrev pub IsChannelChangedAt : List ChannelState → ℕ → (ChannelState → ChannelState) → List ChannelState → Type 0
IsChannelChangedAt before place f after =
    (c : ChannelState) → slice_get before place ≡ Some c → after ≡ slice_set before place (f c)

-- a frame goes on the channel to the node that it is for
abbrev pub after_frame : Frame → ChannelState → ChannelState
after_frame f c = if leads_to f.to.0 c then with_frame f.bytes c else c

abbrev pub after_frames : List Frame → ChannelState → ChannelState
after_frames [] c = c
after_frames (f ∷ fs) c = after_frames fs (after_frame f c)

-- just these frames are sent, in order
abbrev pub AreSent : List Frame → List ChannelState → List ChannelState → Type 0
AreSent frames before after = (d : ℕ) → channel_to after d ≡ option_map (after_frames frames) (channel_to before d)

-- The frames of a world

-- the frames are those of what a world has on a channel from u, and each spells it
pub record HasFrames (u : NodeId) (contents : List Content) (frames : List (List ℕ)) : Type 0 where
  pub bytes : frames ≡ map (frame_bytes u) contents
  pub spelled : AllByRecursion (λ c. IsFrame (frame_bytes u c) c) contents
