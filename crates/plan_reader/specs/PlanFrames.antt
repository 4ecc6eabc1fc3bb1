-- The lines of a script that name a frame or bring noise: what each says or its first fault.
use Rattle.std.specs.Prelude.{ℕ, nat_le, not, List, [], length, codes, Option, Some, None, Result, Ok, Err, if◌then◌else◌}
use Rattle.ason_base.specs.{Network.{Network, is_channel}, declared.commands.DisturbKind.DisturbKind, declared.ids.NodeId.NodeId, declared.limits.TheConstants.MOST_AHEAD}
use Rattle.wire_buf.specs.Hex.{hex_pairs}
use Rattle.plan_reader.specs.{declared.faults.PlanKind.PlanKind, declared.faults.PlanKind.TheVariants.{Node, Channel, Hex}, declared.limits.TheConstants.MOST_DIGITS, declared.lines.Line.Line, declared.lines.Line.TheVariants.{Disturb, Noise}, Entries.and_then, Names.same_text, PlanSetups.node_at, PlanTexts.{positive_at, word_at}}

-- Channels

abbrev pub channel_between : Network → Option NodeId → Option NodeId → Result (NodeId × NodeId) PlanKind
channel_between t None to = Err Node
channel_between t (Some from) None = Err Node
channel_between t (Some from) (Some to) = if not (is_channel t from to) then Err Channel else Ok (from, to)

-- the two neighbours that the second and the third word name, or the first fault
abbrev pub channel_named : Network → List (List ℕ) → List (List ℕ) → Result (NodeId × NodeId) PlanKind
channel_named t names ws = channel_between t (node_at t names ws 1) (node_at t names ws 2)

-- Lines that name a frame

abbrev pub disturb : DisturbKind → ℕ → NodeId × NodeId → Line
disturb kind k ends = Disturb (record { kind = kind; from = ends.0; to = ends.1; k = k })

-- a line that does this to a frame, or its first fault
abbrev pub disturb_of : Network → List (List ℕ) → List (List ℕ) → DisturbKind → Result Line PlanKind
disturb_of t names ws kind =
    and_then (positive_at 3 MOST_AHEAD ws)
    (λ k. and_then (channel_named t names ws) (λ ends. Ok (disturb kind k ends)))

-- Noise

-- the bytes that the last word of a noise writes: `-` is none, else two hexadecimal digits each
abbrev pub noise_bytes : List ℕ → Option (List ℕ)
noise_bytes word =
    if same_text word (codes "-") then Some []
    else if nat_le (length word) MOST_DIGITS then hex_pairs word
    else None

abbrev pub noise_with : NodeId × NodeId → Option (List ℕ) → Result Line PlanKind
noise_with ends None = Err Hex
noise_with ends (Some bytes) = Ok (Noise ends.0 ends.1 bytes)

-- a noise, or its first fault but the last: whether its bytes spell a frame is asked behind these
abbrev pub frame_noise : Network → List (List ℕ) → List (List ℕ) → Result Line PlanKind
frame_noise t names ws = and_then (channel_named t names ws) (λ ends. noise_with ends (noise_bytes (word_at ws 3)))
