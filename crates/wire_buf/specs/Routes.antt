-- Routes as subobjects for unnumbered interfaces (RFC 3209, section 4.3; RFC 3477, section 4).
use Rattle.std.specs.{Prelude.{◌≡◌, ◌≤◌, ◌<◌, ◌^◌, ℕ, List, ◌++◌, length, take}, List.flat_map}
use Rattle.byteorder.specs.Endian.{big_bytes}
use Rattle.ason_base.specs.{declared.steps.Step.Step, declared.limits.TheConstants.MOST_STEPS}
use Rattle.wire_buf.specs.{declared.routes.TheConstants.{STEP, STRICT_UNNUMBERED}, Objects.number_at, Sequences.AreItems}

-- A strict step: the L bit is 0 and the type 4 in the first byte, the length is 12. Then two bytes that nothing reads,
-- the router id and the interface id.
abbrev pub IsRouteStep : List ℕ → Step → Type 0
IsRouteStep bytes s =
    (length bytes ≡ STEP) × (number_at 0 1 bytes ≡ STRICT_UNNUMBERED) × (number_at 1 1 bytes ≡ STEP)
    × (s ≡ record { node = record { 0 = number_at 4 4 bytes }; link = record { 0 = number_at 8 4 bytes } })

-- the bytes begin with this step
abbrev pub BeginsStep : List ℕ → Step → Type 0
BeginsStep bytes s = IsRouteStep (take STEP bytes) s

abbrev pub step_size : Step → ℕ
step_size s = STEP

-- steps one after the other, to the end
abbrev pub AreSteps : List ℕ → List Step → Type 0
AreSteps bytes steps = AreItems BeginsStep step_size bytes steps

-- a route has at least one step, and at most 64
abbrev pub IsRoute : List ℕ → List Step → Type 0
IsRoute body steps = (1 ≤ length steps) × (length steps ≤ MOST_STEPS) × AreSteps body steps

-- both ids have 32 bits
abbrev pub HasIds : Step → Type 0
HasIds s = (s.node.0 < 2 ^ 32) × (s.link.0 < 2 ^ 32)

-- the written form of a step
abbrev pub step_bytes : Step → List ℕ
step_bytes s =
    big_bytes 1 STRICT_UNNUMBERED ++ big_bytes 1 STEP ++ big_bytes 2 0 ++ big_bytes 4 s.node.0 ++ big_bytes 4 s.link.0

-- the written form of a route
abbrev pub route_bytes : List Step → List ℕ
route_bytes steps = flat_map step_bytes steps
