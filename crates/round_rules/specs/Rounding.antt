-- Turns of all stations, on however many threads, are a round of the record.
use Rattle.std.specs.{Prelude.{◌≡◌, ℕ, true, false, List, length, map}, List.{AllByRecursion, AllZip, Contains}}
use Rattle.ason_base.specs.{declared.limits.TheConstants.MOST_EVENTS, declared.ids.NodeId.NodeId, declared.commands.Disturb.Disturb, Network.Network}
use Rattle.round_rules.specs.{Records.Record, Rounds.IsRound, OneWorker.ids_of, Unfinished.{IsUnfinished, leaves}, States.StationState, Turned.{comes_to_end, is_at_limit, is_starved}, Fleets.{AreKnown, AreStanding, HasGrown, Wires, AllBegun}, FleetTurns.{AfterTurns, HasMadeRound}}

-- memory wasn't wanting, and where the turns ended at the limit the log is full
pub record HasHaltedFull (y : AfterTurns) : Type 0 where
  pub fed : is_starved y.end ≡ false
  pub full : is_at_limit y.end ≡ true → length y.station.log ≡ MOST_EVENTS

-- and some station's turns ended at the limit
pub record AreHalted (ys : List AfterTurns) : Type 0 where
  pub all : AllByRecursion HasHaltedFull ys
  pub node : AfterTurns
  pub there : Contains ys node
  pub limit : is_at_limit node.end ≡ true

-- the node left an input just where its turns ended at the limit
abbrev pub IsLeftAt : Record → Record → NodeId → AfterTurns → Type 0
IsLeftAt before after n y = leaves before after n ≡ is_at_limit y.end

-- The stations stand for a record after their turns. Once looks at the rings have shown that what came out of each is a
-- first part of what was handed to it, the turns were a round, where all came to their end, or one that a limit ends.
pub record AreRoundsMade (t : Network) (lines : List Disturb) (r : Record) (ys : List AfterTurns) : Type 0 where
  pub after : Record
  pub wires_after : Wires
  pub stands : AreStanding t lines after wires_after (map (λ (y : AfterTurns). y.station) ys)
  pub grown : (m : ℕ) → HasGrown r after m
  pub left : AllZip (IsLeftAt r after) (ids_of t) ys
  pub round : AllBegun t wires_after → AllByRecursion (λ (y : AfterTurns). comes_to_end y.end ≡ true) ys → IsRound t lines r after
  pub unfinished : AllBegun t wires_after → AreHalted ys → IsUnfinished t lines r after

abbrev pub TurnsMakeARound : Type 0
TurnsMakeARound =
    (t : Network) (lines : List Disturb) (r : Record) (wires : Wires) (many : ℕ) (xs : List StationState)
    (ys : List AfterTurns) → AreStanding t lines r wires xs → AreKnown t wires → AllZip (HasMadeRound many) xs ys →
    AreRoundsMade t lines r ys
