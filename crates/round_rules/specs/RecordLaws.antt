-- What holds of records and of turns.
use Rattle.std.specs.Prelude.{◌≡◌, Bool, false, List, ◌++◌}
use Rattle.ason_base.specs.{declared.ids.NodeId.NodeId, declared.commands.Entry.Entry, declared.commands.Disturb.Disturb, Network.Network}
use Rattle.world_merge.specs.{Merges.IsRunOf, Orders.IsMerge}
use Rattle.round_rules.specs.{Doings.Doing, Functions.{AreHeldAs, Popped, tick_if, turn_after}, Held.due_in, Records.{Record, deeds_at, log_at, posts_in}, Turns.IsTurnOf, PossibleRecords.IsRecord}

-- Records

-- the logs and the posts of a record, sorted by stamp, then node, a post first, are a run that leads to its world
abbrev pub RecordsAreRuns : Type 0
RecordsAreRuns =
    (t : Network) (r : Record) (m : List Entry) → IsRecord t r → IsMerge (log_at r) (posts_in r) m →
    IsRunOf t (deeds_at r) m

-- Turns

-- what the function adds is a turn
pub record AddsATurn (t : Network) (lines : List Disturb) (n : NodeId) (tick : Bool) (before : List Doing)
    (due pops : List Popped) : Type 0 where
  pub added : List Doing
  pub all : turn_after t lines n tick before due pops ≡ before ++ added
  pub turn : IsTurnOf t lines n tick before added

abbrev pub FunctionsAreTurns : Type 0
FunctionsAreTurns =
    (t : Network) (lines : List Disturb) (n : NodeId) (tick : Bool) (before : List Doing) (due pops : List Popped) →
    AreHeldAs (due_in (tick_if tick before)) due → AddsATurn t lines n tick before due pops

-- a turn, and then one without a tick, in which nothing is due any more and the desk is empty
abbrev pub TurnsMakeATurn : Type 0
TurnsMakeATurn =
    (t : Network) (lines : List Disturb) (n : NodeId) (tick : Bool) (before one two : List Doing) →
    IsTurnOf t lines n tick before one → IsTurnOf t lines n false (before ++ one) two →
    IsTurnOf t lines n tick before (one ++ two)
