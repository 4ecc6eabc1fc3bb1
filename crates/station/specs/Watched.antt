-- What a station publishes of its node.
use Rattle.std.specs.{Prelude.{◌≡◌, ◌≤◌, ℕ, List, ◌++◌, Option, Some, None, Result, Ok, Err, IsSome, IsTrue, length}, List.AllByRecursion}
use Rattle.ason_base.specs.declared.commands.Entry.{Entry}
use Rattle.mesh_rules.specs.Rows.{leg_rows}
use Rattle.mgmt_view.specs.{Tables.EndsWith, Publishing.{MayWait, PublisherState, published_first, with_published}, Viewing.ViewerState, declared.node_table.NodeTable.NodeTable}
use Rattle.control_channels.specs.Controllers.{ControllerState}
use Rattle.round_rules.specs.States.{StationState}
use Rattle.station.specs.{Noise.is_noise_line, declared.watching.WatchFault.WatchFault}
use Rattle.station.specs.declared.watching.WatchFault.TheVariants as fault

abbrev pub with_publisher : StationState → Option PublisherState → StationState
with_publisher s p = record s { publisher = p }

-- the legs of its node, after the whole of its log
abbrev pub table_of : StationState → NodeTable
table_of s = record {
  entries = length s.log;
  legs = leg_rows s.controller.node.place.id s.controller.node.state;
}

-- what a table of a station is of, and what was published
pub record Shown : Type 0 where
  pub controller : ControllerState
  pub log : List Entry
  pub publisher : Option PublisherState

abbrev pub shown_of : StationState → Shown
shown_of s = record { controller = s.controller; log = s.log; publisher = s.publisher }

-- the node is as it was, nothing was published, and at most lines of bytes that spell nothing were written
pub record ShowsNoiseMore (old new : StationState) : Type 0 where
  pub node : new.controller.node ≡ old.controller.node
  pub publisher : new.publisher ≡ old.publisher
  pub heard : List Entry
  pub noise : AllByRecursion (λ e. IsTrue (is_noise_line e)) heard
  pub log : new.log ≡ old.log ++ heard

-- no table that was published or waits is of a longer log
abbrev pub TellsUpTo : Option PublisherState → ℕ → Type 0
TellsUpTo publisher n =
    (p : PublisherState) (last : NodeTable) → publisher ≡ Some p → EndsWith (p.published ++ p.waiting) last →
    last.entries ≤ n

-- Publishing

abbrev pub published_by : Option PublisherState → NodeTable → Option PublisherState
published_by None t = None
published_by (Some p) t = Some (with_published p t)

-- the station once it has published its table, where it is watched
abbrev pub publishing : StationState → StationState
publishing s = with_publisher s (published_by s.publisher (table_of s))

-- nothing was published, and the table may wait, where the station is watched
abbrev pub MayWaitBy : Option PublisherState → NodeTable → Option PublisherState → Type 0
MayWaitBy None t None = Unit {0}
MayWaitBy None t (Some q) = ⊥
MayWaitBy (Some p) t None = ⊥
MayWaitBy (Some p) t (Some q) = MayWait p t q

-- nothing else has changed
pub record IsUnpublished (old new : StationState) : Type 0 where
  pub station : new ≡ with_publisher old new.publisher
  pub publisher : MayWaitBy old.publisher (table_of old) new.publisher

-- all that was published
abbrev pub tables_by : Option PublisherState → Option (List NodeTable)
tables_by None = None
tables_by (Some p) = Some p.published

-- Watching

-- the station has published its table, as the first one, and the viewer keeps it
pub record IsWatchedBy (v : ViewerState) (old new : StationState) : Type 0 where
  pub free : old.publisher ≡ None
  pub station : new ≡ with_publisher old (Some (published_first (table_of old)))
  pub kept : v.kept ≡ table_of old
  pub count : v.count ≡ 1

-- it is refused just where the station is watched or memory is wanting, and then nothing has changed
abbrev pub Watches : Result ViewerState WatchFault → StationState → StationState → Type 0
Watches (Ok v) old new = IsWatchedBy v old new
Watches (Err fault.Watched) old new = IsSome old.publisher × (new ≡ old)
Watches (Err fault.OutOfMemory) old new = (old.publisher ≡ None) × (new ≡ old)
