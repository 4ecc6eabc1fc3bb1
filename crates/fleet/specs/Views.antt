-- What a fleet publishes of the nodes that are watched.
use Rattle.std.specs.{Prelude.{◌≡◌, ◌⊎◌, ℕ, List, Option, Some, None, Result, Ok, Err, IsSome, map, position, slice_get, slice_set}, List.{AllByRecursion, AllZip}}
use Rattle.ason_base.specs.declared.ids.NodeId.{NodeId}
use Rattle.mgmt_view.specs.{Publishing.PublisherState, Viewing.ViewerState}
use Rattle.round_rules.specs.States.{StationState}
use Rattle.station.specs.{Watched.{IsUnpublished, MayWaitBy, ShowsNoiseMore, Shown, Watches, published_by, publishing, shown_of, table_of}, declared.watching.WatchFault.WatchFault}
use Rattle.fleet.specs.{declared.fleet.RoundFault.RoundFault, Commands.{is_seat, station_of}, Standing.FleetState}
use Rattle.fleet.specs.declared.fleet.RoundFault.TheVariants as fault

-- what each station has published, where it is watched
abbrev pub publishers_of : List StationState → List (Option PublisherState)
publishers_of stations = map (λ (s : StationState). s.publisher) stations

-- what a table of each station is of, and what it has published
abbrev pub shown_by : List StationState → List Shown
shown_by stations = map shown_of stations

-- each node is as it was, and at most noise was written
abbrev pub ShowNoiseMore : List StationState → List StationState → Type 0
ShowNoiseMore old new = AllZip ShowsNoiseMore old new

-- no node is watched
abbrev pub AreUnwatched : List StationState → Type 0
AreUnwatched stations = AllByRecursion (λ (s : StationState). s.publisher ≡ None) stations

-- One node

abbrev pub publisher_in : Option StationState → Option PublisherState
publisher_in None = None
publisher_in (Some s) = s.publisher

-- what was published of the node, where it is watched
abbrev pub publisher_of : NodeId → FleetState → Option PublisherState
publisher_of n f = publisher_in (station_of f n)

-- the node has a station
abbrev pub HasStation : NodeId → FleetState → Type 0
HasStation n f = IsSome (position (is_seat n) f.seats)

-- The station of the node is watched from now on. It is refused just where it is watched or memory is wanting.
pub record WatchesAt (n : NodeId) (answer : Result ViewerState WatchFault) (old new : FleetState) : Type 0 where
  pub place : ℕ
  pub found : position (is_seat n) old.seats ≡ Some place
  pub before : StationState
  pub there : slice_get old.stations place ≡ Some before
  pub after : StationState
  pub watches : Watches answer before after
  pub fleet : new ≡ record old { stations = slice_set old.stations place after }

-- Rounds

-- the station has published its table, or nothing; the table may wait then
abbrev pub MayPublish : StationState → StationState → Type 0
MayPublish old new = (new ≡ publishing old) ⊎ IsUnpublished old new

-- of what a station had published before: its table as it is now comes last
abbrev pub HasPublished : Option PublisherState → StationState → Type 0
HasPublished before s = s.publisher ≡ published_by before (table_of s)

abbrev pub MayHavePublished : Option PublisherState → StationState → Type 0
MayHavePublished before s = HasPublished before s ⊎ MayWaitBy before (table_of s) s.publisher

-- Each watched node has published its table after the round. Where memory was wanting some nodes may not have.
abbrev pub Publishes : Result ℕ RoundFault → FleetState → FleetState → Type 0
Publishes (Ok count) old new = AllZip HasPublished (publishers_of old.stations) new.stations
Publishes (Err (fault.AtLimit n)) old new = AllZip HasPublished (publishers_of old.stations) new.stations
Publishes (Err fault.Starved) old new = AllZip MayHavePublished (publishers_of old.stations) new.stations
