-- A station that has no line, or no stamp, left.
use Rattle.std.specs.Prelude.{◌≤◌, ◌⊎◌, ◌+◌, ◌^◌, length, map}
use Rattle.ason_base.specs.{declared.limits.TheConstants.MOST_EVENTS, declared.ids.NodeId.NodeId}
use Rattle.station_rings.specs.{declared.parcel.Parcel.Parcel, LinkStates.view_of}
use Rattle.round_rules.specs.{Stands.CameFrom, States.StationState}

-- The log is full, or no stamp is left: above the clock, or above that of a frame that came.
pub record IsLastStamp (s : StationState) : Type 0 where
  pub from : NodeId
  pub parcel : Parcel
  pub came : CameFrom (map view_of s.links) from parcel
  pub last : 2 ^ 64 ≤ parcel.stamp + 1

abbrev pub IsAtLimit : StationState → Type 0
IsAtLimit s = (MOST_EVENTS ≤ length s.log) ⊎ ((2 ^ 64 ≤ s.clock + 1) ⊎ IsLastStamp s)
