-- A station stands by what its node did.
use Rattle.std.specs.{Prelude.{◌≡◌, ◌+◌, List, [], map}, List.{AllByRecursion, Contains}}
use Rattle.ason_base.specs.{declared.ids.NodeId.NodeId, Network.Network}
use Rattle.flood.specs.{declared.frames.Content.Content, Frames.IsFrame}
use Rattle.station_rings.specs.{declared.parcel.Parcel.Parcel, Links.LinkView, Stations.{IsSound, StationView}}
use Rattle.round_rules.specs.{Doings.{Doing, deeds_in}, Functions.clock_of, Held.{HeldFrame, held_after}, declared.held.HeldParcel.HeldParcel}

abbrev pub frame_of : HeldParcel → HeldFrame
frame_of h = record { from = h.from; number = h.parcel.number; ticks = h.ticks }

abbrev pub parcel_ticked : HeldParcel → HeldParcel
parcel_ticked h = record h { ticks = h.ticks + 1 }

-- a station with the parcels that it holds, in the order of their taking
pub record HoldingStation : Type 0 where
  pub station : StationView
  pub held : List HeldParcel

-- it came over a link of its sender, and spells something
pub record CameFrom (links : List LinkView) (from : NodeId) (p : Parcel) : Type 0 where
  pub link : LinkView
  pub there : Contains links link
  pub peer : link.peer ≡ from
  pub came : Contains link.came p
  pub content : Content
  pub spells : IsFrame p.frame content

abbrev pub IsHeldOf : List LinkView → HeldParcel → Type 0
IsHeldOf links h = CameFrom links h.from h.parcel

-- The station is sound by the deeds, its clock is theirs, and it holds the frames that were to be held and weren't let
-- go since, each of which came out of a ring.
pub record StandsBy (t : Network) (n : NodeId) (ds : List Doing) (s : HoldingStation) : Type 0 where
  pub sound : IsSound t n (deeds_in ds) s.station
  pub clock : s.station.clock ≡ clock_of ds
  pub held : map frame_of s.held ≡ held_after [] ds
  pub kept : AllByRecursion (IsHeldOf s.station.links) s.held
