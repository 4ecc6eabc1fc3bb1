-- What happens to a station, as its code makes it, and the deed that this is.
use Rattle.std.specs.{Prelude.{◌≡◌, ◌<◌, ◌+◌, ℕ, max, List, [], ◌∷◌, ◌++◌, map, Some}, List.{AllZip, Contains}}
use Rattle.ason_base.specs.{declared.limits.TheConstants.MOST_EVENTS, declared.ids.NodeId.NodeId, declared.commands.Command.Command, declared.commands.DeskItem.DeskItem, declared.commands.Event.Event, declared.commands.Event.TheVariants.{Deliver, Noise, Tick, Desk, Post}, Network.Network}
use Rattle.flood.specs.{declared.frames.Content.Content, Frames.SpellsNothing}
use Rattle.control_channels.specs.{declared.frames.Frame.Frame, declared.inputs.CoreInput.CoreInput, Controllers.IsControllerStep}
use Rattle.control_channels.specs.declared.inputs.CoreInput.TheVariants as input
use Rattle.world_rules.specs.WorldRuns.{IsEnabled, world_step}
use Rattle.world_merge.specs.Deeds.{Deed, Handled, Heard, Posted, Ticked, Took, alone}
use Rattle.station_rings.specs.{declared.parcel.Parcel.Parcel, Links.{HasGot, LinkView, link_after_frames}, Parcels.IsBrought, Stations.{IsSound, StationView}}

-- Events

-- The controller takes an input, a line is written with the new clock, and the frames go out with that stamp.
pub record HasReacted (n : NodeId) (old new : StationView) (i : CoreInput) (e : Event) : Type 0 where
  pub frames : List Frame
  pub step : IsControllerStep old.controller new.controller i frames
  pub few : old.controller.steps < MOST_EVENTS
  pub clock : old.clock < new.clock
  pub log : new.log ≡ old.log ++ record { stamp = new.clock; node = Some n; event = e } ∷ []
  pub links : new.links ≡ map (link_after_frames new.clock frames) old.links

abbrev pub TicksAreDeeds : Type 0
TicksAreDeeds =
    (t : Network) (n : NodeId) (deeds : List Deed) (old new : StationView) → IsSound t n deeds old →
    HasReacted n old new input.Tick (Tick n) → new.desk ≡ old.desk → new.clock ≡ old.clock + 1 →
    IsSound t n (deeds ++ Ticked new.clock ∷ []) new

abbrev pub ItemsAreDeeds : Type 0
ItemsAreDeeds =
    (t : Network) (n : NodeId) (deeds : List Deed) (i : DeskItem) (old new : StationView) → IsSound t n deeds old →
    HasReacted n old new (input.Desk i) (Desk n) → old.desk ≡ i ∷ new.desk → new.clock ≡ old.clock + 1 →
    IsSound t n (deeds ++ Handled new.clock ∷ []) new

-- A parcel that came over the link is delivered, now or again. By the new clock it was sent before.
pub record IsDelivery (n : NodeId) (old new : StationView) (l : LinkView) (p : Parcel) (x : Content) : Type 0 where
  pub link : Contains old.links l
  pub came : Contains l.came p
  pub brought : IsBrought new.clock p.number x p
  pub clock : new.clock ≡ max old.clock p.stamp + 1
  pub reacted : HasReacted n old new (input.Frame l.peer p.frame) (Deliver n l.peer p.number)
  pub desk : new.desk ≡ old.desk

abbrev pub FramesAreDeeds : Type 0
FramesAreDeeds =
    (t : Network) (n : NodeId) (deeds : List Deed) (old new : StationView) (l : LinkView) (p : Parcel) (x : Content) →
    IsSound t n deeds old → IsDelivery n old new l p x →
    IsSound t n (deeds ++ Took new.clock l.peer p.number x ∷ []) new

-- bytes that spell nothing come from a neighbour; the controller counts them
pub record IsNoise (n : NodeId) (old new : StationView) (l : LinkView) (bytes : List ℕ) : Type 0 where
  pub link : Contains old.links l
  pub nothing : SpellsNothing bytes
  pub reacted : HasReacted n old new (input.Frame l.peer bytes) (Noise n l.peer bytes)
  pub desk : new.desk ≡ old.desk

abbrev pub NoiseIsADeed : Type 0
NoiseIsADeed =
    (t : Network) (n : NodeId) (deeds : List Deed) (old new : StationView) (l : LinkView) (bytes : List ℕ) →
    IsSound t n deeds old → IsNoise n old new l bytes → new.clock ≡ old.clock + 1 →
    IsSound t n (deeds ++ Heard new.clock l.peer bytes ∷ []) new

-- Beside the events of the node

-- the clock goes on, and the desk is what the post makes of it where the node is alone
pub record IsPosted (t : Network) (n : NodeId) (deeds : List Deed) (c : Command) (old new : StationView) : Type 0 where
  pub enabled : IsEnabled t (alone t n deeds) (Post c)
  pub controller : new.controller ≡ old.controller
  pub desk : new.desk ≡ (world_step t (alone t n deeds) (Post c)).desks n.0
  pub clock : old.clock < new.clock
  pub log : new.log ≡ old.log
  pub links : new.links ≡ old.links

abbrev pub PostsAreDeeds : Type 0
PostsAreDeeds =
    (t : Network) (n : NodeId) (deeds : List Deed) (c : Command) (old new : StationView) → IsSound t n deeds old →
    IsPosted t n deeds c old new → IsSound t n (deeds ++ Posted new.clock c ∷ []) new

-- frames come out of rings, to be delivered later or never
pub record HasListened (old new : StationView) : Type 0 where
  pub controller : new.controller ≡ old.controller
  pub desk : new.desk ≡ old.desk
  pub clock : new.clock ≡ old.clock
  pub log : new.log ≡ old.log
  pub links : AllZip HasGot old.links new.links

abbrev pub ListeningIsNoDeed : Type 0
ListeningIsNoDeed =
    (t : Network) (n : NodeId) (deeds : List Deed) (old new : StationView) → IsSound t n deeds old →
    HasListened old new → IsSound t n deeds new
