-- What sending over the links of a station needs, and what is known of the frame that came first.
use Rattle.std.specs.{Prelude.{◌≡◌, ◌≤◌, ◌<◌, ◌+◌, ◌==◌, ◌^◌, ℕ, Bool, List, [], Some, slice_get}, List.AllByRecursion}
use Rattle.rtrb.specs.Ring.{known_items}
use Rattle.ason_base.specs.declared.ids.NodeId.{NodeId}
use Rattle.control_channels.specs.declared.frames.Frame.{Frame}
use Rattle.station_rings.specs.{declared.parcel.Parcel.Parcel, declared.parcels.Head.Head, LinkStates.{BearsSome, IsBearing, IsHead, LinkState, gone_of}}

abbrev pub is_link_to : NodeId → LinkState → Bool
is_link_to n l = l.peer.0 == n.0

-- no stamp of what was sent over the link is above this one
abbrev pub NoneAbove : ℕ → LinkState → Type 0
NoneAbove stamp l = AllByRecursion (λ (p : Parcel). p.stamp ≤ stamp) (gone_of l)

-- so many frames more have numbers, and their stamp is no lower than the others'
pub record MaySend (count stamp : ℕ) (l : LinkState) : Type 0 where
  pub numbers : l.sent + count < 2 ^ 64
  pub stamps : NoneAbove stamp l

-- each frame bears something
abbrev pub BearsAll : List Frame → Type 0
BearsAll frames = AllByRecursion (λ (f : Frame). BearsSome f.bytes) frames

-- this is known of the first frame that waits early at this place, and each that waits there bears something
pub record IsHeadAt (h : Head) (place : ℕ) (links : List LinkState) : Type 0 where
  pub link : LinkState
  pub there : slice_get links place ≡ Some link
  pub head : IsHead h link.early
  pub bears : AllByRecursion IsBearing link.early

-- none is known to stand there
pub record IsEmptyAt (place : ℕ) (links : List LinkState) : Type 0 where
  pub link : LinkState
  pub there : slice_get links place ≡ Some link
  pub early : link.early ≡ []
  pub known : known_items link.into ≡ []
