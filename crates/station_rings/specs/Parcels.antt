-- What is so of the parcels that a station sent, and of those that it delivered.
use Rattle.std.specs.{Prelude.{◌≡◌, ◌<◌, ◌+◌, ℕ, max, List, [], ◌∷◌, fold, Some}, List.Contains}
use Rattle.ason_base.specs.{declared.ids.NodeId.NodeId, Network.Network}
use Rattle.wire_buf.specs.Codecs.{HasOneMeaning}
use Rattle.flood.specs.{declared.frames.Content.Content, Frames.IsFrame}
use Rattle.world_rules.specs.Worlds.{numbered_at}
use Rattle.world_merge.specs.{Deeds.{Deed, Handled, Heard, Posted, Ticked, Took, sent_by, stamp_of, upto}, Stamps.sent_stamp}
use Rattle.station_rings.specs.{declared.parcel.Parcel.Parcel, Links.LinkView}

-- The parcel is the frame of its number among all that the node n sent to d, it was there once n had done what it did
-- up to the parcel's stamp, and that is the stamp of the deed that sent it.
pub record IsSentOf (t : Network) (n : NodeId) (deeds : List Deed) (d : NodeId) (p : Parcel) : Type 0 where
  pub content : Content
  pub there : numbered_at (sent_by t n (upto p.stamp deeds) d.0) p.number ≡ Some content
  pub exact : p.stamp ≡ sent_stamp t n deeds d.0 p.number
  pub spells : IsFrame p.frame content

-- The parcel is the frame of this number, bears this and nothing else, and was sent before this stamp.
pub record IsBrought (s k : ℕ) (x : Content) (p : Parcel) : Type 0 where
  pub number : p.number ≡ k
  pub before : p.stamp < s
  pub spells : IsFrame p.frame x
  pub one : HasOneMeaning (IsFrame p.frame)

-- it came out of the ring from this neighbour
pub record IsBroughtBy (s : ℕ) (u : NodeId) (k : ℕ) (x : Content) (l : LinkView) : Type 0 where
  pub peer : l.peer ≡ u
  pub parcel : Parcel
  pub came : Contains l.came parcel
  pub brought : IsBrought s k x parcel

pub record IsBroughtIn (s : ℕ) (u : NodeId) (k : ℕ) (x : Content) (links : List LinkView) : Type 0 where
  pub link : LinkView
  pub there : Contains links link
  pub brought : IsBroughtBy s u k x link

-- a frame that was taken came out of a ring
abbrev pub CameIn : List LinkView → Deed → Type 0
CameIn links (Took s u k x) = IsBroughtIn s u k x links
CameIn links (Ticked s) = Unit {0}
CameIn links (Handled s) = Unit {0}
CameIn links (Heard s u bytes) = Unit {0}
CameIn links (Posted s c) = Unit {0}

-- Stamps

-- a parcel with this number came from this neighbour, and the stamp is one more than the greater of clock and its own
pub record IsStampedBy (s c : ℕ) (u : NodeId) (k : ℕ) (links : List LinkView) : Type 0 where
  pub link : LinkView
  pub there : Contains links link
  pub peer : link.peer ≡ u
  pub parcel : Parcel
  pub came : Contains link.came parcel
  pub number : parcel.number ≡ k
  pub stamp : s ≡ max c parcel.stamp + 1

-- Of a deed that comes where the clock is this: a tick, an item and noise have the next stamp, a frame one that is
-- later than its own too, and a post whichever later one.
abbrev pub IsStamped : List LinkView → ℕ → Deed → Type 0
IsStamped links c (Ticked s) = s ≡ c + 1
IsStamped links c (Handled s) = s ≡ c + 1
IsStamped links c (Took s u k x) = IsStampedBy s c u k links
IsStamped links c (Heard s u bytes) = s ≡ c + 1
IsStamped links c (Posted s x) = Unit {0}

-- each where it comes
abbrev pub AreStamped : List LinkView → ℕ → List Deed → Type 0
AreStamped links c [] = Unit {0}
AreStamped links c (d ∷ ds) = IsStamped links c d × AreStamped links (stamp_of d) ds

-- the stamp of the last of these, or the clock before them
abbrev pub clock_after : ℕ → List Deed → ℕ
clock_after c ds = fold (λ (s : ℕ) (d : Deed). stamp_of d) c ds
