-- The link of a station to a neighbour: all that ever went into its ring, and all that ever came out of the ring back.
use Rattle.std.specs.Prelude.{◌≡◌, ◌+◌, ◌==◌, ℕ, Bool, nat_lt, List, [], ◌∷◌, ◌++◌, if◌then◌else◌}
use Rattle.ason_base.specs.{declared.limits.TheConstants.MOST_FRAMES, declared.ids.NodeId.NodeId}
use Rattle.control_channels.specs.declared.frames.Frame.{Frame}
use Rattle.station_rings.specs.declared.parcel.Parcel.{Parcel}

pub record LinkView : Type 0 where
  pub peer : NodeId
  -- the number of the last frame that was sent, whether it was dropped or not
  pub sent : ℕ
  -- how many frames stand in the ring, by the sender's own count
  pub standing : ℕ
  -- all that was ever handed to the ring, what waits behind it with it
  pub gone : List Parcel
  -- all that ever came out of the ring from the neighbour
  pub came : List Parcel

abbrev pub is_link_view_to : NodeId → LinkView → Bool
is_link_view_to n l = l.peer.0 == n.0

-- Sending

-- a frame takes the next number and this stamp, and goes into the ring where fewer than 256 stand there; it is dropped
-- else
abbrev pub with_parcel : ℕ → List ℕ → LinkView → LinkView
with_parcel stamp frame l = record l {
  sent = l.sent + 1;
  standing = if nat_lt l.standing MOST_FRAMES then l.standing + 1 else l.standing;
  gone =
      if nat_lt l.standing MOST_FRAMES
      then l.gone ++ record { number = l.sent + 1; stamp = stamp; frame = frame } ∷ []
      else l.gone;
}

-- a frame goes over the link to its neighbour
abbrev pub link_after_frame : ℕ → Frame → LinkView → LinkView
link_after_frame stamp f l = if is_link_view_to f.to l then with_parcel stamp f.bytes l else l

abbrev pub link_after_frames : ℕ → List Frame → LinkView → LinkView
link_after_frames stamp [] l = l
link_after_frames stamp (f ∷ fs) l = link_after_frames stamp fs (link_after_frame stamp f l)

-- Listening

-- frames came out of the ring, and nothing else differs but how many stand in the ring back
pub record HasGot (before after : LinkView) : Type 0 where
  pub peer : after.peer ≡ before.peer
  pub sent : after.sent ≡ before.sent
  pub gone : after.gone ≡ before.gone
  pub more : List Parcel
  pub came : after.came ≡ before.came ++ more
