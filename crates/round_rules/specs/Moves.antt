-- What sending and taking make of a link with the ends of its rings.
use Rattle.std.specs.{Prelude.{◌≡◌, ◌≤◌, ◌+◌, ◌-◌, ◌==◌, ℕ, zero, suc, min, false, List, [], ◌∷◌, ◌++◌, length, map}, List.{AllByRecursion, AllZip, range_with_len}}
use Rattle.ason_base.specs.{declared.limits.TheConstants.MOST_FRAMES, declared.ids.NodeId.NodeId}
use mathlib.Core.List.{IsPrefix}
use Rattle.rtrb.specs.Ring.{received, known_items}
use Rattle.control_channels.specs.declared.frames.Frame.{Frame}
use Rattle.station_rings.specs.{declared.parcel.Parcel.Parcel, Links.link_after_frames, LinkStates.{IsStillUnlessUsed, IsTaken, LinkState, SameEnds, gone_of, view_of}}
use Rattle.round_rules.specs.States.{parcel_numbers}

-- Frames were sent and taken. Of the frames that were sent the first went to the ring, while fewer than 256 stood there
-- by the sender's own count, and the others were dropped.
pub record HasMoved (old new : LinkState) : Type 0 where
  pub peer : new.peer ≡ old.peer
  pub ends : SameEnds old new
  pub sent : old.sent ≤ new.sent
  pub sends : List Parcel
  pub gone : gone_of new ≡ gone_of old ++ sends
  pub numbers : parcel_numbers sends ≡ range_with_len (old.sent + 1)
      (min (new.sent - old.sent) (MOST_FRAMES - old.standing))
  pub standing : new.standing ≡ old.standing + length sends
  pub came : List Parcel
  pub into : received new.into ≡ received old.into ++ came
  pub takes : List Parcel
  pub taken : old.early ++ came ≡ takes ++ new.early
  pub known : IsPrefix (received old.into ++ known_items old.into) (received new.into ++ known_items new.into)
  pub still : IsStillUnlessUsed old new

-- all that was known to stand in the ring was taken
abbrev pub IsDrained : LinkState → LinkState → Type 0
IsDrained old new = (moved : HasMoved old new) × IsPrefix (old.early ++ known_items old.into) moved.takes

-- frames were sent alone
abbrev pub TakesNone : LinkState → LinkState → Type 0
TakesNone old new = (moved : HasMoved old new) × (moved.takes ≡ [])

-- just these frames went over the link
pub record IsSentOver (stamp : ℕ) (frames : List Frame) (old new : LinkState) : Type 0 where
  pub view : view_of new ≡ link_after_frames stamp frames (view_of old)
  pub ends : SameEnds old new
  pub into : new.into ≡ old.into
  pub early : new.early ≡ old.early
  pub same : new.used ≡ false → new ≡ old

-- the parcel of this neighbour was taken
pub record IsTakenOf (u : NodeId) (q : Parcel) (old new : LinkState) : Type 0 where
  pub peer : old.peer ≡ u
  pub taken : IsTaken q old new

-- Lists of links

abbrev pub peers_of : List LinkState → List NodeId
peers_of links = map (λ (l : LinkState). l.peer) links

-- no two of these are one
abbrev pub AreApart : List NodeId → Type 0
AreApart [] = Unit {0}
AreApart (n ∷ ns) = AllByRecursion (λ (m : NodeId). (m.0 == n.0) ≡ false) ns × AreApart ns

-- no two links lead to one neighbour
abbrev pub ArePeersApart : List LinkState → Type 0
ArePeersApart links = AreApart (peers_of links)

-- the link at this place changed so, and no other
abbrev pub IsChangedAt : (LinkState → LinkState → Type 0) → ℕ → List LinkState → List LinkState → Type 0
IsChangedAt R i [] after = ⊥
IsChangedAt R i (l ∷ links) [] = ⊥
IsChangedAt R zero (l ∷ links) (m ∷ after) = R l m × (after ≡ links)
IsChangedAt R (suc i) (l ∷ links) (m ∷ after) = (m ≡ l) × IsChangedAt R i links after

-- this parcel of the neighbour u was taken at this place and no other parcel, while frames were sent
abbrev pub TakesAt : NodeId → Parcel → ℕ → List LinkState → List LinkState → Type 0
TakesAt u q i [] after = ⊥
TakesAt u q i (l ∷ links) [] = ⊥
TakesAt u q zero (l ∷ links) (m ∷ after) =
    ((moved : HasMoved l m) × (moved.takes ≡ q ∷ []) × (l.peer ≡ u)) × AllZip TakesNone links after
TakesAt u q (suc i) (l ∷ links) (m ∷ after) = TakesNone l m × TakesAt u q i links after
