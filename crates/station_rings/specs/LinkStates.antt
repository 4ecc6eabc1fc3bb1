-- A link with the ends of its two rings, and what sending, taking and looking make of it.
use Rattle.std.specs.{Prelude.{◌≡◌, ◌≤◌, ◌+◌, ℕ, Bool, true, false, List, [], ◌∷◌, ◌++◌, length}, List.AllByRecursion, declared.alloc.Global.Global}
use mathlib.Core.List.{IsPrefix}
use Rattle.ason_base.specs.{declared.limits.TheConstants.MOST_FRAMES, declared.ids.NodeId.NodeId}
use Rattle.rtrb.specs.{Ring.{sent, received, known_items, producer_capacity, IsPair, SameConsumer, SameProducer}, declared.producer.Producer.Producer, declared.consumer.Consumer.Consumer}
use Rattle.flood.specs.{declared.frames.Content.Content, Frames.IsFrame}
use Rattle.station_rings.specs.{declared.parcel.Parcel.Parcel, Links.LinkView, declared.parcels.Head.Head, declared.rules.Rising.Rising, Protocols.AreInOrder}

-- The ends of the rings stand in it, so that a clause can say of two links that they are the two ends of both rings.
pub record LinkState : Type 0 where
  pub peer : NodeId
  -- whether frames were sent or taken since the last look, or came out of the ring
  pub used : Bool
  -- the number of the last frame that was sent, whether it was dropped or not
  pub sent : ℕ
  -- how many frames stand in the ring, by the sender's own count
  pub standing : ℕ
  pub out : Producer Parcel Global Rising
  -- the parcels for which no room was known in the ring
  pub backlog : List Parcel
  pub into : Consumer Parcel Global Rising
  -- the parcels that came out of the ring and weren't taken
  pub early : List Parcel

-- all that was ever handed to the ring, what waits behind it with it
abbrev pub gone_of : LinkState → List Parcel
gone_of l = sent l.out ++ l.backlog

-- the link as the laws of stations see it
abbrev pub view_of : LinkState → LinkView
view_of l = record { peer = l.peer; sent = l.sent; standing = l.standing; gone = gone_of l; came = received l.into }

-- bytes bear something
abbrev pub BearsSome : List ℕ → Type 0
BearsSome bytes = (c : Content) × IsFrame bytes c

abbrev pub IsBearing : Parcel → Type 0
IsBearing p = BearsSome p.frame

-- What holds of every link: at most 256 parcels stand in the ring, and as many came early, no parcel has a number yet to
-- come, what waits may follow what was sent, and what came bears something.
pub record LinkFits (l : LinkState) : Type 0 where
  pub few : length l.backlog ≤ l.standing
  pub most : l.standing ≤ MOST_FRAMES
  pub order : AreInOrder (sent l.out) l.backlog
  pub numbers : AllByRecursion (λ (p : Parcel). p.number ≤ l.sent) (gone_of l)
  pub early_few : length l.early ≤ MOST_FRAMES
  pub bears : AllByRecursion IsBearing l.early

-- Use

-- since the last look nothing was sent or taken, and nothing came out of the ring
pub record IsLinkStill (before after : LinkState) : Type 0 where
  pub unused : before.used ≡ false
  pub peer : after.peer ≡ before.peer
  pub sent : after.sent ≡ before.sent
  pub standing : after.standing ≡ before.standing
  pub out : after.out ≡ before.out
  pub backlog : after.backlog ≡ before.backlog
  pub ends : SameConsumer before.into after.into
  pub came : received after.into ≡ received before.into
  pub known : known_items after.into ≡ known_items before.into
  pub early : after.early ≡ before.early

abbrev pub IsStillUnlessUsed : LinkState → LinkState → Type 0
IsStillUnlessUsed before after = after.used ≡ false → IsLinkStill before after

-- Sending

-- the same ends of the same rings
pub record SameEnds (a b : LinkState) : Type 0 where
  pub out : SameProducer a.out b.out
  pub into : SameConsumer a.into b.into

-- Looking

-- both rings between two links, each for 256 parcels
pub record AreEnds (a b : LinkState) : Type 0 where
  pub there : IsPair a.out b.into
  pub back : IsPair b.out a.into
  pub wide : producer_capacity a.out ≡ MOST_FRAMES
  pub wide_back : producer_capacity b.out ≡ MOST_FRAMES

-- what stands in the ring from a to b by all counts is at most 256: in the ring, early at its end, and in the backlog
abbrev pub IsFew : LinkState → LinkState → Type 0
IsFew a b = length b.early + length (gone_of a) ≤ MOST_FRAMES + length (received b.into)

pub record AreFew (a b : LinkState) : Type 0 where
  pub there : IsFew a b
  pub back : IsFew b a

-- A look at the ring from a to b makes c of a and d of b: nothing was sent or taken, all that was handed to the ring is
-- known at its end, early or in the ring, and how many these are is known to the sender. No use is counted since.
pub record IsLooked (a c b d : LinkState) : Type 0 where
  pub peer : c.peer ≡ a.peer
  pub unused : c.used ≡ false
  pub sent : c.sent ≡ a.sent
  pub gone : gone_of c ≡ gone_of a
  pub backlog : c.backlog ≡ []
  pub whole : received d.into ++ known_items d.into ≡ gone_of a
  pub more : List Parcel
  pub early : d.early ≡ b.early ++ more
  pub came : received b.into ++ more ≡ received d.into
  pub standing : c.standing ≡ length d.early + length (known_items d.into)

-- Taking

-- the number and the stamp of the first of these parcels
pub record IsHead (h : Head) (parcels : List Parcel) : Type 0 where
  pub parcel : Parcel
  pub rest : List Parcel
  pub first : parcels ≡ parcel ∷ rest
  pub number : parcel.number ≡ h.number
  pub stamp : parcel.stamp ≡ h.stamp

-- frames came out of the ring, and wait early
pub record IsFetched (before after : LinkState) : Type 0 where
  pub peer : after.peer ≡ before.peer
  pub sent : after.sent ≡ before.sent
  pub standing : after.standing ≡ before.standing
  pub out : after.out ≡ before.out
  pub backlog : after.backlog ≡ before.backlog
  pub ends : SameConsumer before.into after.into
  pub more : List Parcel
  pub came : received after.into ≡ received before.into ++ more
  pub early : after.early ≡ before.early ++ more
  pub known : IsPrefix (received before.into ++ known_items before.into) (received after.into ++ known_items after.into)
  pub still : IsStillUnlessUsed before after

-- the first of those that waited early was taken, and it bears something
pub record IsTaken (parcel : Parcel) (before after : LinkState) : Type 0 where
  pub peer : after.peer ≡ before.peer
  pub sent : after.sent ≡ before.sent
  pub standing : after.standing ≡ before.standing
  pub out : after.out ≡ before.out
  pub backlog : after.backlog ≡ before.backlog
  pub into : after.into ≡ before.into
  pub first : before.early ≡ parcel ∷ after.early
  pub bears : IsBearing parcel
  pub used : after.used ≡ true

-- Beginning

-- nothing was sent or taken over the link to this neighbour
pub record IsNew (n : NodeId) (l : LinkState) : Type 0 where
  pub peer : l.peer ≡ n
  pub sent : l.sent ≡ 0
  pub standing : l.standing ≡ 0
  pub gone : gone_of l ≡ []
  pub came : received l.into ≡ []
  pub early : l.early ≡ []
