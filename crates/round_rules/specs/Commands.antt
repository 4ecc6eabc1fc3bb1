-- What a script makes of a record beside its rounds: posts, bytes that spell nothing, and lines that name a frame.
use Rattle.std.specs.{Prelude.{◌≡◌, ◌+◌, ◌==◌, ℕ, max, true, false, List, [], ◌∷◌, ◌++◌, fold, length, map, Some, slice_get}, List.AllZip}
use Rattle.ason_base.specs.{declared.ids.NodeId.NodeId, declared.commands.Command.Command, declared.commands.Disturb.Disturb, declared.commands.Event.TheVariants.{Noise, Post}, Network.{IsTopology, Network}}
use Rattle.control_channels.specs.ReadyControllers.{new_controller}
use Rattle.world_rules.specs.WorldRuns.{IsEnabled, is_world_channel, neighbours_of, world_step}
use Rattle.world_merge.specs.{Deeds.{Heard, Posted, alone}, Histories.at, Posts.HasSamePosts}
use Rattle.station_rings.specs.LinkStates.{AreEnds, IsNew}
use Rattle.round_rules.specs.{Doings.Did, Functions.clock_of, OneWorker.{ids_of, with_doings}, Records.{Record, deeds_at, new_record, world_of}, Rings.count_of, Rounds.IsRound, Unfinished.IsUnfinished, States.StationState, Fleets.{AreStanding, HasGrown, IsStationAt, Wires, AllBegun}, Gaps.PostsFollow, FleetOneWorker.IsPlaced}

-- The start

-- the station of the node is new, and has these links to its neighbours
pub record IsNewAt (t : Network) (wires : Wires) (n : NodeId) (s : StationState) : Type 0 where
  pub controller : s.controller ≡ new_controller t n
  pub desk : s.desk ≡ []
  pub links : s.links ≡ map (λ (u : NodeId). wires n.0 u.0) (neighbours_of t n)
  pub clock : s.clock ≡ 0
  pub log : s.log ≡ []
  pub held : s.held ≡ []
  pub lines : s.lines ≡ []

-- over each channel the two ends of new rings
pub record IsNewRing (wires : Wires) (u d : NodeId) : Type 0 where
  pub ends : AreEnds (wires u.0 d.0) (wires d.0 u.0)
  pub new : IsNew d (wires u.0 d.0)

pub record BeginsAsNew (t : Network) (wires : Wires) (stations : List StationState) : Type 0 where
  pub stands : AreStanding t [] new_record wires stations
  pub begun : AllBegun t wires
  pub follow : PostsFollow t new_record

-- stations that are new stand for the record in which nothing was done
abbrev pub NewStationsStand : Type 0
NewStationsStand =
    (t : Network) (wires : Wires) (stations : List StationState) → IsTopology t →
    AllZip (IsNewAt t wires) (ids_of t) stations →
    ((u d : NodeId) → is_world_channel t u d ≡ true → IsNewRing wires u d) → BeginsAsNew t wires stations

-- Posts

abbrev pub greatest_clock : Network → Record → ℕ
greatest_clock t r = fold (λ (k : ℕ) (n : NodeId). max k (clock_of (r.doings n.0))) 0 (ids_of t)

-- the command is posted: at every number, with one more than the greatest clock
abbrev pub record_posted : Network → Command → Record → Record
record_posted t c r = record r { doings = λ m. r.doings m ++ Did (Posted (greatest_clock t r + 1) c) ∷ [] }

-- the station of the node goes on to the stamp of the post, and its desk is what the post makes of it
pub record TakesPost (t : Network) (r : Record) (c : Command) (n : NodeId) (old new : StationState) : Type 0 where
  pub controller : new.controller ≡ old.controller
  pub desk : new.desk ≡ (world_step t (alone t n (deeds_at r n.0)) (Post c)).desks n.0
  pub links : new.links ≡ old.links
  pub clock : new.clock ≡ greatest_clock t r + 1
  pub log : new.log ≡ old.log
  pub held : new.held ≡ old.held
  pub lines : new.lines ≡ old.lines

-- each station, in order of number
pub record TakePosts (t : Network) (r : Record) (c : Command) (xs ys : List StationState) : Type 0 where
  pub count : length ys ≡ length xs
  pub each : (place : ℕ) (n : NodeId) (x y : StationState) → slice_get (ids_of t) place ≡ Some n →
      slice_get xs place ≡ Some x → slice_get ys place ≡ Some y → TakesPost t r c n x y

-- the stations stand for the record with the post, which takes the world where the post takes it
pub record StandPosted (t : Network) (lines : List Disturb) (c : Command) (r : Record) (w : Wires)
    (ys : List StationState) : Type 0 where
  pub stands : AreStanding t lines (record_posted t c r) w ys
  pub follow : PostsFollow t (record_posted t c r)

abbrev pub PostsStandFor : Type 0
PostsStandFor =
    (t : Network) (lines : List Disturb) (c : Command) (r : Record) (w : Wires) (xs ys : List StationState) →
    AreStanding t lines r w xs → PostsFollow t r → IsEnabled t (world_of t r) (Post c) → TakePosts t r c xs ys →
    StandPosted t lines c r w ys

-- where the nodes were posted the same
abbrev pub PostsAreSteps : Type 0
PostsAreSteps =
    (t : Network) (c : Command) (r : Record) →
    ((n m : ℕ) → HasSamePosts (alone t (at n) (deeds_at r n)) (alone t (at m) (deeds_at r m))) →
    world_of t (record_posted t c r) ≡ world_step t (world_of t r) (Post c)

-- Noise

-- bytes that spell nothing came to d over the channel from u
abbrev pub noised : NodeId → NodeId → List ℕ → Record → Record
noised u d bytes r = with_doings r d.0 (r.doings d.0 ++ Did (Heard (clock_of (r.doings d.0) + 1) u bytes) ∷ [])

-- the stations stand for the record with the noise
pub record StandNoised (t : Network) (lines : List Disturb) (u d : NodeId) (bytes : List ℕ) (r : Record) (w : Wires)
    (ys : List StationState) : Type 0 where
  pub stands : AreStanding t lines (noised u d bytes r) w ys
  pub follow : PostsFollow t (noised u d bytes r)

-- where the station that heard it stands for it, and the others are as they were
abbrev pub NoiseStandsFor : Type 0
NoiseStandsFor =
    (t : Network) (lines : List Disturb) (u d : NodeId) (bytes : List ℕ) (r : Record) (w : Wires)
    (xs : List StationState) (new : StationState) (ys : List StationState) → AreStanding t lines r w xs →
    PostsFollow t r → is_world_channel t u d ≡ true → IsStationAt t lines (noised u d bytes r) w d new →
    AllZip (IsPlaced t lines r w d new) (ids_of t) ys → StandNoised t lines u d bytes r w ys

abbrev pub NoiseIsAStep : Type 0
NoiseIsAStep =
    (t : Network) (u d : NodeId) (bytes : List ℕ) (r : Record) →
    world_of t (noised u d bytes r) ≡ world_step t (world_of t r) (Noise d u bytes)

-- Lines that name a frame

-- the k-th frame from now on, by its number on the channel
abbrev pub named : Network → Record → Disturb → Disturb
named t r d = record d { k = count_of t r d.from d.to + d.k }

-- the station of the node to which the line leads has it as its last one
pub record TakesLine (d : Disturb) (n : NodeId) (old new : StationState) : Type 0 where
  pub there : (d.to.0 == n.0) ≡ true → new ≡ record old { lines = old.lines ++ d ∷ [] }
  pub others : (d.to.0 == n.0) ≡ false → new ≡ old

-- the number of the frame is the one on its channel
abbrev pub LinesStandFor : Type 0
LinesStandFor =
    (t : Network) (lines : List Disturb) (d : Disturb) (r : Record) (w : Wires) (xs ys : List StationState) →
    AreStanding t lines r w xs → length ys ≡ length xs →
    ((place : ℕ) (n : NodeId) (x y : StationState) → slice_get (ids_of t) place ≡ Some n →
    slice_get xs place ≡ Some x → slice_get ys place ≡ Some y → TakesLine d n x y) →
    AreStanding t (lines ++ d ∷ []) r w ys

-- Rounds

-- nothing is posted in a round
abbrev pub RoundsPostNothing : Type 0
RoundsPostNothing =
    (t : Network) (lines : List Disturb) (before after : Record) → IsRound t lines before after →
    (n : NodeId) → HasGrown before after n.0

abbrev pub CutRoundsPostNothing : Type 0
CutRoundsPostNothing =
    (t : Network) (lines : List Disturb) (before after : Record) → IsUnfinished t lines before after →
    (n : NodeId) → HasGrown before after n.0
