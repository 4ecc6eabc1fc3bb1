-- What a turn makes of a station.
use Rattle.std.specs.{Prelude.{◌≡◌, ◌≤◌, ◌+◌, ℕ, zero, suc, Bool, true, false, nat_le, List, [], ◌∷◌, ◌++◌, ◌⊎◌, Some, filter, length, map, if◌then◌else◌}, List.{AllZip, flat_map}}
use Rattle.ason_base.specs.{declared.ids.NodeId.NodeId, Network.Network, declared.commands.Disturb.Disturb, declared.commands.DisturbKind.TheVariants.Repeat}
use Rattle.flood.specs.{Frames.IsFrame, declared.frames.Content.Content}
use Rattle.station_rings.specs.{declared.parcel.Parcel.Parcel, LinkStates.LinkState}
use Rattle.round_rules.specs.{Doings.{Did, Doing, Freed, Got, Lost}, Functions.Popped, Halts.IsCutTurnOf, Limits.turn_to, Lines.says, PartLimits.IsAtLimit, Moves.{HasMoved, IsDrained, TakesNone}, Stands.parcel_ticked, States.{IsStationOf, StationState}, declared.held.HeldParcel.HeldParcel, declared.turns.Turn.Turn}
use Rattle.world_merge.specs.Deeds.{Took}
use Rattle.round_rules.specs.declared.turns.Turn.TheVariants as turn

-- Frames as they are popped

-- the parcel, which came from this neighbour, and something that it bears
pub record IsPoppedAs (from : NodeId) (q : Parcel) (p : Popped) : Type 0 where
  pub from_it : p.from ≡ from
  pub number : p.number ≡ q.number
  pub stamp : p.stamp ≡ q.stamp
  pub spells : IsFrame q.frame p.content

-- Of a link: all that was known to stand in its ring was taken, and more that came since, which is what was popped.
pub record IsEmptied (old new : LinkState) (pops : List Popped) : Type 0 where
  pub drained : IsDrained old new
  pub are : AllZip (IsPoppedAs old.peer) drained.0.takes pops

-- Of the link at which a turn halted: the frames to which it came. It took them, but for the last ones, which wait
-- first of those that came out of the ring.
pub record IsCutShort (old new : LinkState) (pops : List Popped) : Type 0 where
  pub moved : HasMoved old new
  pub head : List Parcel
  pub rest : List Parcel
  pub next : new.early ≡ head ++ rest
  pub are : AllZip (IsPoppedAs old.peer) (moved.takes ++ head) pops

-- nothing is taken of these links, and nothing was popped
abbrev pub AreUntouched : List LinkState → List LinkState → List (List Popped) → Type 0
AreUntouched [] [] [] = Unit {0}
AreUntouched (l ∷ links) (m ∷ after) (ps ∷ pops) = TakesNone l m × (ps ≡ []) × AreUntouched links after pops
AreUntouched [] (m ∷ after) pops = ⊥
AreUntouched [] [] (ps ∷ pops) = ⊥
AreUntouched (l ∷ links) [] pops = ⊥
AreUntouched (l ∷ links) (m ∷ after) [] = ⊥

-- The pops of each link, link by link. Where the turn halted, the links before one of them were emptied, and those
-- after it are untouched; a turn that halted before its rings came to no frame of the first one.
abbrev pub HaveComeTo : Bool → List LinkState → List LinkState → List (List Popped) → Type 0
HaveComeTo halted [] [] [] = Unit {0}
HaveComeTo halted (l ∷ links) (m ∷ after) (ps ∷ pops) =
    (IsEmptied l m ps × HaveComeTo halted links after pops)
    ⊎ ((halted ≡ true) × IsCutShort l m ps × AreUntouched links after pops)
HaveComeTo halted [] (m ∷ after) pops = ⊥
HaveComeTo halted [] [] (ps ∷ pops) = ⊥
HaveComeTo halted (l ∷ links) [] pops = ⊥
HaveComeTo halted (l ∷ links) (m ∷ after) [] = ⊥

abbrev pub all_of : List (List Popped) → List Popped
all_of pops = flat_map (λ ps. ps) pops

-- the parcels that are due, once the node ticked where it is to
abbrev pub due_parcels : Bool → List HeldParcel → List HeldParcel
due_parcels tick held =
    filter (λ (h : HeldParcel). nat_le 2 h.ticks) (if tick then map parcel_ticked held else held)

abbrev pub IsPoppedHeld : HeldParcel → Popped → Type 0
IsPoppedHeld h p = IsPoppedAs h.from h.parcel p

-- The turn

-- it is the turn as a function of what was due and of what it came to
pub record TurnsTo (t : Network) (n : NodeId) (ds : List Doing) (tick halted : Bool)
    (old new : StationState) : Type 0 where
  pub due : List Popped
  pub are_due : AllZip IsPoppedHeld (due_parcels tick old.held) due
  pub pops : List (List Popped)
  pub are_pops : HaveComeTo halted old.links new.links pops
  pub stands : IsStationOf t n (turn_to t old.lines n tick ds due (all_of pops)).doings new
  pub halts : (turn_to t old.lines n tick ds due (all_of pops)).halted ≡ halted

-- Memory was wanting

-- What was popped for the line that was refused is lost: a frame out of a ring, before its first delivery or its
-- second, or a frame that was held. A tick or an item that was refused is made later.
pub data IsLast (lines : List Disturb) (n : NodeId) : List Doing → Type 0 where
  NoneLost : IsLast lines n []
  PopLost : (u : NodeId) (k : ℕ) → IsLast lines n (Got u k (says lines u n k) ∷ Lost u k ∷ [])
  RepeatLost : (u : NodeId) (k s : ℕ) (x : Content) → says lines u n k ≡ Some Repeat →
      IsLast lines n (Got u k (Some Repeat) ∷ Did (Took s u k x) ∷ Lost u k ∷ [])
  HeldLost : (u : NodeId) (k : ℕ) → IsLast lines n (Freed ∷ Lost u k ∷ [])

-- The node did a first part of the turn, and what it came to then is lost.
pub record StarvesTo (t : Network) (lines : List Disturb) (n : NodeId) (ds : List Doing) (tick : Bool)
    (new : StationState) : Type 0 where
  pub made : List Doing
  pub last : List Doing
  pub cut : IsCutTurnOf t lines n tick ds made
  pub is_last : IsLast lines n last
  pub stands : IsStationOf t n (ds ++ (made ++ last)) new

-- Turns

-- how many lines the log has more
abbrev pub HasGrown : ℕ → StationState → StationState → Type 0
HasGrown k old new = length new.log ≡ length old.log + k

-- whatever the node did before
abbrev pub HasTurned : StationState → StationState → Bool → Turn → Type 0
HasTurned old new tick (turn.Worked k) =
    (1 ≤ k) × HasGrown k old new × ((t : Network) (n : NodeId) (ds : List Doing) → IsStationOf t n ds old →
    TurnsTo t n ds tick false old new)
HasTurned old new tick turn.Idle =
    HasGrown 0 old new × ((t : Network) (n : NodeId) (ds : List Doing) → IsStationOf t n ds old →
    TurnsTo t n ds tick false old new)
HasTurned old new tick turn.AtLimit =
    (t : Network) (n : NodeId) (ds : List Doing) → IsStationOf t n ds old → TurnsTo t n ds tick true old new
HasTurned old new tick turn.Starved =
    (t : Network) (n : NodeId) (ds : List Doing) → IsStationOf t n ds old → StarvesTo t old.lines n ds tick new

-- the turn came to its end
abbrev pub comes_to_end : Turn → Bool
comes_to_end (turn.Worked k) = true
comes_to_end turn.Idle = true
comes_to_end turn.AtLimit = false
comes_to_end turn.Starved = false

abbrev pub is_starved : Turn → Bool
is_starved (turn.Worked k) = false
is_starved turn.Idle = false
is_starved turn.AtLimit = false
is_starved turn.Starved = true

abbrev pub is_at_limit : Turn → Bool
is_at_limit (turn.Worked k) = false
is_at_limit turn.Idle = false
is_at_limit turn.AtLimit = true
is_at_limit turn.Starved = false

-- one turn, which keeps the fault lines, and what it made of the links
pub record HasMadeTurn (tick : Bool) (old new : StationState) (end : Turn) : Type 0 where
  pub turned : HasTurned old new tick end
  pub lines : new.lines ≡ old.lines
  pub links : AllZip HasMoved old.links new.links
  pub drained : comes_to_end end ≡ true → AllZip IsDrained old.links new.links
  -- where it halted, the log is full, or no stamp is left
  pub limit : is_at_limit end ≡ true → (t : Network) (n : NodeId) (ds : List Doing) → IsStationOf t n ds old →
      IsAtLimit new

-- a turn, and then these
pub record ThenTurns (tick : Bool) (old : StationState) (Rest : StationState → Type 0) : Type 0 where
  pub mid : StationState
  pub answer : Turn
  pub turn : HasMadeTurn tick old mid answer
  pub ended : comes_to_end answer ≡ true
  pub rest : Rest mid

-- At most so many turns and at least one, the first with a tick where it is asked for. One that doesn't come to its end
-- is the last; what the last one answers is answered.
abbrev pub HaveMadeTurns : ℕ → Bool → StationState → StationState → Turn → Type 0
HaveMadeTurns zero tick old new end = ⊥
HaveMadeTurns (suc k) tick old new end =
    HasMadeTurn tick old new end ⊎ ThenTurns tick old (λ mid. HaveMadeTurns k false mid new end)
