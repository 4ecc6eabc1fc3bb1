-- What a turn up to a node's limit is: the whole turn, or a first part of it and the input that it left.
use Rattle.std.specs.{Prelude.{◌≡◌, ◌≤◌, ◌<◌, ◌⊎◌, ◌+◌, ◌^◌, ℕ, Bool, true, false, List, [], ◌∷◌, ◌++◌, length, Some}, List.Contains}
use Rattle.ason_base.specs.{declared.limits.TheConstants.MOST_EVENTS, declared.ids.NodeId.NodeId, declared.commands.Disturb.Disturb, declared.commands.DisturbKind.TheVariants.Repeat, Network.Network}
use Rattle.flood.specs.declared.frames.Content.{Content}
use Rattle.world_merge.specs.Deeds.{Took}
use Rattle.round_rules.specs.{Doings.{Did, Doing, Got, Left, Waiting, DeskItem, DueFrame, RingFrame, TickAsked}, Functions.{AreHeldAs, Popped, tick_if, turn_after}, Held.{HeldFrame, due_in}, Limits.{log_line_count, next_stamp, turn_to}, Lines.says, Takings.{AreTakings, Taking, all_doings, IsDelivered}, Turns.{AreDelivered, AreHandled, IsTick, IsTurnOf, items_after}}

-- A cut turn

-- a frame of which the last line says `repeat` was delivered once
pub record IsDeliveredOnce (lines : List Disturb) (n : NodeId) (ds : List Doing) : Type 0 where
  pub from : NodeId
  pub number : ℕ
  pub stamp : ℕ
  pub content : Content
  pub repeats : says lines from n number ≡ Some Repeat
  pub all : ds ≡ Got from number (Some Repeat) ∷ Did (Took stamp from number content) ∷ []

-- the second delivery of the last frame may be wanting
abbrev pub MayLack : List Disturb → NodeId → List Doing → Type 0
MayLack lines n ds = (ds ≡ []) ⊎ IsDeliveredOnce lines n ds

abbrev pub MayTick : Bool → List Doing → Type 0
MayTick tick ds = (ds ≡ []) ⊎ IsTick tick ds

-- What a node adds in a turn that ends before its end: at most one tick, first; the first of the held frames that are
-- due; items; and frames that are taken.
pub record IsCutTurnOf (t : Network) (lines : List Disturb) (n : NodeId) (tick : Bool)
    (before added : List Doing) : Type 0 where
  pub ticks : List Doing
  pub dues : List Doing
  pub items : List Doing
  pub takings : List Taking
  pub last : List Doing
  pub all : added ≡ ticks ++ (dues ++ (items ++ (all_doings takings ++ last)))
  pub is_tick : MayTick tick ticks
  pub freed : List HeldFrame
  pub kept : List HeldFrame
  pub due : due_in (before ++ ticks) ≡ freed ++ kept
  pub are_due : AreDelivered freed dues
  pub handled : AreHandled items
  pub few : length items ≤ items_after t n (before ++ (ticks ++ dues))
  pub are_takings : AreTakings lines n takings
  pub lacks : MayLack lines n last

-- The limit

-- one more than the clock, or than the stamp of one of these frames, is no number of 64 bits
abbrev pub HasNoStamp : List Doing → List Popped → Type 0
HasNoStamp ds ps = (2 ^ 64 ≤ next_stamp ds) ⊎ ((p : Popped) × Contains ps p × (2 ^ 64 ≤ p.stamp + 1))

-- the log is full, or no stamp is left
abbrev pub AreDoingsAtLimit : List Doing → List Popped → Type 0
AreDoingsAtLimit ds ps = (MOST_EVENTS ≤ log_line_count ds) ⊎ HasNoStamp ds ps

-- The input to which a cut turn came: a tick that was asked for, before anything was done; the next of the held frames
-- that are due; an item of the desk; a frame that is to be delivered as it comes out of a ring.
abbrev pub IsAtHand : (t : Network) (lines : List Disturb) (n : NodeId) (tick : Bool) (before added : List Doing) →
    IsCutTurnOf t lines n tick before added → List Popped → Waiting → Type 0
IsAtHand t lines n tick before added cut pops TickAsked = (tick ≡ true) × (added ≡ [])
IsAtHand t lines n tick before added cut pops (DueFrame u k) =
    (h : HeldFrame) × (more : List HeldFrame) × (cut.kept ≡ h ∷ more) × (h.from ≡ u) × (h.number ≡ k)
IsAtHand t lines n tick before added cut pops DeskItem =
    (cut.kept ≡ []) × (length cut.items < items_after t n (before ++ (cut.ticks ++ cut.dues)))
IsAtHand t lines n tick before added cut pops (RingFrame u k) =
    (first : List Popped) × (p : Popped) × (more : List Popped) × (pops ≡ first ++ p ∷ more) × (p.from ≡ u)
    × (p.number ≡ k) × IsDelivered (says lines u n k)

-- What the turn did is a first part of the whole turn, and an input that is at hand is left, for which the log had no
-- room.
pub record HasHalted (t : Network) (lines : List Disturb) (n : NodeId) (tick : Bool) (before : List Doing)
    (due pops : List Popped) : Type 0 where
  pub added : List Doing
  pub left : Waiting
  pub all : (turn_to t lines n tick before due pops).doings ≡ (before ++ added) ++ Left left ∷ []
  pub cut : IsCutTurnOf t lines n tick before added
  pub hand : IsAtHand t lines n tick before added cut pops left
  pub rest : List Doing
  pub whole : turn_after t lines n tick before due pops ≡ (before ++ added) ++ rest
  pub limit : AreDoingsAtLimit (before ++ added) (due ++ pops)

-- Laws

-- a turn that doesn't halt is the whole turn
abbrev pub TurnsEnd : Type 0
TurnsEnd =
    (t : Network) (lines : List Disturb) (n : NodeId) (tick : Bool) (before : List Doing) (due pops : List Popped) →
    (turn_to t lines n tick before due pops).halted ≡ false →
    (turn_to t lines n tick before due pops).doings ≡ turn_after t lines n tick before due pops

abbrev pub TurnsHalt : Type 0
TurnsHalt =
    (t : Network) (lines : List Disturb) (n : NodeId) (tick : Bool) (before : List Doing) (due pops : List Popped) →
    AreHeldAs (due_in (tick_if tick before)) due → (turn_to t lines n tick before due pops).halted ≡ true →
    HasHalted t lines n tick before due pops

-- what else might be popped changes nothing
abbrev pub HaltsAreLast : Type 0
HaltsAreLast =
    (t : Network) (lines : List Disturb) (n : NodeId) (tick : Bool) (before : List Doing)
    (due pops more : List Popped) → (turn_to t lines n tick before due pops).halted ≡ true →
    turn_to t lines n tick before due (pops ++ more) ≡ turn_to t lines n tick before due pops

-- a turn, and then one without a tick that is cut
abbrev pub TurnsMakeACutTurn : Type 0
TurnsMakeACutTurn =
    (t : Network) (lines : List Disturb) (n : NodeId) (tick : Bool) (before one two : List Doing) →
    IsTurnOf t lines n tick before one → IsCutTurnOf t lines n false (before ++ one) two →
    IsCutTurnOf t lines n tick before (one ++ two)
