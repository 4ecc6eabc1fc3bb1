-- A round that a node's limit ends.
use Rattle.std.specs.{Prelude.{◌≡◌, ◌<◌, ℕ, Bool, true, false, List, [], ◌∷◌, ◌++◌, drop, length, Some, None}, List.list_any}
use Rattle.ason_base.specs.{declared.limits.TheConstants.MOST_EVENTS, declared.ids.NodeId.NodeId, declared.commands.Disturb.Disturb, Network.{Network, is_node_id}}
use Rattle.round_rules.specs.{Doings.{Did, Doing, Freed, Got, Left, Lost, Waiting}, Functions.Popped, Limits.turn_to, OneWorker.one_round, Records.{Record, log_at}, Rounds.{AreFramesAt, DropsAt, IsRound, IsRoundAt}, Halts.{IsAtHand, IsCutTurnOf}}

-- One node's part that its limit ends: its turns together are one that halts at an input for which the log, of 50,000
-- lines, has no room. That input is the last of its doings.
pub record IsHaltedAt (t : Network) (lines : List Disturb) (before after : Record) (n : NodeId) : Type 0 where
  pub due : List Popped
  pub pops : List Popped
  pub frames : AreFramesAt t before after n due pops
  pub turn : turn_to t lines n true (before.doings n.0) due pops ≡ record { doings = after.doings n.0; halted = true }
  pub full : length (log_at after n.0) ≡ MOST_EVENTS

-- a node's turns came to their end, halted at its limit, or weren't begun
pub data EndsPart (t : Network) (lines : List Disturb) (before after : Record) (n : NodeId) : Type 0 where
  CameToEnd : (round : IsRoundAt t lines before after n) → EndsPart t lines before after n
  HaltedAtLimit : (halt : IsHaltedAt t lines before after n) → EndsPart t lines before after n
  NotBegun : (same : after.doings n.0 ≡ before.doings n.0) → EndsPart t lines before after n

pub record IsUnfinished (t : Network) (lines : List Disturb) (before after : Record) : Type 0 where
  pub nodes : (n : NodeId) → is_node_id t.nodes n ≡ true → EndsPart t lines before after n
  pub others : (n : NodeId) → is_node_id t.nodes n ≡ false → after.doings n.0 ≡ before.doings n.0
  pub drops : (u d : NodeId) → DropsAt t before after u d
  pub some : (n : NodeId) × (is_node_id t.nodes n ≡ true) × IsHaltedAt t lines before after n

-- The stop

abbrev pub is_left : Doing → Bool
is_left (Did d) = false
is_left (Got u k says) = false
is_left Freed = false
is_left (Lost u k) = false
is_left (Left w) = true

-- whether the node left an input in this round
abbrev pub leaves : Record → Record → NodeId → Bool
leaves before after n = list_any is_left (drop (length (before.doings n.0)) (after.doings n.0))

-- it is the least node that did, and its log is full
pub record IsStoppedAt (t : Network) (before after : Record) (n : NodeId) : Type 0 where
  pub known : is_node_id t.nodes n ≡ true
  pub left : leaves before after n ≡ true
  pub least : (m : NodeId) → is_node_id t.nodes m ≡ true → m.0 < n.0 → leaves before after m ≡ false
  pub full : length (log_at after n.0) ≡ MOST_EVENTS

-- Rounds by workers

-- a round on so many workers: with one it is a function of what was done before
pub record IsRoundBy (t : Network) (lines : List Disturb) (workers : ℕ) (before after : Record) : Type 0 where
  pub round : IsRound t lines before after
  pub one : workers ≡ 1 → one_round t lines before ≡ record { made = after; stopped = None }

-- one that ends at the limit of this node; with one worker later nodes make no turn
pub record IsUnfinishedBy (t : Network) (lines : List Disturb) (workers : ℕ) (before after : Record)
    (n : NodeId) : Type 0 where
  pub unfinished : IsUnfinished t lines before after
  pub stopped : IsStoppedAt t before after n
  pub one : workers ≡ 1 → one_round t lines before ≡ record { made = after; stopped = Some n }

-- Laws

-- The node did a first part of a turn and left an input at the end of it, which was at hand.
pub record LeavesAtHand (t : Network) (lines : List Disturb) (n : NodeId) (before after : List Doing)
    (pops : List Popped) : Type 0 where
  pub added : List Doing
  pub left : Waiting
  pub all : after ≡ (before ++ added) ++ Left left ∷ []
  pub cut : IsCutTurnOf t lines n true before added
  pub hand : IsAtHand t lines n true before added cut pops left

-- where a node's limit ends a round, the input that it left was at hand
abbrev pub StopsLeaveWhatIsAtHand : Type 0
StopsLeaveWhatIsAtHand =
    (t : Network) (lines : List Disturb) (before after : Record) (n : NodeId) →
    (halt : IsHaltedAt t lines before after n) →
    LeavesAtHand t lines n (before.doings n.0) (after.doings n.0) halt.pops
