-- What lasts from one end of a hop, the sender, to the other, the receiver.
use Rattle.std.proofs.Common.{◌≡◌, ℕ, ◌+◌, ◌≤◌, ◌⊎◌, true, Some, List, [], ◌∷◌, length, take, ◌∙◌}
use Rattle.std.specs.List.{AllByRecursion, slice_get, list_any}
use Rattle.ason_base.specs.{declared.messages.Msg.Msg, declared.messages.MsgId.MsgId, declared.messages.Packet.Packet}
use Rattle.hop_reliable.specs.{declared.unacked.Unacked.Unacked, Hop.is_ack_of, Schedules.HopEnd}

-- the message of this number, from 1
pub record IsNumbered (given : List Msg) (n : ℕ) (m : Msg) : Type 0 where
  pub place : ℕ
  pub number : n ≡ place + 1
  pub message : slice_get given place ≡ Some m

-- a frame whose message, if it has one with a number, is the one of that number
pub record IsOwnFrame (given : List Msg) (p : Packet) : Type 0 where
  pub own : (id : MsgId) (m : Msg) → p.id ≡ Some id → p.body ≡ Some m → IsNumbered given id.number m

-- a frame that acknowledges in epoch 1 nothing above n
pub record AcksUpTo (n : ℕ) (p : Packet) : Type 0 where
  pub up_to : (number : ℕ) → list_any (is_ack_of number) p.acks ≡ true → number ≤ n

pub record WaitsAsGiven (given : List Msg) (w : Unacked) : Type 0 where
  pub numbered : IsNumbered given w.number w.msg

-- the message with this number is among the unacknowledged
abbrev pub Has : ℕ → Msg → List Unacked → Type 0
Has n m [] = ⊥
Has n m (w ∷ ws) = ((w.number ≡ n) × (w.msg ≡ m)) ⊎ Has n m ws

pub record Flow (x y : HopEnd) : Type 0 where
  pub count : x.hop.sent ≡ length x.given
  pub prefix : y.up ≡ take y.hop.handed_up x.given
  pub within : y.hop.handed_up ≤ length x.given
  pub own : AllByRecursion (IsOwnFrame x.given) x.frames
  pub waiting : AllByRecursion (WaitsAsGiven x.given) x.hop.unacked
  pub kept : (k : ℕ) (m : Msg) → slice_get x.given k ≡ Some m → y.hop.handed_up ≤ k → Has (k + 1) m x.hop.unacked
  pub acks : AllByRecursion (AcksUpTo y.hop.handed_up) y.frames

-- an end that has handed up as much as before, whatever else it is now
pub flow-beside : (x y : HopEnd) (sent : ℕ) (unacked : List Unacked) (given up : List Msg) (frames : List Packet) →
    up ≡ y.up → Flow x y → AllByRecursion (AcksUpTo y.hop.handed_up) frames →
    Flow x (record {
      hop = record { sent = sent; handed_up = y.hop.handed_up; unacked = unacked };
      given = given;
      up = up;
      frames = frames;
    })
flow-beside x y sent unacked given up frames same f acks = record {
  count = f.count;
  prefix = same ∙ f.prefix;
  within = f.within;
  own = f.own;
  waiting = f.waiting;
  kept = f.kept;
  acks = acks;
}
