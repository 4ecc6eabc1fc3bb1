-- One end of a hop: what it keeps, and what each call makes of it (RFC 2961, sections 4 and 6).
use Rattle.std.specs.{Prelude.{ℕ, ◌+◌, Bool, not, ◌==◌, ◌&&◌, ◌||◌, nat_lt, nat_le, if◌then◌else◌, Option, Some, None, List, [], ◌∷◌, ◌++◌, length, map, filter}, List.list_any, Option.option_to_list}
use Rattle.ason_base.specs.{declared.messages.Msg.Msg, declared.messages.MsgId.MsgId, declared.messages.Packet.Packet}
use Rattle.hop_reliable.specs.{declared.heard.Heard.Heard, declared.heard.Heard.TheVariants.{Acked, Unnumbered, Ahead, Repeat, Next}, declared.unacked.Unacked.Unacked, Ages.{older_age, is_due}}

pub record HopState : Type 0 where
  pub sent : ℕ  -- the number of the last message that was sent
  pub handed_up : ℕ  -- the number of the last message that was handed up
  pub unacked : List Unacked  -- the messages that were sent and not acknowledged, oldest first

abbrev pub fresh_hop : HopState
fresh_hop = record { sent = 0; handed_up = 0; unacked = [] }

-- a message with its number, in epoch 1
abbrev pub numbered : ℕ → Msg → Packet
numbered n m = record { id = Some (record { epoch = 1; number = n }); acks = []; body = Some m }

-- Sending: the message takes the next number, and waits for its acknowledgement from age 0 on.

abbrev pub sent_message : HopState → Msg → HopState
sent_message h m = record {
  sent = h.sent + 1;
  handed_up = h.handed_up;
  unacked = h.unacked ++ record { number = h.sent + 1; age = 0; msg = m } ∷ [];
}

-- A hop whose next messages are prepared: they have their numbers, and aren't sent yet.

pub record PreparedHop : Type 0 where
  pub state : HopState
  pub prepared : List Unacked  -- the messages that are sent next, in order

-- nothing is prepared
abbrev pub resting : HopState → PreparedHop
resting h = record { state = h; prepared = [] }

-- the number of the last message once all that is prepared is sent
abbrev pub last_number : PreparedHop → ℕ
last_number h = h.state.sent + length h.prepared

-- one message more is prepared
abbrev pub with_next : PreparedHop → Msg → PreparedHop
with_next h m = record {
  state = h.state;
  prepared = h.prepared ++ record { number = last_number h + 1; age = 0; msg = m } ∷ [];
}

-- what is prepared is sent
abbrev pub all_sent : PreparedHop → HopState
all_sent h = record { sent = last_number h; handed_up = h.state.handed_up; unacked = h.state.unacked ++ h.prepared }

-- A tick: each message ages, and those that come to an age at which they are due go again as they were.

abbrev pub older : Unacked → Unacked
older w = record { number = w.number; age = older_age w.age; msg = w.msg }

abbrev pub ticked : HopState → HopState
ticked h = record { sent = h.sent; handed_up = h.handed_up; unacked = map older h.unacked }

abbrev pub again : List Unacked → List Packet
again ws = map (λ w. numbered w.number w.msg) (filter (λ w. is_due w.age) ws)

-- what a tick sends again
abbrev pub resent : HopState → List Packet
resent h = again (ticked h).unacked

-- Receiving: the acknowledgements of epoch 1 are taken off first, wherever they stand.

abbrev pub is_ack_of : ℕ → MsgId → Bool
is_ack_of n ack = ack.epoch == 1 && ack.number == n

abbrev pub is_acked : List MsgId → Unacked → Bool
is_acked acks w = list_any (is_ack_of w.number) acks

abbrev pub still_unacked : List MsgId → List Unacked → List Unacked
still_unacked acks ws = filter (λ w. not (is_acked acks w)) ws

-- what a number is, when those up to `last` were handed up
abbrev pub heard_number : ℕ → MsgId → Heard
heard_number last id =
    if not (id.epoch == 1) || nat_lt (last + 1) id.number
    then Ahead
    else if nat_le id.number last then Repeat else Next

abbrev pub heard_id : ℕ → Option MsgId → Heard
heard_id last None = Unnumbered
heard_id last (Some id) = heard_number last id

abbrev pub heard_body : ℕ → Option MsgId → Option Msg → Heard
heard_body last id None = Acked
heard_body last id (Some m) = heard_id last id

-- what a packet is to a hop
abbrev pub heard_as : HopState → Packet → Heard
heard_as h p = heard_body h.handed_up p.id p.body

-- the number of the last message that was handed up, after this one
abbrev pub handed_up_after : ℕ → Heard → ℕ
handed_up_after last Next = last + 1
handed_up_after last Acked = last
handed_up_after last Unnumbered = last
handed_up_after last Ahead = last
handed_up_after last Repeat = last

-- after a packet that was heard so, with these acknowledgements
abbrev pub taken : HopState → Heard → List MsgId → HopState
taken h v acks = record {
  sent = h.sent;
  handed_up = handed_up_after h.handed_up v;
  unacked =
      still_unacked acks h.unacked;
}

abbrev pub received : HopState → Packet → HopState
received h p = taken h (heard_as h p) p.acks

-- what is handed up of a packet that was heard so
abbrev pub handed_up_of : Heard → Packet → List Msg
handed_up_of Next p = option_to_list p.body
handed_up_of Acked p = []
handed_up_of Unnumbered p = []
handed_up_of Ahead p = []
handed_up_of Repeat p = []

abbrev pub ack_of_id : Option MsgId → Packet
ack_of_id id = record { id = None; acks = option_to_list id; body = None }

abbrev pub ack_of : Packet → Packet
ack_of p = ack_of_id p.id

-- What answers a packet that was heard so: an acknowledgement of its number where it is handed up, or had been before.
-- One that is ahead counts as lost and isn't answered.
abbrev pub answers_to : Heard → Packet → List Packet
answers_to Next p = ack_of p ∷ []
answers_to Repeat p = ack_of p ∷ []
answers_to Acked p = []
answers_to Unnumbered p = []
answers_to Ahead p = []
