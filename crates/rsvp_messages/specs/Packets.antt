-- What the bytes of a whole message spell.
use Rattle.std.specs.{Prelude.{◌≡◌, ◌≤◌, ℕ, List, [], ◌∷◌, length, drop, Option, None, Some}, List.Sorted.IsPermutation}
use Rattle.rsvp_messages.specs.{declared.ids.TheConstants.MOST_ACKS, declared.reading.ReadPacket.ReadPacket, declared.reading.ReadPacket.TheVariants.{Ack, Whole}, Headers.HasHeader, Messages.SpellsMsg, Objects.{AreObjects, Object, of_class}, Parts.{HasAtMostOne, HasEach}}
use Rattle.ason_base.specs.{declared.messages.Msg.Msg, declared.messages.Msg.TheVariants.{Path, Resv, PathTear, PathErr, Notify}, declared.messages.MsgId.MsgId, declared.messages.Packet.Packet}
use Rattle.rsvp_objects.specs.Bodies.{IsMsgId}

-- the types of messages (RFC 2205, section 3.1.1; RFC 2961, section 4.4; RFC 3473, section 4.3); without a message an
-- Ack
abbrev pub type_of : Option Msg → ℕ
type_of (Some (Path lsp egress link route set upstream role)) = 1
type_of (Some (Resv lsp egress link label)) = 2
type_of (Some (PathErr lsp egress at removed code)) = 3
type_of (Some (PathTear lsp egress link)) = 5
type_of None = 13
type_of (Some (Notify lsp egress at link code)) = 21

-- every message has up to 64 MESSAGE_ID_ACKs
abbrev pub HasAcks : List Object → List MsgId → Type 0
HasAcks os acks = (length acks ≤ MOST_ACKS) × HasEach 24 1 IsMsgId os acks

-- an Ack has at least one, and reads no MESSAGE_ID; every other message has at most one MESSAGE_ID
abbrev pub SpellsBody : List Object → Option MsgId → List MsgId → Option Msg → Type 0
SpellsBody os id acks None = (id ≡ None) × (1 ≤ length acks)
SpellsBody os id acks (Some m) = HasAtMostOne 23 1 IsMsgId os id × SpellsMsg os m

pub record SpellsPacket (os : List Object) (p : Packet) : Type 0 where
  pub acks : HasAcks os p.acks
  pub body : SpellsBody os p.id p.acks p.body

-- objects that spell this message or packet, which is of this type
abbrev pub SpellsTyped : ℕ → List Object → Msg → Type 0
SpellsTyped kind os m = (type_of (Some m) ≡ kind) × SpellsMsg os m

abbrev pub SpellsTypedPacket : ℕ → List Object → Packet → Type 0
SpellsTypedPacket kind os p = (type_of p.body ≡ kind) × SpellsPacket os p

-- the acknowledgement of this number alone
abbrev pub ack_alone : MsgId → Packet
ack_alone id = record { id = None; acks = id ∷ []; body = None }

-- a packet as it is read
abbrev pub packet_read : ReadPacket → Packet
packet_read (Ack id) = ack_alone id
packet_read (Whole p) = p

-- a header, and objects to the end that spell the packet
pub record SpelledBy (bytes : List ℕ) (os : List Object) (p : Packet) : Type 0 where
  pub header : HasHeader bytes (type_of p.body)
  pub objects : AreObjects (drop 8 bytes) os
  pub packet : SpellsPacket os p

abbrev pub Spells : List ℕ → Packet → Type 0
Spells bytes p = (os : List Object) × SpelledBy bytes os p

-- A whole message with its objects in another order spells the same packet, whether its checksum is right or wasn't
-- sent. Acknowledgements keep theirs, since they are a list.
abbrev pub ObjectsComeInAnyOrder : Type 0
ObjectsComeInAnyOrder =
    (bytes others : List ℕ) (os moved : List Object) (p : Packet) → SpelledBy bytes os p →
    HasHeader others (type_of p.body) → AreObjects (drop 8 others) moved →
    IsPermutation os moved → of_class 24 os ≡ of_class 24 moved → SpelledBy others moved p
