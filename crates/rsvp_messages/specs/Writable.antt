-- What has a written form.
use Rattle.std.specs.Prelude.{◌≡◌, ◌≤◌, ◌<◌, ◌^◌, ℕ, List, length, All, Option, None, Some, IfSome}
use Rattle.rsvp_messages.specs.{declared.ids.TheConstants.MOST_ACKS, Packets.Spells}
use Rattle.ason_base.specs.{declared.limits.TheConstants.MOST_LABELS, declared.codes.ErrCode.ErrCode, declared.ids.Lsp.Lsp, declared.messages.Msg.Msg, declared.messages.Msg.TheVariants.{Path, Resv, PathTear, PathErr, Notify}, declared.messages.MsgId.MsgId, declared.messages.Packet.Packet, declared.messages.PathRole.PathRole, declared.messages.PathRole.TheVariants.{Work, Back}, Writable.IsWritableMsg}
use Rattle.wire_buf.specs.Routes.{HasIds}
use Rattle.rsvp_objects.specs.LabelSets.{among}

abbrev pub IsShort : MsgId → Type 0
IsShort m = m.epoch < 2 ^ 24

-- a packet without a body has no number and at least one acknowledgement
abbrev pub IsWritableBody : Option MsgId → List MsgId → Option Msg → Type 0
IsWritableBody id acks None = (id ≡ None) × (1 ≤ length acks)
IsWritableBody id acks (Some m) = IsWritableMsg m

pub record IsWritable (p : Packet) : Type 0 where
  pub id : IfSome p.id IsShort
  pub acks : All IsShort p.acks
  pub few : length p.acks ≤ MOST_ACKS
  pub body : IsWritableBody p.id p.acks p.body

-- a Path that leaves a label to take, and every other message
abbrev pub LeavesLabel : Option Msg → Type 0
LeavesLabel None = Unit {0}
LeavesLabel (Some (Path lsp egress link route set upstream role)) = 1 ≤ length set
LeavesLabel (Some (Resv lsp egress link label)) = Unit {0}
LeavesLabel (Some (PathTear lsp egress link)) = Unit {0}
LeavesLabel (Some (PathErr lsp egress at removed code)) = Unit {0}
LeavesLabel (Some (Notify lsp egress at link code)) = Unit {0}

-- bytes spell a packet that has a written form, but for a Path that leaves no label
abbrev pub ReadIsWritable : Type 0
ReadIsWritable =
    (bytes : List ℕ) (p : Packet) → All (λ b. b < 2 ^ 8) bytes → Spells bytes p →
    LeavesLabel p.body → IsWritable p

-- What the types of the program say of a packet: each number has its width, a label is one of 1 to 80, and a set of
-- labels is the rising list of those that it has.
abbrev pub FitsLsp : Lsp → Type 0
FitsLsp l = (l.ingress.0 < 2 ^ 32) × (l.tunnel < 2 ^ 16) × (l.lsp < 2 ^ 16)

abbrev pub FitsCode : ErrCode → Type 0
FitsCode c = (c.code < 2 ^ 8) × (c.value < 2 ^ 16)

abbrev pub IsLabelNumber : ℕ → Type 0
IsLabelNumber l = (1 ≤ l) × (l ≤ MOST_LABELS)

abbrev pub FitsRole : PathRole → Type 0
FitsRole (Work guard) = Unit {0}
FitsRole (Back active work primary) = (work < 2 ^ 16) × All HasIds primary

abbrev pub FitsMsg : Msg → Type 0
FitsMsg (Path lsp egress link route set upstream role) =
    FitsLsp lsp × (egress.0 < 2 ^ 32) × (link.0 < 2 ^ 32) × All HasIds route × (set ≡ among set)
    × IfSome upstream IsLabelNumber × FitsRole role
FitsMsg (Resv lsp egress link label) = FitsLsp lsp × (egress.0 < 2 ^ 32) × (link.0 < 2 ^ 32) × IsLabelNumber label
FitsMsg (PathTear lsp egress link) = FitsLsp lsp × (egress.0 < 2 ^ 32) × (link.0 < 2 ^ 32)
FitsMsg (PathErr lsp egress at removed code) = FitsLsp lsp × (egress.0 < 2 ^ 32) × (at.0 < 2 ^ 32) × FitsCode code
FitsMsg (Notify lsp egress at link code) =
    FitsLsp lsp × (egress.0 < 2 ^ 32) × (at.0 < 2 ^ 32) × (link.0 < 2 ^ 32) × FitsCode code

abbrev pub FitsId : MsgId → Type 0
FitsId m = m.number < 2 ^ 32

pub record PacketFits (p : Packet) : Type 0 where
  pub id : IfSome p.id FitsId
  pub acks : All FitsId p.acks
  pub body : IfSome p.body FitsMsg
