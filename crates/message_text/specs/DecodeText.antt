-- What `decode` prints for lines of messages in hexadecimal.
use Rattle.std.specs.{Prelude.{◌≡◌, ◌⊎◌, ℕ, ◌==◌, List, [], ◌∷◌, ◌++◌, codes, map, Option, None, Some}, List.{flat_map, slice_split}, Fmt.decimal}
use Rattle.ason_base.specs.{declared.ids.Lsp.Lsp, declared.ids.NodeId.NodeId, declared.messages.Msg.Msg, declared.messages.Msg.TheVariants.{Path, Resv, PathTear, PathErr, Notify}, declared.messages.MsgId.MsgId, declared.messages.Packet.Packet}
use Rattle.rsvp_messages.specs.{declared.lines.Fate.Fate, declared.lines.Fate.TheVariants.{Read, Carried, Ignored}, declared.lines.ObjectLine.ObjectLine, Lines.line_of, Objects.Object, Packets.SpelledBy}
use Rattle.message_text.specs.Hex.{hex_bytes}

abbrev pub type_word : Option Msg → List ℕ
type_word (Some (Path lsp egress link route set upstream role)) = codes "Path"
type_word (Some (Resv lsp egress link label)) = codes "Resv"
type_word (Some (PathErr lsp egress at removed code)) = codes "PathErr"
type_word (Some (PathTear lsp egress link)) = codes "PathTear"
type_word (Some (Notify lsp egress at link code)) = codes "Notify"
type_word None = codes "Ack"

-- the number, or `-`
abbrev pub id_text : Option MsgId → List ℕ
id_text None = codes "-"
id_text (Some id) = decimal id.number

-- a further number, with a comma in front
abbrev pub more_text : MsgId → List ℕ
more_text ack = codes "," ++ decimal ack.number

-- the numbers, joined by commas, or `-`
abbrev pub acks_text : List MsgId → List ℕ
acks_text [] = codes "-"
acks_text (ack ∷ acks) = decimal ack.number ++ flat_map more_text acks

-- what a message is about: its LSP and egress
abbrev pub subject_of : Msg → Lsp × NodeId
subject_of (Path lsp egress link route set upstream role) = (lsp, egress)
subject_of (Resv lsp egress link label) = (lsp, egress)
subject_of (PathErr lsp egress at removed code) = (lsp, egress)
subject_of (PathTear lsp egress link) = (lsp, egress)
subject_of (Notify lsp egress at link code) = (lsp, egress)

-- ` lsp INGRESS.TUNNEL.LSP egress E`, all in decimal
abbrev pub lsp_and_egress : Lsp × NodeId → List ℕ
lsp_and_egress s =
    codes " lsp " ++ decimal s.0.ingress.0 ++ codes "." ++ decimal s.0.tunnel ++ codes "." ++ decimal s.0.lsp
    ++ codes " egress " ++ decimal s.1.0

abbrev pub subject_text : Option Msg → List ℕ
subject_text None = codes " lsp - egress -"
subject_text (Some m) = lsp_and_egress (subject_of m)

-- `TYPE id ID acks ACKS lsp LSP egress E`
abbrev pub packet_head_text : Packet → List ℕ
packet_head_text p =
    type_word p.body ++ codes " id " ++ id_text p.id ++ codes " acks " ++ acks_text p.acks ++ subject_text p.body
    ++ codes "\n"

abbrev pub fate_word : Fate → List ℕ
fate_word Read = codes "read"
fate_word Carried = codes "carried"
fate_word Ignored = codes "ignored"

-- ` CLASS/CTYPE LENGTH FATE`
abbrev pub object_text : ObjectLine → List ℕ
object_text o =
    codes " " ++ decimal o.class ++ codes "/" ++ decimal o.ctype ++ codes " " ++ decimal o.length
    ++ codes " " ++ fate_word o.fate ++ codes "\n"

-- the head of a message, and a line for each of these objects
abbrev pub packet_text : Packet → List ObjectLine → List ℕ
packet_text p lines = packet_head_text p ++ flat_map object_text lines

-- the head of a message, and a line for each of its objects
abbrev pub message_text : List Object → Packet → List ℕ
message_text os p = packet_text p (map (line_of p.body) os)

-- What is printed of the bytes of a line.
abbrev pub IsMessageText : List ℕ → List ℕ → Type 0
IsMessageText bytes text =
    ((os : List Object) × (p : Packet) × SpelledBy bytes os p × (text ≡ message_text os p))
    ⊎ (((os : List Object) (p : Packet) → ¬ SpelledBy bytes os p) × (text ≡ codes "not a message\n"))

-- a line without bytes prints nothing
abbrev pub IsBytesText : Option (List ℕ) → List ℕ → Type 0
IsBytesText None text = text ≡ codes "not hex\n"
IsBytesText (Some []) text = text ≡ []
IsBytesText (Some (b ∷ bytes)) text = IsMessageText (b ∷ bytes) text

-- what is printed of each of these lines
abbrev pub AreTexts : List (List ℕ) → List ℕ → Type 0
AreTexts [] text = text ≡ []
AreTexts (line ∷ lines) text =
    (first others : List ℕ) × IsBytesText (hex_bytes line) first × AreTexts lines others × (text ≡ first ++ others)

-- lines end at a newline or at the end
abbrev pub lines_of : List ℕ → List (List ℕ)
lines_of bytes = slice_split (λ c. c == 10) bytes

abbrev pub IsDecodeText : List ℕ → List ℕ → Type 0
IsDecodeText bytes text = AreTexts (lines_of bytes) text
