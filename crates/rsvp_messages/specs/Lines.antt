-- What becomes of each object of a message.
use Rattle.std.specs.Prelude.{◌≡◌, ℕ, List, [], ◌∷◌, ◌++◌, map, Option, None, Some, if◌then◌else◌}
use Rattle.ason_base.specs.{declared.messages.Msg.Msg, declared.messages.Msg.TheVariants.{Path, Resv, PathTear, PathErr, Notify}, declared.messages.Packet.Packet, declared.messages.PathRole.PathRole, declared.messages.PathRole.TheVariants.{Work, Back}}
use Rattle.rsvp_messages.specs.{declared.lines.Fate.Fate, declared.lines.Fate.TheVariants.{Read, Carried, Ignored}, declared.lines.ObjectLine.ObjectLine, Objects.{Object, is_among, known_classes, size_of}, Packets.SpelledBy}

-- a backup reads PRIMARY_PATH_ROUTE and ASSOCIATION too
abbrev pub classes_of_role : PathRole → List ℕ
classes_of_role (Work guard) = []
classes_of_role (Back active work primary) = 38 ∷ 199 ∷ []

-- the classes that a message reads; without a message it is an Ack
abbrev pub classes_read : Option Msg → List ℕ
classes_read None = 24 ∷ []
classes_read (Some (Path lsp egress link route set upstream role)) =
    (1 ∷ 3 ∷ 11 ∷ 19 ∷ 20 ∷ 23 ∷ 24 ∷ 35 ∷ 36 ∷ 37 ∷ []) ++ classes_of_role role
classes_read (Some (Resv lsp egress link label)) = 1 ∷ 3 ∷ 10 ∷ 16 ∷ 23 ∷ 24 ∷ []
classes_read (Some (PathTear lsp egress link)) = 1 ∷ 3 ∷ 11 ∷ 23 ∷ 24 ∷ []
classes_read (Some (PathErr lsp egress at removed code)) = 1 ∷ 6 ∷ 11 ∷ 23 ∷ 24 ∷ []
classes_read (Some (Notify lsp egress at link code)) = 1 ∷ 6 ∷ 11 ∷ 23 ∷ 24 ∷ []

-- A known class that the message doesn't read is carried. Any other that may stand in a message is ignored.
abbrev pub fate_of : Option Msg → ℕ → Fate
fate_of body class =
    if is_among (classes_read body) class then Read else if is_among known_classes class then Carried else Ignored

abbrev pub line_of : Option Msg → Object → ObjectLine
line_of body o = record { class = o.class; ctype = o.ctype; length = size_of o; fate = fate_of body o.class }

-- the lines of the message's objects, in order
abbrev pub HasLines : List ℕ → List ObjectLine → Type 0
HasLines bytes lines = (p : Packet) × (os : List Object) × SpelledBy bytes os p × (lines ≡ map (line_of p.body) os)
