-- The line of an entry in a trace: `STAMP NODE WHAT`.
use Rattle.std.specs.{Prelude.{ℕ, List, [], ◌∷◌, ◌++◌, codes, Option, Some, None}, Fmt.decimal}
use Rattle.ason_base.specs.{declared.commands.Entry.Entry, declared.commands.Event.Event, declared.commands.Event.TheVariants.{Deliver, Noise, Tick, Desk, Post}, declared.ids.NodeId.NodeId}
use Rattle.wire_buf.specs.Hex.{hex_text}
use Rattle.plan_reader.specs.declared.plan.Plan.{Plan}
use Rattle.table_text.specs.TableText.{node_name}
use Rattle.trace_text.specs.CommandText.{command_text}

-- the node's name; a post is of no node
abbrev pub node_text : Plan → Option NodeId → List ℕ
node_text p None = codes "-"
node_text p (Some n) = node_name p n

-- two digits a byte, letters in upper case; `-` for no byte
abbrev pub bytes_text : List ℕ → List ℕ
bytes_text [] = codes "-"
bytes_text (b ∷ bs) = hex_text (b ∷ bs)

-- `deliver FROM NUMBER`, `noise FROM HEX`, `tick`, `desk` or `post LINE`
abbrev pub event_text : Plan → Event → List ℕ
event_text p (Deliver to from number) = codes "deliver " ++ node_name p from ++ codes " " ++ decimal number
event_text p (Noise to from bytes) = codes "noise " ++ node_name p from ++ codes " " ++ bytes_text bytes
event_text p (Tick n) = codes "tick"
event_text p (Desk n) = codes "desk"
event_text p (Post c) = codes "post " ++ command_text p c

-- `STAMP NODE `
abbrev pub entry_place : Plan → ℕ → Option NodeId → List ℕ
entry_place p stamp node = decimal stamp ++ codes " " ++ node_text p node ++ codes " "

-- `STAMP NODE WHAT`
abbrev pub entry_line : Plan → Entry → List ℕ
entry_line p e = entry_place p e.stamp e.node ++ event_text p e.event ++ codes "\n"
