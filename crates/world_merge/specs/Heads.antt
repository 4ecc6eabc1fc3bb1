-- The head of one list, and what is left of the lists without it.
use Rattle.std.specs.Prelude.{List, Option, Some, None, if◌then◌else◌, option_map, slice_set}
use Rattle.ason_base.specs.declared.commands.Entry.{Entry}
use Rattle.world_merge.specs.{declared.heads.Head.Head, Picking.{Picked, is_before}}

-- of a head and the least one of the lists behind its own, the one that comes first
abbrev pub least_of : Head → Option Head → Head
least_of h None = h
least_of h (Some k) = if is_before h.entry.now k.entry.now then h else k

abbrev pub without_head : List (List Entry) → Head → Picked
without_head ls h = record { entry = h.entry.now; left = slice_set ls h.place h.left.now }

abbrev pub picked_at : List (List Entry) → Option Head → Option Picked
picked_at ls h = option_map (without_head ls) h
