-- The lines that a merge of logs has left.
use Rattle.std.specs.{Prelude.{List, map}, Borrow.Bor}
use Rattle.ason_base.specs.{declared.commands.Entry.Entry, declared.commands.EntryRef.EntryRef}
use Rattle.world_merge.specs.{declared.merging.Merging.Merging, Picking.merged_of}

-- the line whose event is lent
abbrev pub lent_line : EntryRef → Entry
lent_line e = record { stamp = e.stamp; node = e.node; event = e.event.now }

abbrev pub lists_of : List (Bor (List Entry)) → List (List Entry)
lists_of ls = map (λ l. l.now) ls

abbrev pub lists_left : Merging → List (List Entry)
lists_left m = lists_of m.lists.items

-- in order
abbrev pub lines_left : Merging → List Entry
lines_left m = merged_of (lists_left m)
