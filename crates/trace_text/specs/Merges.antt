-- The entries of a merge of logs as they come.
use Rattle.std.specs.{Prelude.{◌≡◌, List, map}, Iterator.{Drains, YieldsFirstBy}}
use Rattle.ason_base.specs.declared.commands.EntryRef.{EntryRef}
use Rattle.world_merge.specs.{declared.merging.Merging.Merging, Lines.{lent_line, lines_left}}

-- what comes of a merge, to its end, are the lines that it has left
abbrev pub EveryMergeComes : Type 0
EveryMergeComes =
    (merging : Merging) (es : List EntryRef) → Drains (YieldsFirstBy lent_line lines_left) merging es →
    map lent_line es ≡ lines_left merging
