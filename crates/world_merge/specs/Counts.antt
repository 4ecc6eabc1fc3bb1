-- How many lines a merge has.
use Rattle.std.specs.Prelude.{◌≡◌, List, length}
use Rattle.ason_base.specs.declared.commands.Entry.{Entry}
use Rattle.world_merge.specs.Picking.{merged_of, lines_total}

-- the merge of lists, sorted or not, has as many lines as they
abbrev pub EveryLineIsMerged : Type 0
EveryLineIsMerged = (ls : List (List Entry)) → length (merged_of ls) ≡ lines_total ls
