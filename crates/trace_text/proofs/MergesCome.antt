-- What comes of a merge are the lines that it has left.
use Rattle.std.proofs.{Common.refl, lemmas.Iterator.items_from_drains, lemmas.Iterator.Consumers.YieldsList-from_first}
use Rattle.world_merge.specs.Lines.{lent_line, lines_left}
use Rattle.trace_text.specs.Merges.{EveryMergeComes}

pub merge_comes : EveryMergeComes
merge_comes merging es (end, (last, items, none)) =
    items_from_drains es (last, items, λ _. (end, none))
    (YieldsList-from_first lent_line lines_left (lines_left merging) refl)
