use Rattle.std.proofs.Common.{◌≡◌, length}
use Rattle.trace_text.specs.EntryForms.{next_post}
use Rattle.trace_text.proofs.entries.next_post.Given as goal

abbrev pub invariant-lines : goal.invariant-lines
invariant-lines l = next_post l.left ≡ next_post l.lines

abbrev pub decreases-lines : goal.decreases-lines
decreases-lines l = length l.left
