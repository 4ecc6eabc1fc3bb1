use Rattle.std.proofs.Common.{take}
use Rattle.route_least.proofs.Marked.{IsMarkingBefore}
use Rattle.route_least.proofs.leading.mark_before.Given as goal

abbrev pub invariant-loop-arc : goal.invariant-loop-arc
invariant-loop-arc l = IsMarkingBefore l.places l.closed l.costs l.initial.marks l.initial.waiting.items l.place
    l.cost (take l.arc-index l.arc-items) l.marks l.waiting.items
