use Rattle.std.proofs.{Common.{length, ap, ◌∙◌}, lemmas.List.length-map}
use Rattle.flood.specs.State.{older_due}
use Rattle.flood.proofs.DueOrder.{aged_in_order}
use Rattle.flood.proofs.neighbours.FloodNeighbour.age.Goals as goal

pub invariant_of-self : goal.invariant_of-self
invariant_of-self c =
    aged_in_order c.self.inside.sent c.self.inside.due.items c.make_contiguous.result.now c.age_all.new.due _
    c.self.invariant
    c.make_contiguous.ensures.value c.age_all.ensures
    (c.make_contiguous.ensures.writes_back c.age_all.new.due
    (ap length c.age_all.ensures ∙ length-map c.make_contiguous.result.now older_due ∙ c.make_contiguous.ensures.len))
