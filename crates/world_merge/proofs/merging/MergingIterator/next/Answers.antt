use Rattle.std.proofs.Common.{◌≡◌, Some, subst}
use Rattle.world_merge.specs.{Heads.picked_at, Lines.lists_of, Picking.picked}
use Rattle.world_merge.proofs.NextLines.{goes-on, shorter}
use Rattle.world_merge.proofs.merging.MergingIterator.next.Goals as goal

pub returns-clause-steps : goal.returns-clause-steps
returns-clause-steps c =
    goes-on c.args.self.now.lists.items c.in_ok-head.head c.lent.result
    (subst (λ ls. picked (lists_of ls) ≡ picked_at (lists_of ls) (Some c.in_ok-head.head)) c.deref.ensures.value
    c.in_ok-head.ensures.least)
    c.lent.ensures

pub returns-clause-goes : goal.returns-clause-goes
returns-clause-goes c = record {
  on = λ _. (tt, tt, shorter (returns-clause-steps c));
  keeps = tt;
  rests = λ _. tt;
}
