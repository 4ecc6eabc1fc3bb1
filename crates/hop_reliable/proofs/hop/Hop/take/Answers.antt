use Rattle.std.proofs.Common.{rules}
use Rattle.hop_reliable.proofs.Order.{left-in_order}
use Rattle.hop_reliable.proofs.hop.Hop.take.Goals as goal

pub invariant_of-self : goal.invariant_of-self
invariant_of-self c = (
  search rules,
  rw c.take_off.ensures.left (left-in_order c.self.inside.sent c.args.acks.now c.self.inside.unacked.items
      c.self.invariant.1),
  c.self.invariant.2,
)

pub invariant_of-self-else-heard-eq4 : goal.invariant_of-self-else-heard-eq4
invariant_of-self-else-heard-eq4 c = (
  search rules,
  rw c.take_off.ensures.left (left-in_order c.self.inside.sent c.args.acks.now c.self.inside.unacked.items
      c.self.invariant.1),
  c.self.invariant.2,
)
