use Rattle.std.proofs.Common.{rules}
use Rattle.hop_reliable.proofs.Order.{aged-in_order}
use Rattle.hop_reliable.proofs.hop.Hop.age.Goals as goal

pub invariant_of-self : goal.invariant_of-self
invariant_of-self c = (
  search rules,
  aged-in_order c.self.inside.sent c.self.inside.unacked.items c.age_all.new.unacked.items c.age_all.ensures.aged
      c.self.invariant.1,
  c.self.invariant.2,
)
