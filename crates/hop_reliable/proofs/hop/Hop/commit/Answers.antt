use Rattle.std.proofs.Common.{◌≡◌, length, rules}
use Rattle.hop_reliable.proofs.Order.{all-sent}
use Rattle.hop_reliable.proofs.hop.Hop.commit.Goals as goal

pub invariant_of-self : goal.invariant_of-self
invariant_of-self c =
    let count : c.len.result ≡ length c.self.inside.prepared.items = search rules in (
      search rules,
      rw (c.in-Ok.ensures.items, count)
          (all-sent c.self.inside.sent c.self.inside.unacked.items c.self.inside.prepared.items c.self.invariant.1
          c.self.invariant.2),
      rw c.in-Ok.ensures.other_items tt,
    )
