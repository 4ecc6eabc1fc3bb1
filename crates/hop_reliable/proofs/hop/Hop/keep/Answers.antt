use Rattle.std.proofs.Common.{◌≡◌, ◌++◌, ◌∷◌, [], rules}
use Rattle.hop_reliable.specs.declared.unacked.Unacked.{Unacked}
use Rattle.hop_reliable.proofs.Order.{next-more}
use Rattle.hop_reliable.proofs.hop.Hop.keep.Goals as goal

pub invariant_of-self-2 : goal.invariant_of-self-2
invariant_of-self-2 c =
    let new : Unacked = record { number = c.next_number-number.result; age = 0; msg = c.args.msg } in
    let kept : c.push_back.new.self.items ≡ c.self.inside.prepared.items ++ new ∷ [] = search rules in (
      search rules,
      rw c.reserve.ensures.items c.self.invariant.1,
      rw kept (next-more c.self.inside.sent c.self.inside.prepared.items new (search rules) c.self.invariant.2),
    )
