use Rattle.std.proofs.Common.{arith}
use Rattle.station_rings.proofs.links.Link.known.Goals as goal

pub overflow_add-result : goal.overflow_add-result
overflow_add-result c =
    omega (
      arith,
      c.len.ensures,
      c.self.invariant.early_few,
      c.cached_slots.ensures,
      c.self.inside.into.counts,
      c.self.inside.into.reads,
    )
