use Rattle.std.proofs.Common.{rules, length}
use Rattle.station.proofs.Telling.{told-after}
use Rattle.station.proofs.station.Station.publish.Goals as goal

pub invariant_of-self-inside-in-Some : goal.invariant_of-self-inside-in-Some
invariant_of-self-inside-in-Some g c = (
  told-after c.publish.result c.in-Some.publisher c.publish.new.self c.in_ok-table.table
      (length c.self.inside.parts.log.items) (search rules) (search rules) c.publish.ensures.ok c.publish.ensures.err,
  tt,
)
