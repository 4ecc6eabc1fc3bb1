use Rattle.std.proofs.Common.{◌≡◌, ◌++◌, take}
use Rattle.std.specs.Prelude.{flat_map}
use Rattle.mesh_rules.specs.Failures.{changed_news}
use Rattle.world_core.proofs.seat.WorldSeat.tell.Given as goal

abbrev pub invariant-loop-link : goal.invariant-loop-link
invariant-loop-link l = l.self ≡ record l.initial.self {
  desk = l.initial.self.desk ++ flat_map (changed_news l.before l.after l.initial.self.node.0)
      (take l.link-index l.link-items);
}
