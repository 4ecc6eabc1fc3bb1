use Rattle.std.proofs.Common.{◌≡◌}
use Rattle.std.specs.Vec.Iter.{into_iter_items, into_iter_len}
use Rattle.mesh_rules.specs.Calls.{calls_changed}
use Rattle.leg_table.specs.CallLists.{AreCalls, HasRoomForCalls}
use Rattle.leg_table.proofs.call_list.CallList.change.Given as goal

abbrev pub invariant-loop-change : goal.invariant-loop-change
invariant-loop-change l = record {
  calls : calls_changed (into_iter_items l.change-iterator) l.self.calls.items
      ≡ calls_changed l.fn.changes.items l.initial.self.calls.items;
  fit : AreCalls l.self;
  room : HasRoomForCalls (into_iter_len l.change-iterator) l.self;
}
