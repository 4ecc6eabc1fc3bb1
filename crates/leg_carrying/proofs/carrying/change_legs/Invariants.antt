use Rattle.std.proofs.Common.{◌≡◌, ◌≤◌}
use Rattle.std.specs.Vec.Iter.{into_iter_items, into_iter_len}
use Rattle.link_owner.specs.Marks.{has_fibre_marks}
use Rattle.mesh_rules.specs.Legs.{legs_changed}
use Rattle.leg_table.specs.LegClaims.{MarksFit, MayAllMark, SameFibres}
use Rattle.leg_carrying.specs.LegHolds.{AreLeft}
use Rattle.leg_carrying.proofs.carrying.change_legs.Given as goal

abbrev pub invariant-loop-change : goal.invariant-loop-change
invariant-loop-change l = record {
  legs : legs_changed (into_iter_items l.change-iterator) l.legs.legs ≡
      legs_changed l.fn.changes.items l.initial.legs.legs;
  room : into_iter_len l.change-iterator ≤ l.legs.room;
  left : AreLeft l.initial.legs.legs l.legs.legs (into_iter_items l.change-iterator) l.owner l.shares;
  fit : MarksFit l.legs.legs l.owner;
  marks : MayAllMark (has_fibre_marks l.initial.owner.marks) l.legs.legs (into_iter_items l.change-iterator);
  fibres : SameFibres l.initial.owner l.owner;
}
