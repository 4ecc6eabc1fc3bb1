use Rattle.std.proofs.Common.{sym, subst}
use Rattle.std.specs.List.{AllByRecursion}
use Rattle.ason_base.proofs.Members.{all-right}
use Rattle.control_channels.specs.ReadyControllers.{CanGo}
use Rattle.control_channels.proofs.floods.frame_rows_to.Goals as goal

pub frame_rows-requires-2 : goal.frame_rows-requires-2
frame_rows-requires-2 c =
    all-right CanGo c.due.result.0.now c.due.result.1.now
    (subst (AllByRecursion CanGo) (sym c.due.ensures) c.requires)
