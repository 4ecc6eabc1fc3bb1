use Rattle.std.proofs.Common.{◌≡◌, take}
use Rattle.std.specs.Prelude.{filter}
use Rattle.survey.specs.Views.{is_live_leg}
use Rattle.survey.proofs.views.live_legs.Given as goal

abbrev pub invariant-loop-row : goal.invariant-loop-row
invariant-loop-row l = l.rows.items ≡ filter is_live_leg (take l.row-index l.legs)
