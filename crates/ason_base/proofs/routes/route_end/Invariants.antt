use Rattle.std.proofs.Common.{◌≡◌, take}
use Rattle.std.specs.Prelude.{fold, Some}
use Rattle.ason_base.specs.Routes.{one_step}
use Rattle.ason_base.proofs.routes.route_end.Given as goal

abbrev pub invariant-loop-hop : goal.invariant-loop-hop
invariant-loop-hop l = l.end ≡ fold (one_step l.t) (Some l.fn.from) (take l.hop-index l.route)
