use Rattle.std.proofs.Common.{take}
use Rattle.route_pair.proofs.BanLists.{AreInner}
use Rattle.route_pair.proofs.bans.inner_nodes.Given as goal

abbrev pub invariant-loop-step : goal.invariant-loop-step
invariant-loop-step l = AreInner l.from l.to (take l.step-index l.step-items) l.nodes
