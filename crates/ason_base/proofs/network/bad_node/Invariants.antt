use Rattle.ason_base.specs.Network.{AreNodes}
use Rattle.ason_base.proofs.network.bad_node.Given as goal

abbrev pub invariant-loop-i : goal.invariant-loop-i
invariant-loop-i l = AreNodes l.nodes l.i
