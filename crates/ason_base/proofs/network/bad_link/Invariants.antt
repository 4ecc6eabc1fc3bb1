use Rattle.ason_base.specs.Network.{AreLinks}
use Rattle.ason_base.proofs.network.bad_link.Given as goal

abbrev pub invariant-loop-i : goal.invariant-loop-i
invariant-loop-i l = AreLinks l.nodes l.links l.i
