use Rattle.std.proofs.Common.{length}
use Rattle.call_control.proofs.reports.+fibre_into.Given as goal

abbrev pub decreases-fibre_into : goal.decreases-fibre_into
decreases-fibre_into l = length l.route.now
