use Rattle.std.proofs.Common.{ℕ, ◌<◌, get_or}
use Rattle.std.specs.List.{Contains}
use Rattle.route_pair.proofs.bans.has_one.Given as goal

abbrev pub invariant-loop-srlg : goal.invariant-loop-srlg
invariant-loop-srlg l = (k : ℕ) → k < l.srlg-index → ¬ Contains l.srlgs (get_or l.srlg-items k 0)
