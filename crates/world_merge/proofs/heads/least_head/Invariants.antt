use Rattle.world_merge.proofs.Choosing.{IsLeastFrom}
use Rattle.world_merge.proofs.heads.least_head.Given as goal

abbrev pub invariant-loop-place : goal.invariant-loop-place
invariant-loop-place l = IsLeastFrom l.place l.lists l.least
