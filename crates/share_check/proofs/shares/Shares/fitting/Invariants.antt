use Rattle.std.proofs.Common.{◌≡◌, take}
use Rattle.share_check.specs.Guards.{fitting, guards_of}
use Rattle.share_check.proofs.shares.Shares.fitting.Given as goal

abbrev pub invariant-loop-guards : goal.invariant-loop-guards
invariant-loop-guards l = l.labels ≡ fitting (guards_of (take l.guards-index l.guards-items)) l.f l.r
