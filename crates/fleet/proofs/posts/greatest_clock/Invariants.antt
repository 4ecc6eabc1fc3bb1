use Rattle.std.proofs.Common.{◌≡◌, take}
use Rattle.fleet.specs.Posting.{greatest_of}
use Rattle.fleet.proofs.posts.greatest_clock.Given as goal

abbrev pub invariant-loop-station : goal.invariant-loop-station
invariant-loop-station l = l.greatest ≡ greatest_of (take l.station-index l.stations)
