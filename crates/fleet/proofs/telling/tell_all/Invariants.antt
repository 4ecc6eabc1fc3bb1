use Rattle.std.proofs.Common.{◌≤◌, length}
use Rattle.fleet.specs.Posting.{AreTold, news_for}
use Rattle.fleet.proofs.telling.tell_all.Given as goal

abbrev pub invariant-loop-place : goal.invariant-loop-place
invariant-loop-place l = record {
  within : l.place ≤ length l.fn.stations;
  told : AreTold (news_for l.t l.before l.after) l.place l.seats l.fn.stations l.stations;
}
