use Rattle.std.proofs.Common.{◌≤◌, ◌+◌, ◌-◌, vec_len}
use Rattle.ason_io.specs.Reading.{WasRead}
use Rattle.ason_io.proofs.whole.read_all.Given as goal

abbrev pub invariant-reading : goal.invariant-reading
invariant-reading g l = record {
  read : WasRead g.S.Source.left g.S.Source.handed l.initial.src l.src l.out.items;
  faults : g.S.Source.faults l.initial.src ≤ g.S.Source.faults l.src;
  within : vec_len l.out ≤ l.limit + 1;
}

abbrev pub decreases-reading : goal.decreases-reading
decreases-reading g l = l.limit + 1 - vec_len l.out
