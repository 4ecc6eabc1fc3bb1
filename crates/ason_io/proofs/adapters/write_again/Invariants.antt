use Rattle.std.specs.Io.KnownBytes.{Keeps}
use Rattle.ason_io.proofs.adapters.write_again.Given as goal

abbrev pub invariant-loop : goal.invariant-loop
invariant-loop g l = Keeps (g.O.Write.contents l.initial.writer) (g.O.Write.contents l.writer)
