use Rattle.std.proofs.Common.{◌≡◌, length}
use Rattle.std.specs.Io.KnownBytes.{Keeps}
use Rattle.ason_io.proofs.adapters.read_again.Given as goal

abbrev pub invariant-loop : goal.invariant-loop
invariant-loop g l =
    (length l.buf ≡ length l.initial.buf)
    × Keeps (g.I.Read.remaining l.initial.reader) (g.I.Read.remaining l.reader)
