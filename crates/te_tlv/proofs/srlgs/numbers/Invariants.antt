use Rattle.std.proofs.Common.{◌≡◌, ◌++◌, length}
use Rattle.wire_buf.specs.Objects.{numbers}
use Rattle.te_tlv.proofs.srlgs.numbers.Given as goal

abbrev pub invariant-numbers : goal.invariant-numbers
invariant-numbers l = numbers l.value ≡ l.numbers.items ++ numbers l.cursor

abbrev pub decreases-numbers : goal.decreases-numbers
decreases-numbers l = length l.cursor
