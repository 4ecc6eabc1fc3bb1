use Rattle.std.proofs.{Common.arith, lemmas.Grind.common_steps}
use Rattle.ason_io.proofs.Bytes.{appends_next}
use Rattle.ason_io.proofs.whole.write_all.Goals as goal

pub writing-preserved : goal.writing-preserved
writing-preserved g c = record {
  within = grind (arith, common_steps, c.in_ok-done.ensures.fits);
  written =
      appends_next _ _ _ c.writing.done c.in_ok-done.field-0 c.args.bytes.now c.writing.invariant.written
      c.in_ok-done.ensures.bytes;
  faults = omega (arith, c.in_ok-done.ensures.rises);
}
