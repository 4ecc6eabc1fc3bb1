use Rattle.std.proofs.{Common.{arith, subst, sym}, KnownBytes.Appends-trans}
use Rattle.std.specs.Io.KnownBytes.{Appends}
use Rattle.ason_base.proofs.Results.{on_err_always}
use Rattle.world_merge.specs.Lines.{lent_line}
use Rattle.trace_text.specs.{EntryLines.entry_line, Written.entry_lines}
use Rattle.trace_text.proofs.Streaming.{fits_more, lines_more, stopped}
use Rattle.trace_text.proofs.write.write_entries.Goals as goal

pub returns-in_err-write_line-clause-part : goal.returns-in_err-write_line-clause-part
returns-in_err-write_line-clause-part g c =
    on_err_always c.from_residual.result _
    (stopped g.I.Iterator.next_gives c.args.entries c.into_iter-entry-iterator.result c.loop-entry.entry-iterator
    c.next.new.self c.args.plan.now c.loop-entry.yielded c.in-Some.entry (g.K.Sink.written c.args.out.now)
    (g.K.Sink.written c.loop-entry.out) (g.K.Sink.written c.write_line.new.out)
    c.into_iter-entry-iterator.ensures.into_iter_gives c.loop-entry.yielded_by c.in-Some.ensures.steps
    c.loop-entry.invariant.0 c.in_err-write_line.ensures.part)

pub loop-entry-preserved : goal.loop-entry-preserved
loop-entry-preserved g c =
    let p = c.args.plan.now in
    let es = c.loop-entry.yielded in
    let a = g.K.Sink.written c.args.out.now in
    let b = g.K.Sink.written c.loop-entry.out in
    let d = g.K.Sink.written c.write_line.new.out in
    let line = entry_line p (lent_line c.in-Some.entry) in
    let before = c.loop-entry.invariant.1 in
    let now = c.write_line.ensures.rises in (
      subst (Appends a d) (sym (lines_more p es c.in-Some.entry))
          (Appends-trans a b d (entry_lines p es) line c.loop-entry.invariant.0 c.in_ok-write_line.ensures.all),
      omega (arith, before, now),
      fits_more es c.in-Some.entry c.loop-entry.invariant.2 c.in_ok-write_line.ensures.fits,
    )
