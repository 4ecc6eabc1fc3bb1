use Rattle.std.proofs.Common.{inl, inr}
use Rattle.ason_base.proofs.Results.{on_err, on_ok, on_err_always}
use Rattle.trace_text.specs.TraceText.{trace_head_text}
use Rattle.trace_text.proofs.Streaming.{stopped_at_end, stopped_behind, wrote_trace}
use Rattle.trace_text.proofs.write.write_trace.Goals as goal

pub returns-in_err-write_entries-clause-part : goal.returns-in_err-write_entries-clause-part
returns-in_err-write_entries-clause-part g c =
    on_err_always c.from_residual-in_err-write_entries.result _
    (inr (inl (stopped_behind g.I.Iterator.next_gives c.args.entries c.args.plan.now
    (trace_head_text c.args.plan_bytes.now c.args.count) (g.K.Sink.written c.args.out.now)
    (g.K.Sink.written c.write_head.new.out) (g.K.Sink.written c.write_entries.new.out)
    c.in_ok-write_head.ensures.all c.in_err-write_entries.ensures.part)))

pub returns-clause-all : goal.returns-clause-all
returns-clause-all g c =
    on_ok c.write_end.result _ _
    (λ end. wrote_trace g.I.Iterator.next_gives c.args.entries c.args.plan.now c.args.plan_bytes.now c.args.count
    c.args.rows.now (g.K.Sink.written c.args.out.now) (g.K.Sink.written c.write_head.new.out)
    (g.K.Sink.written c.write_entries.new.out) (g.K.Sink.written c.write_end.new.out) c.requires.counted
    c.in_ok-write_head.ensures.all c.in_ok-write_entries.ensures.all end c.in_ok-write_head.ensures.fits
    c.ranges.count.fits)
    c.write_end.ensures.all

pub returns-clause-part : goal.returns-clause-part
returns-clause-part g c =
    on_err c.write_end.result _ _
    (λ part. inr (inr (stopped_at_end g.I.Iterator.next_gives c.args.entries c.args.plan.now
    (trace_head_text c.args.plan_bytes.now c.args.count) c.args.rows.now (g.K.Sink.written c.args.out.now)
    (g.K.Sink.written c.write_head.new.out) (g.K.Sink.written c.write_entries.new.out)
    (g.K.Sink.written c.write_end.new.out) c.in_ok-write_head.ensures.all c.in_ok-write_entries.ensures.all part)))
    c.write_end.ensures.part
