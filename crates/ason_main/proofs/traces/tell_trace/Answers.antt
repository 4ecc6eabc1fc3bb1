use Rattle.std.proofs.Common.{refl, sym, ◌∙◌}
use Rattle.ason_base.proofs.Results.{on_ok}
use Rattle.ason_main.proofs.{TraceReplies.{stops_trace, told_trace}, Tracing.count_comes}
use Rattle.ason_main.proofs.traces.tell_trace.Goals as goal

pub write_trace-requires : goal.write_trace-requires
write_trace-requires g c κs = (
  (refl, tt),
  (
    tt,
    (
      tt,
      λ es came. count_comes c.every_merge.ensures c.in_ok-entries.entries es came
          ∙ (c.in_ok-entries.ensures.count ∙ sym c.entry_count-count.ensures.count),
    ),
  ),
)

pub returns-clause-all : goal.returns-clause-all
returns-clause-all g c =
    on_ok c.write_trace.result _ _
    (told_trace c.every_merge.ensures c.args.plan.now c.args.bytes.now c.args.fleet.now c.in_ok-entries.entries
    c.in_ok-rows.rows c.in_ok-entries.ensures.merges c.in_ok-rows.ensures
    (g.K.Sink.written c.args.out.now) (g.K.Sink.written c.write_trace.new.out))
    c.write_trace.ensures.all

pub returns-clause-stops : goal.returns-clause-stops
returns-clause-stops g c =
    stops_trace c.every_merge.ensures c.args.plan.now c.args.bytes.now c.args.fleet.now c.in_ok-entries.entries
    c.in_ok-rows.rows c.in_ok-entries.ensures.merges c.in_ok-rows.ensures
    (g.K.Sink.written c.args.out.now) (g.K.Sink.written c.write_trace.new.out) c.entry_count-count.result
    (g.K.Sink.faults c.args.out.now) (g.K.Sink.faults c.write_trace.new.out) c.write_trace.result
    (c.entry_count-count.ensures.count ∙ sym c.in_ok-entries.ensures.count) c.write_trace.ensures.part
    c.write_trace.ensures.failed
