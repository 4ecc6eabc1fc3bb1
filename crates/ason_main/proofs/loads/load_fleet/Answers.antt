use Rattle.std.proofs.Common.{[], Some, inr, subst, ◌∙◌}
use Rattle.commands.specs.{declared.status.Status.Status, Replies.WasTold}
use Rattle.ason_main.specs.{Loads.{AreLoaded, StopsLoad, lines_in_parts, parts_of_load}, Outputs.silent_on}
use Rattle.ason_main.proofs.{LoadReplies.{load_starved, load_stopped, load_told}, LoadedParts.loaded_begun, PlanRuns.begun_run}
use Rattle.ason_main.proofs.loads.load_fleet.Goals as goal

pub returns-in-Ok : goal.returns-in-Ok
returns-in-Ok g c =
    load_told g.K.Sink.written g.K.Sink.faults c.args.parts.now c.args.out.now c.tell.new.out c.every_law.ensures
    c.args.fleet.now c.load_text.new.fleet c.load_text.new.text.items c.tell.result
    (record { stands = c.requires.new; postable = c.requires.can.built }) c.in-Ok.ensures.done
    (subst (λ text. WasTold g.K.Sink.written g.K.Sink.faults c.args.out.now c.tell.new.out text Status.Done
    c.tell.result) c.deref.ensures.value c.tell.ensures)

pub returns-in-Ok-write_stopped : goal.returns-in-Ok-write_stopped
returns-in-Ok-write_stopped g c =
    let l = c.args.parts.now in
    let n = c.in-Err-AtLimit.node in
    let f = c.load_text.new.fleet in
    let text = c.load_text.new.text.items in
    let cut : AreLoaded l.plan (parts_of_load l) f (Some n) text =
    subst (StopsLoad l.plan (parts_of_load l) f text) c.in-Err-AtLimit.field-0-is c.in-Err-AtLimit.ensures.stops in
    load_stopped g.K.Sink.written g.K.Sink.faults l c.args.out.now c.tell-in-Ok-write_stopped.new.out
    c.every_law.ensures n c.args.fleet.now f text c.tell-in-Ok-write_stopped.result
    (record { stands = c.requires.new; postable = c.requires.can.built }) cut
    (subst (λ ts. WasTold g.K.Sink.written g.K.Sink.faults c.args.out.now c.tell-in-Ok-write_stopped.new.out ts
    Status.EventLimit c.tell-in-Ok-write_stopped.result)
    (c.deref-in-Ok-write_stopped.ensures.value ∙ c.in-Ok-write_stopped.ensures.ok)
    c.tell-in-Ok-write_stopped.ensures)

pub returns-in-Err-AtLimit : goal.returns-in-Err-AtLimit
returns-in-Err-AtLimit g c =
    let l = c.args.parts.now in
    let n = c.in-Err-AtLimit.node in
    let f = c.load_text.new.fleet in
    let text = c.load_text.new.text.items in
    load_starved g.K.Sink.written g.K.Sink.faults l c.args.out.now (Some f)
    (inr (begun_run c.every_law.ensures l.plan (silent_on 1) (lines_in_parts (parts_of_load l)) c.args.fleet.now f []
    (record { stands = c.requires.new; postable = c.requires.can.built })
    (loaded_begun l.plan (parts_of_load l) f (Some n) text
    (subst (StopsLoad l.plan (parts_of_load l) f text) c.in-Err-AtLimit.field-0-is c.in-Err-AtLimit.ensures.stops))))

pub returns : goal.returns
returns g c =
    let l = c.args.parts.now in
    let f = c.load_text.new.fleet in
    load_starved g.K.Sink.written g.K.Sink.faults l c.args.out.now (Some f)
    (inr (begun_run c.every_law.ensures l.plan (silent_on 1) (lines_in_parts (parts_of_load l)) c.args.fleet.now f []
    (record { stands = c.requires.new; postable = c.requires.can.built })
    (subst (StopsLoad l.plan (parts_of_load l) f c.load_text.new.text.items) c.in-Err-OutOfMemory.field-0-is
    c.in-Err-OutOfMemory.ensures.stops)))
