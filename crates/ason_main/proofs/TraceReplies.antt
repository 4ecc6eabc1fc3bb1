-- What is answered where the trace of a run is asked for.
use Rattle.std.proofs.{Common.{◌≡◌, ◌≤◌, ◌∙◌, ℕ, List, [], map, take, inl, inr, refl, sym, subst}, KnownBytes.Appends-trans}
use Rattle.std.specs.{Prelude.{IfErr, OnErr, Option, Result, Some, Ok, Err, length}, Iterator.YieldsFirstBy, Io.KnownBytes.Appends}
use Rattle.ason_base.specs.{declared.ids.NodeId.NodeId, declared.calls.TableRows.TableRows, declared.commands.Disturb.Disturb, declared.commands.Entry.Entry}
use Rattle.ason_io.specs.Faults.{Rose}
use Rattle.plan_reader.specs.{declared.plan.Plan.Plan, Plans.PlanOf}
use Rattle.world_rules.specs.Images.{image}
use Rattle.round_rules.specs.Records.{Record, log_at, posts_in, world_of}
use Rattle.world_merge.specs.{Lines.{lent_line, lines_left}, declared.merging.Merging.Merging}
use Rattle.fleet.specs.{Rounds.Merges, Standing.{FleetState, StandsFor}}
use Rattle.table_text.specs.TableText.{stopped_text}
use Rattle.trace_text.specs.{Checks.IsRunTrace, Complete.{EveryRunIsChecked, EveryScriptPosts}, Merges.EveryMergeComes, TraceText.trace_text, Widths.TraceFits, Written.{WrotePart, WroteTrace}, declared.checking.Checked.Checked, declared.write.TraceWriteFault.TraceWriteFault}
use Rattle.commands.specs.{Paces.PaceView, declared.status.Status.Status, Replies.{Done, EventLimit, Trace, Unfinished, WasTold, WasToldOrNothing}}
use Rattle.script_rules.specs.{ScriptLaws.ScriptRoundLaws, Outputs.{How, Prints, script_of}, Stages.{Stage, new_stage}}
use Rattle.script_rules.proofs.{Lawful.{HasOneTable, lawful_table}, OneTable.one_table}
use Rattle.ason_main.specs.{Answers.IsAnswered, RunLaws.RunLaws, Outputs.{HasBeenCut, HasEnded, IsBegun, IsOneRun, IsTheOutput, end_stage, silent_on}, Running.{HasWritten, HasWrittenPart, IsFleetTable}, Traces.{IsTheTrace, IsTraceOfRecord, IsTraceOfRun, IsWholeTraceOf, StopsTrace, TellsTrace, TellsWholeTrace}}
use Rattle.ason_main.proofs.{OneLine.rose_later, OneMerge.one_merge, Replies.{cut_begun, other_status, output_begun, told_after}, Tracing.part_of_trace, SurveyRuns.{begun_nothing, begun_silently, cut_silently, ended_silently, lawful_end, nothing_printed, stopped_silently}}

-- The trace

-- what the stations' lines and rows give is told
module _ (p : Plan) (bs : List ℕ) (f : FleetState) (m : List Entry) (sorted : TableRows) (merges : Merges f m)
    (table : IsFleetTable f sorted) where
  abbrev trace_of_record : (lines : List Disturb) (r : Record) → StandsFor p.topology lines f r →
      IsTraceOfRecord p bs r (trace_text p bs m sorted)
  trace_of_record lines r stands = record {
    merge = m;
    merged = (merges p.topology lines r stands).merge;
    rows = sorted;
    table = table p.topology lines r stands;
    told = refl;
  }

  tells_trace : TellsTrace p bs f (trace_text p bs m sorted)
  tells_trace = record { tells = trace_of_record }

  tells_whole : TraceFits bs m → TellsWholeTrace p bs f (trace_text p bs m sorted)
  tells_whole fits =
      record { tells = λ lines r stands. record { trace = trace_of_record lines r stands; fits = fits } }

-- the whole of it was written, or why it wasn't
module _ (comes : EveryMergeComes) (p : Plan) (bs : List ℕ) (f : FleetState) (m : Merging) (sorted : TableRows)
    (merges : Merges f (lines_left m)) (table : IsFleetTable f sorted) (old new : Option (List ℕ)) where
  pub told_trace : WroteTrace (YieldsFirstBy lent_line lines_left) m p bs sorted old new →
      HasWritten old new (TellsWholeTrace p bs f)
  told_trace wrote =
      let lines : map lent_line wrote.entries ≡ lines_left m = comes m wrote.entries wrote.came in (
        trace_text p bs (lines_left m) sorted,
        tells_whole p bs f (lines_left m) sorted merges table (subst (TraceFits bs) lines wrote.fits),
        subst (λ es. Appends old new (trace_text p bs es sorted)) lines wrote.written,
      )

  part_told : (count : ℕ) → count ≡ length (lines_left m) →
      WrotePart (YieldsFirstBy lent_line lines_left) m p bs count sorted old new →
      HasWrittenPart old new (TellsTrace p bs f)
  part_told count many wrote = (
    trace_text p bs (lines_left m) sorted,
    tells_trace p bs f (lines_left m) sorted merges table,
    part_of_trace comes p bs m count sorted old new many wrote,
  )

  pub stops_trace : {T : Type 0} (count before after : ℕ) (r : Result T TraceWriteFault) →
      count ≡ length (lines_left m) →
      OnErr r (WrotePart (YieldsFirstBy lent_line lines_left) m p bs count sorted old new) →
      IfErr r (λ e. e ≡ TraceWriteFault.Failed → Rose before after) → IfErr r (StopsTrace p bs f old new before after)
  stops_trace count before after (Ok x) many part rose = tt
  stops_trace count before after (Err TraceWriteFault.Failed) many part rose =
      (rose refl, part_told count many part)
  stops_trace count before after (Err TraceWriteFault.OutOfMemory) many part rose = inr (part_told count many part)

-- a record has one trace
one_trace : (p : Plan) (bs : List ℕ) (r : Record) (a b : List ℕ) → HasOneTable (image (world_of p.topology r)) →
    IsTraceOfRecord p bs r a → IsTraceOfRecord p bs r b → a ≡ b
one_trace p bs r a b one this that = this.told ∙ ((λ i. trace_text p bs (merge i) (rows i)) ∙ sym that.told)
  where
    merge : this.merge ≡ that.merge
    merge = one_merge (log_at r) (posts_in r) this.merge that.merge this.merged that.merged

    rows : this.rows ≡ that.rows
    rows = one_table p.topology (image (world_of p.topology r)) this.rows that.rows one.legs one.calls this.table
        that.table

the_trace : (p : Plan) (workers : ℕ) (bs : List ℕ) (more : List Stage) (text : List ℕ) →
    IsTheOutput p (silent_on workers) more [] → IsTraceOfRecord p bs (end_stage more).made text →
    IsTheTrace p workers bs more text
the_trace p workers bs more text output trace = record {
  is = record { output = output.output; trace = trace };
  only = λ one others other that.
      let same = output.only one others [] that.output in
      record {
        stages = same.stages;
        text = one_trace p bs (end_stage more).made other text
            (lawful_table p.topology (end_stage more).made (lawful_end p more output.output.one_run))
            (subst (λ ss. IsTraceOfRecord p bs (end_stage ss).made other) same.stages that.trace) trace;
      };
  never_stopped = λ one n others that. output.never_stopped one n others [] that;
}

-- of the fleet that came to the script's end
trace_of : (p : Plan) (workers : ℕ) (bs : List ℕ) (f : FleetState) (old new : Option (List ℕ)) (text : List ℕ)
    (ended : HasEnded p (silent_on workers) f old new) → TellsTrace p bs f text →
    IsTheTrace p workers bs ended.more text
trace_of p workers bs f old new text ended tells =
    the_trace p workers bs ended.more text
    (subst (IsTheOutput p (silent_on workers) ended.more)
    (nothing_printed p workers (script_of p) new_stage ended.more ended.text ended.output.output.printed)
    ended.output)
    (tells.tells (end_stage ended.more).lines (end_stage ended.more).made ended.kept.stands)

-- a whole one is that of a run: what the run posted are the first commands of the plan's lines
run_trace : ScriptRoundLaws → EveryScriptPosts → EveryRunIsChecked → (p : Plan) (how : How) (bs : List ℕ)
    (more : List Stage) (printed text : List ℕ) → PlanOf bs (Ok p) → IsOneRun p more →
    Prints p how (script_of p) new_stage more printed → IsWholeTraceOf p bs (end_stage more).made text →
    IsTraceOfRun text
run_trace rounds posts checked p how bs more printed text plan run prints whole =
    let trace = whole.trace in
    let c : Checked = record {
      version = 2;
      events = length trace.merge;
      left_out = 0;
      plan = p;
      rows = trace.rows;
    } in (
      c,
      subst (λ xs. IsRunTrace xs c) (sym trace.told)
          (checked p bs (end_stage more).made trace.merge trace.rows (record {
            spelled = plan;
            possible = (lawful_end p more run).possible;
            merge = trace.merged;
            posts = posts rounds p how more printed prints;
            table = trace.table;
          }) whole.fits),
    )

is_trace : (p : Plan) (bs : List ℕ) (f : FleetState) (text : List ℕ) → TellsWholeTrace p bs f text →
    TellsTrace p bs f text
is_trace p bs f text whole = record { tells = λ lines r stands. (whole.tells lines r stands).trace }

-- the line of a stop isn't told as a run that comes to its end
pub told-isnt_done : {K : Type 0} (written : K → Option (List ℕ)) (faults : K → ℕ) (old new : K) (text : List ℕ)
    (s : Status) → WasTold written faults old new text Status.EventLimit s → s ≡ Status.Done → ⊥
told-isnt_done written faults old new text s (inl told) done = absurd (cc (told.0, done))
told-isnt_done written faults old new text s (inr part) done = absurd (cc (part.0, done))

-- Answers

module _ {K : Type 0} (written : K → Option (List ℕ)) (faults : K → ℕ) (bs : List ℕ) (p : Plan) (pace : PaceView)
    (f : FleetState) (old now new : K) (plan : PlanOf bs (Ok p)) where
  abbrev IsTold : Status → Type 0
  IsTold s = IsAnswered written faults (Trace pace) bs old new (Some f) s

  after_run : (text : List ℕ) → HasEnded p (silent_on pace.workers) f (written old) (written now) →
      Appends (written now) (written new) text → Appends (written old) (written new) text
  after_run text ended more =
      Appends-trans (written old) (written now) (written new) [] text
      (ended_silently p pace.workers f (written old) (written now) ended) more

  pub traced : ScriptRoundLaws → EveryScriptPosts → EveryRunIsChecked →
      HasEnded p (silent_on pace.workers) f (written old) (written now) →
      HasWritten (written now) (written new) (TellsWholeTrace p bs f) → IsTold Status.Done
  traced rounds posts checked ended told =
      let tells : TellsTrace p bs f told.0 = is_trace p bs f told.0 told.1 in (
        Done told.0,
        (
          p,
          plan,
          (ended.more, trace_of p pace.workers bs f (written old) (written now) told.0 ended tells, ended.kept),
        ),
        inl (refl, after_run told.0 ended told.2),
        λ done. run_trace rounds posts checked p (silent_on pace.workers) bs ended.more ended.text told.0 plan
            ended.output.output.one_run ended.output.output.printed
            (told.1.tells (end_stage ended.more).lines (end_stage ended.more).made ended.kept.stands),
      )

  pub trace_failed : HasEnded p (silent_on pace.workers) f (written old) (written now) → faults old ≤ faults now →
      StopsTrace p bs f (written now) (written new) (faults now) (faults new) TraceWriteFault.Failed →
      IsTold Status.WriteFault
  trace_failed ended rises fails =
      let part = fails.1 in (
        Done part.0,
        (
          p,
          plan,
          (ended.more, trace_of p pace.workers bs f (written old) (written now) part.0 ended part.1, ended.kept),
        ),
        inr (
          refl,
          rose_later (faults old) (faults now) (faults new) rises fails.0,
          (part.2.0, part.2.1, after_run (take part.2.0 part.0) ended part.2.2),
        ),
        λ done. absurd (cc (done)),
      )

  pub trace_starved : RunLaws → HasEnded p (silent_on pace.workers) f (written old) (written now) →
      StopsTrace p bs f (written now) (written new) (faults now) (faults new) TraceWriteFault.OutOfMemory →
      IsTold Status.OutOfMemory
  trace_starved laws ended (inl none) = (
    Unfinished [],
    inl (
      refl,
      inr (
        p,
        plan,
        begun_nothing p pace.workers (script_of p) f ended.text
            (output_begun laws p (silent_on pace.workers) f ended.more ended.text ended.output ended.kept),
      ),
    ),
    inl (refl, after_run [] ended none),
    λ done. absurd (cc (done)),
  )
  trace_starved laws ended (inr part) = (
    Unfinished (take part.2.0 part.0),
    inr (
      p,
      plan,
      (
        ended.more,
        (
          part.0,
          part.2.0,
          trace_of p pace.workers bs f (written old) (written now) part.0 ended part.1,
          part.2.1,
          refl,
        ),
        ended.kept,
      ),
    ),
    inl (refl, after_run (take part.2.0 part.0) ended part.2.2),
    λ done. absurd (cc (done)),
  )

  -- the line of the stop is all that is told
  pub trace_stopped : RunLaws → (n : NodeId) (s : Status) → faults old ≤ faults now →
      HasBeenCut p (silent_on pace.workers) n f (written old) (written now) →
      WasToldOrNothing written faults now new (stopped_text p n) Status.EventLimit s → IsTold s
  trace_stopped laws n s rises cut (inl told) =
      let stops = stopped_silently p pace.workers n f (written old) (written now) cut in (
        EventLimit (stopped_text p n),
        (p, plan, (n, stops.0, stops.1, stops.2)),
        told_after written faults old now new (stopped_text p n) Status.EventLimit s
            (cut_silently p pace.workers n f (written old) (written now) cut) rises told,
        λ done. absurd (told-isnt_done written faults now new (stopped_text p n) s told done),
      )
  trace_stopped laws n s rises cut (inr nothing) = (
    Unfinished [],
    inl (
      refl,
      inr (
        p,
        plan,
        begun_nothing p pace.workers (script_of p) f cut.text
            (cut_begun laws p (silent_on pace.workers) n f cut.more cut.text cut.output cut.kept),
      ),
    ),
    inl (
      nothing.0,
      Appends-trans (written old) (written now) (written new) [] []
          (cut_silently p pace.workers n f (written old) (written now) cut) nothing.1,
    ),
    other_status (Trace pace) (Unfinished []) s Status.OutOfMemory nothing.0 nothing.0 (λ e. absurd (cc (e))),
  )

  pub trace_unfinished :
      HasWritten (written old) (written new) (IsBegun p (silent_on pace.workers) (script_of p) f) →
      IsTold Status.OutOfMemory
  trace_unfinished part =
      let begun = begun_silently p pace.workers (script_of p) f (written old) (written new) part in (
        Unfinished [],
        inl (refl, inr (p, plan, begun.0)),
        inl (refl, begun.1),
        λ done. absurd (cc (done)),
      )
