-- What is answered where a node is watched.
use Rattle.std.proofs.{Common.{◌≡◌, ◌≤◌, ℕ, List, [], ◌++◌, take, inl, inr, refl, sym, subst, append-nil}, KnownBytes.{Appends-nil, Appends-trans}}
use Rattle.std.specs.{Prelude.{Option, Some, None, Ok, IsSome}, Io.KnownBytes.Appends}
use Rattle.ason_base.specs.declared.ids.NodeId.{NodeId}
use Rattle.ason_io.specs.Faults.{Rose}
use Rattle.commands.specs.{Paces.PaceView, declared.status.Status.Status, Replies.{Done, EventLimit, Unfinished, WasTold, WasToldOrNothing, Watch, WriteFault}}
use Rattle.fleet.specs.Standing.{FleetState}
use Rattle.plan_reader.specs.{declared.plan.Plan.Plan, Plans.PlanOf}
use Rattle.script_rules.specs.Outputs.{How, script_of}
use Rattle.table_text.specs.{EndsText.{no_node_text, plan_node}, TableText.stopped_text}
use Rattle.ason_main.specs.{Answers.{IsBrokenWatch, IsWatchReply, IsAnswered, IsWatchOf, printing}, RunLaws.RunLaws, Outputs.{HasBeenCut, HasEnded, IsBegun, IsBrokenOff}, Running.HasWritten, Views.IsViewOf}
use Rattle.ason_main.proofs.{OneLine.rose_later, PlanRuns.{IsFleetNew, begun_none}, Replies.{cut_begun, output_begun, stop_broken}, TraceReplies.told-isnt_done}

-- of a plan that has no such node that is told alone
pub unknown_told : {K : Type 0} (written : K → Option (List ℕ)) (faults : K → ℕ) (bs name : List ℕ) (p : Plan)
    (pace : PaceView) (kept : Option FleetState) (old new : K) (s : Status) → PlanOf bs (Ok p) →
    plan_node p name ≡ None → kept ≡ None →
    WasToldOrNothing written faults old new (no_node_text name) Status.Done s →
    IsAnswered written faults (Watch pace name) bs old new kept s
unknown_told written faults bs name p pace kept old new s plan none keeps (inl (inl told)) = (
  Done (no_node_text name),
  (p, plan, subst (λ o. IsWatchOf p pace.workers name o (no_node_text name) kept) (sym none) (refl, keeps)),
  inl told,
  told.0,
)
unknown_told written faults bs name p pace kept old new s plan none keeps (inl (inr part)) =
    let text = take part.2.0 (no_node_text name) in (
      WriteFault text,
      (
        p,
        plan,
        subst (λ o. IsBrokenWatch p pace.workers name o text kept) (sym none)
            ((part.2.0, part.2.1, refl), keeps),
      ),
      (part.0, part.1, part.2.2),
      tt,
    )
unknown_told written faults bs name p pace kept old new s plan none keeps (inr nothing) =
    (Unfinished [], inl (refl, keeps), inl nothing, nothing.0)

-- the line of a stop isn't told with the status Done
pub stop-isnt_done : {K : Type 0} (written : K → Option (List ℕ)) (faults : K → ℕ) (old new : K) (text : List ℕ)
    (s : Status) → WasToldOrNothing written faults old new text Status.EventLimit s → s ≡ Status.Done → ⊥
stop-isnt_done written faults old new text s (inl told) done = told-isnt_done written faults old new text s told done
stop-isnt_done written faults old new text s (inr nothing) done = absurd (cc (nothing.0, done))

-- Runs

module _ {K : Type 0} (written : K → Option (List ℕ)) (faults : K → ℕ) (bs name : List ℕ) (p : Plan) (pace : PaceView)
    (node : NodeId) (f : FleetState) (old : K) (plan : PlanOf bs (Ok p)) (named : plan_node p name ≡ Some node) where
  abbrev how : How
  how = printing pace.workers

  abbrev Answered : K → Status → Type 0
  Answered new s = IsAnswered written faults (Watch pace name) bs old new (Some f) s

  -- the plan has a node of the name
  has_node : IsSome (plan_node p name)
  has_node = subst IsSome (sym named) refl

  broken_watch : (text : List ℕ) → IsBrokenWatch p pace.workers name (Some node) text (Some f) →
      IsWatchReply pace.workers name bs (WriteFault text) (Some f)
  broken_watch text is =
      (p, plan, subst (λ o. IsBrokenWatch p pace.workers name o text (Some f)) (sym named) is)

  module _ (now new : K) (rises : faults old ≤ faults now) (is : HasEnded p how f (written old) (written now)) where
    watched_of : (view : List ℕ) → IsViewOf p node f view →
        IsWatchOf p pace.workers name (plan_node p name) (is.text ++ view) (Some f)
    watched_of view of =
        subst (λ o. IsWatchOf p pace.workers name o (is.text ++ view) (Some f)) (sym named) (
          is.more,
          record { told = is.text; output = is.output; view = view; is_view = of; all = refl },
          is.kept,
        )

    -- the view comes last
    pub view_told : (view : List ℕ) (s : Status) → IsViewOf p node f view →
        WasTold written faults now new view Status.Done s → Answered new s
    view_told view s of (inl told) = (
      Done (is.text ++ view),
      (p, plan, watched_of view of),
      inl (told.0, Appends-trans (written old) (written now) (written new) is.text view is.written told.1),
      told.0,
    )
    view_told view s of (inr part) =
        let text = is.text ++ take part.2.0 view in (
          WriteFault text,
          broken_watch text (inr (record {
            more = is.more;
            told = is.text;
            output = is.output;
            view = view;
            is_view = of;
            part = (part.2.0, part.2.1, refl);
            keeps = is.kept;
          })),
          (
            part.0,
            rose_later (faults old) (faults now) (faults new) rises part.1,
            Appends-trans (written old) (written now) (written new) is.text (take part.2.0 view) is.written part.2.2,
          ),
          tt,
        )

  -- memory was wanting for the view
  pub view_starved : (now : K) → RunLaws → HasEnded p how f (written old) (written now) →
      Answered now Status.OutOfMemory
  view_starved now laws is = (
    Unfinished is.text,
    inr (p, plan, (has_node, output_begun laws p how f is.more is.text is.output is.kept)),
    inl (refl, is.written),
    refl,
  )

  -- the sink failed in the run
  pub watch_failed : (now : K) → Rose (faults old) (faults now) →
      HasWritten (written old) (written now) (IsBrokenOff p how f) → Answered now Status.WriteFault
  watch_failed now rose is = (WriteFault is.0, broken_watch is.0 (inl (inl is.1)), (refl, rose, is.2), tt)

  -- memory was wanting in it
  pub watch_starved : (now : K) → HasWritten (written old) (written now) (IsBegun p how (script_of p) f) →
      Answered now Status.OutOfMemory
  watch_starved now is = (Unfinished is.0, inr (p, plan, (has_node, is.1)), inl (refl, is.2), refl)

  -- or before it
  pub watch_refused : RunLaws → IsFleetNew p f → Answered old Status.OutOfMemory
  watch_refused laws new = watch_starved old ([], begun_none laws p how f new, Appends-nil (written old))

  -- the run was stopped: the line of the stop comes last
  module _ (stop : NodeId) (now new : K) (s : Status) (laws : RunLaws) (rises : faults old ≤ faults now)
      (is : HasBeenCut p how stop f (written old) (written now)) where
    stopped_reply : IsWatchReply pace.workers name bs (EventLimit (is.text ++ stopped_text p stop)) (Some f)
    stopped_reply = (
      p,
      plan,
      (
        has_node,
        (stop, is.more, record { told = is.text; cut = is.output; all = refl }, is.kept),
      ),
    )

    pub watch_stopped : WasToldOrNothing written faults now new (stopped_text p stop) Status.EventLimit s →
        Answered new s
    watch_stopped (inl (inl told)) = (
      EventLimit (is.text ++ stopped_text p stop),
      stopped_reply,
      inl (
        told.0,
        Appends-trans (written old) (written now) (written new) is.text (stopped_text p stop) is.written told.1,
      ),
      told.0,
    )
    watch_stopped (inl (inr part)) =
        let text = is.text ++ take part.2.0 (stopped_text p stop) in (
          WriteFault text,
          broken_watch text
              (inl (inr (stop_broken p how stop f (written old) (written now) is part.2.0 part.2.1))),
          (
            part.0,
            rose_later (faults old) (faults now) (faults new) rises part.1,
            Appends-trans (written old) (written now) (written new) is.text (take part.2.0 (stopped_text p stop))
                is.written part.2.2,
          ),
          tt,
        )
    watch_stopped (inr none) = (
      Unfinished is.text,
      inr (p, plan, (has_node, cut_begun laws p how stop f is.more is.text is.output is.kept)),
      inl (
        none.0,
        subst (Appends (written old) (written new)) (append-nil is.text)
            (Appends-trans (written old) (written now) (written new) is.text [] is.written none.1),
      ),
      none.0,
    )
