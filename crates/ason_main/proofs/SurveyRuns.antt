-- The survey of a plan's last table, and what it says of all that may follow.
use Rattle.std.proofs.{Common.{◌≡◌, ◌<◌, ◌∙◌, ℕ, zero, suc, Bool, true, false, List, [], ◌∷◌, ◌++◌, length, take, refl, sym, ap, subst, append-nil, append_assoc, arith}, lemmas.List.Concat.flat_map-append, lemmas.List.Sorted.Contains-permutation}
use Rattle.std.specs.{Prelude.{◌↔◌, ◌&&◌, IsTrue, Option, Some, flat_map, slice_get}, Io.KnownBytes.Appends, List.{AllByRecursion, list_all}}
use Rattle.ason_base.specs.{declared.calls.LegRow.LegRow, declared.calls.TableRows.TableRows, declared.commands.Disturb.Disturb, declared.ids.NodeId.NodeId, Network.{IsTopology, Network}}
use Rattle.ason_base.proofs.Bools.{same-truth}
use Rattle.mesh_rules.specs.Events as mesh_runs
use Rattle.mesh_rules.specs.Machine as mesh
use Rattle.mesh_rules.specs.{Machine.Mesh, Rows.{all_call_rows, all_leg_rows}, declared.events.MeshEvent.MeshEvent}
use Rattle.mesh_rules.specs.Quiet as mesh_quiet
use Rattle.mesh_laws.specs.{AloneLaw.Calm, Survey.{contends_of, hits_of}, SurveyLaw.{NoSurveyedContend, ShowsAll, is_reserved_row}}
use Rattle.world_rules.specs.{Images.{IsQuietWorld, image, mesh_events}, Worlds.{World, world_start}}
use Rattle.world_merge.specs.Merges.{events_of}
use Rattle.round_rules.specs.Records.{Record, world_of}
use Rattle.fleet.specs.Standing.{FleetState, StandsFor}
use Rattle.plan_reader.specs.{declared.lines.Line.Line, declared.plan.Plan.Plan}
use Rattle.table_text.specs.{SurveyText.survey_text, TableText.stopped_text}
use Rattle.script_rules.specs.{Lawful.{IsLawful, IsLawfulRecord, IsLawfulRun}, Outputs.{Prints, script_of}, Stages.{Stage, last_stage_of, new_stage, world_at}, Tables.IsTable}
use Rattle.script_rules.proofs.{Lawful.{HasOneTable, lawful_table}, OneTable.one_table}
use Rattle.ason_main.specs.{Outputs.{HasBeenCut, HasEnded, IsBegun, IsBrokenOff, IsFleetKept, IsOneRun, IsStoppedSilently, IsTheCut, IsTheOutput, end_stage, silent_on}, Running.{HasWritten, IsFleetTable}, Surveys.{HoldsOf, IsCalmWorld, IsSurveyOf, IsTheSurvey, TellsSurvey, TellsTheSurvey, silent}}

-- Rows

-- a table shows each call and each leg
table_shows : (t : Network) (s : Mesh) (rows : TableRows) → IsTable t s rows → ShowsAll t s rows.calls rows.legs
table_shows t s rows is = record {
  calls_there = λ c there. Contains-permutation (all_call_rows t s) rows.calls c is.same_calls there;
  legs_there = λ r there. Contains-permutation (all_leg_rows t s) rows.legs r is.same_legs there;
}

each_reserved : (legs : List LegRow) → IsTrue (list_all is_reserved_row legs) →
    AllByRecursion (λ r. IsTrue (is_reserved_row r)) legs
each_reserved [] all = tt
each_reserved (r ∷ legs) all = go (is_reserved_row r) refl (each_reserved legs) all
  where
    go : (b : Bool) → is_reserved_row r ≡ b →
        (IsTrue (list_all is_reserved_row legs) → AllByRecursion (λ q. IsTrue (is_reserved_row q)) legs) →
        IsTrue (b && list_all is_reserved_row legs) → AllByRecursion (λ q. IsTrue (is_reserved_row q)) (r ∷ legs)
    go true is later others = (is, later others)
    go false is later others = absurd (cc (others))

-- Calm

-- three tests, one after the other, each of what it says
pub calm_world : (w : World) (legs : List LegRow) (quiet unfailed : Bool) → IsTrue quiet ↔ IsQuietWorld w →
    IsTrue unfailed ↔ (w.failed ≡ []) →
    IsTrue (quiet && (unfailed && list_all is_reserved_row legs)) ↔ IsCalmWorld w legs
calm_world w legs true true quiet unfailed = (
  λ all. record { quiet = quiet.0 refl; failed = unfailed.0 refl; backups = all },
  λ is. is.backups,
)
calm_world w legs true false quiet unfailed =
    (λ all. absurd (cc (all)), λ is. unfailed.1 is.failed)
calm_world w legs false unfailed quiet is = (λ all. absurd (cc (all)), λ calm. quiet.1 calm.quiet)

-- the last stage is lawful
last_all : (P : Stage → Type 0) (s : Stage) (more : List Stage) → AllByRecursion P (s ∷ more) → P (last_stage_of s more)
last_all P s [] all = all.0
last_all P s (a ∷ more) all = last_all P a more all.1

pub lawful_end : (p : Plan) (more : List Stage) → IsOneRun p more → IsLawfulRecord p.topology (end_stage more).made
lawful_end p more run = last_all (λ (s : Stage). IsLawfulRecord p.topology s.made) new_stage more run.laws

-- where the survey tells that it is calm, this holds of all that may follow
pub calm_holds : NoSurveyedContend → (t : Network) (r : Record) (rows : TableRows) → IsTopology t →
    IsLawfulRecord t r → IsTable t (image (world_of t r)) rows → IsCalmWorld (world_of t r) rows.legs →
    HoldsOf t r rows
calm_holds law t r rows valid lawful table is m merge = record {
  quiet = quiet;
  calm = calm;
  admitted = λ g h differ none since goes only.
      law t (events ++ since) valid goes g h differ (record {
        before = events;
        since = since;
        parts = refl;
        quiet = quiet;
        calm = calm;
        only = only;
      }) rows.calls rows.legs shows none;
}
  where
    run : IsLawfulRun t r m
    run = lawful.runs m merge

    whole : IsLawful t (events_of m)
    whole = run.laws (events_of m) [] (append-nil (events_of m))

    events : List MeshEvent
    events = mesh_events t (world_start t) (events_of m)

    leads : mesh_runs.after t mesh.start events ≡ image (world_of t r)
    leads = whole.shown.leads ∙ ap image run.leads

    shows : ShowsAll t (mesh_runs.after t mesh.start events) rows.calls rows.legs
    shows = subst (λ s. ShowsAll t s rows.calls rows.legs) (sym leads)
        (table_shows t (image (world_of t r)) rows table)

    quiet : mesh_quiet.IsQuiet (mesh_runs.after t mesh.start events)
    quiet = subst mesh_quiet.IsQuiet (sym whole.shown.leads)
        (whole.quiet (subst IsQuietWorld (sym run.leads) is.quiet)).shown

    calm : Calm (mesh_runs.after t mesh.start events)
    calm = whole.laws.shown valid rows.calls rows.legs shows (record {
      quiet = quiet;
      failed = ap (λ (s : Mesh). s.failed) leads ∙ is.failed;
      backups = each_reserved rows.legs is.backups;
    })

-- Lists

-- what is told of one list more
pub one-more-list : {X Y : Type 0} (f : X → List Y) (lists : List (List X)) (k : ℕ) (list : List X) →
    slice_get lists k ≡ Some list →
    flat_map f (flat_map (λ l. l) (take (suc k) lists))
    ≡ flat_map f (flat_map (λ l. l) (take k lists)) ++ flat_map f list
one-more-list f [] k list at = absurd (cc (at))
one-more-list {X} f (l ∷ lists) zero list at =
    let same : l ≡ list = cc (at) in
    ap (flat_map f) (append-nil l ∙ same)
one-more-list f (l ∷ lists) (suc k) list at =
    flat_map-append f l (flat_map (λ l. l) (take (suc k) lists))
    ∙ ap (λ t. flat_map f l ++ t) (one-more-list f lists k list at)
    ∙ sym (append_assoc (flat_map f l) (flat_map f (flat_map (λ l. l) (take k lists))) (flat_map f list))
    ∙ ap (λ t. t ++ flat_map f list) (sym (flat_map-append f l (flat_map (λ l. l) (take k lists))))

-- One survey

-- what the stations' rows give, in order, is told
pub tells_survey : (p : Plan) (f : FleetState) (rows : TableRows) (calm : Bool) (text : List ℕ) →
    IsFleetTable f rows →
    ((t : Network) (lines : List Disturb) (r : Record) → StandsFor t lines f r →
    IsTrue calm ↔ IsCalmWorld (world_of t r) rows.legs) →
    text ≡ survey_text p calm (hits_of p.topology rows.calls rows.legs)
    (contends_of p.topology rows.calls rows.legs) →
    TellsSurvey p f text
tells_survey p f rows calm text table exact told = record {
  tells = λ lines r stands. record {
    rows = rows;
    table = table p.topology lines r stands;
    calm = calm;
    exact = exact p.topology lines r stands;
    told = told;
  };
}

abbrev text_of : Plan → TableRows → Bool → List ℕ
text_of p rows calm =
    survey_text p calm (hits_of p.topology rows.calls rows.legs) (contends_of p.topology rows.calls rows.legs)

-- a table has one survey
one_survey : (p : Plan) (w : World) (a b : List ℕ) → HasOneTable (image w) → IsSurveyOf p w a → IsSurveyOf p w b → a ≡ b
one_survey p w a b one this that = this.told ∙ ((λ i. text_of p (rows i) (calm i)) ∙ sym that.told)
  where
    rows : this.rows ≡ that.rows
    rows = one_table p.topology (image w) this.rows that.rows one.legs one.calls this.table that.table

    calm : this.calm ≡ that.calm
    calm = same-truth this.calm that.calm
        (λ is. that.exact.1 (subst (λ (r : TableRows). IsCalmWorld w r.legs) rows (this.exact.0 is)))
        (λ is. this.exact.1 (subst (λ (r : TableRows). IsCalmWorld w r.legs) (sym rows) (that.exact.0 is)))

-- the survey of the run's last stage is the plan's one survey
the_survey : NoSurveyedContend → (p : Plan) (more : List Stage) (text : List ℕ) → IsTheOutput p silent more [] →
    IsSurveyOf p (world_at p.topology (end_stage more)) text → IsTheSurvey p more text
the_survey law p more text output survey = record {
  is = record {
    output = output.output;
    survey = survey;
    holds = λ calm. calm_holds law p.topology (end_stage more).made survey.rows output.output.one_run.topology lawful
        survey.table (survey.exact.0 calm);
  };
  only = λ others other that.
      let same = output.only refl others [] that.output in
      record {
        stages = same.stages;
        text = one_survey p (world_at p.topology (end_stage more)) other text
            (lawful_table p.topology (end_stage more).made lawful)
            (subst (λ ss. IsSurveyOf p (world_at p.topology (end_stage ss)) other) same.stages that.survey) survey;
      };
  never_stopped = λ n others that. output.never_stopped refl n others [] that;
}
  where
    lawful : IsLawfulRecord p.topology (end_stage more).made
    lawful = lawful_end p more output.output.one_run

-- where no tables are asked for nothing is printed
pub nothing_printed : (p : Plan) (workers : ℕ) (lines : List Line) (s : Stage) (more : List Stage) (text : List ℕ) →
    Prints p (silent_on workers) lines s more text → text ≡ []
nothing_printed p workers [] s more text prints = prints.1
nothing_printed p workers (line ∷ lines) s more text prints =
    prints.8 ∙ (ap (λ xs. xs ++ prints.3) prints.5
    ∙ nothing_printed p workers lines (last_stage_of s prints.0) prints.1 prints.3 prints.6)

-- what is told of the fleet that came to the end
pub surveyed : NoSurveyedContend → (p : Plan) (f : FleetState) (old new : Option (List ℕ)) (text : List ℕ) →
    HasEnded p silent f old new → TellsSurvey p f text → TellsTheSurvey p f text
surveyed law p f old new text ended tells = record {
  more = ended.more;
  survey = the_survey law p ended.more text (subst (IsTheOutput p silent ended.more) none ended.output)
      (tells.tells (end_stage ended.more).lines (end_stage ended.more).made ended.kept.stands);
  kept = ended.kept;
}
  where
    none : ended.text ≡ []
    none = nothing_printed p 1 (script_of p) new_stage ended.more ended.text ended.output.output.printed

pub ended_silently : (p : Plan) (workers : ℕ) (f : FleetState) (old new : Option (List ℕ)) →
    HasEnded p (silent_on workers) f old new → Appends old new []
ended_silently p workers f old new ended =
    subst (Appends old new) (nothing_printed p workers (script_of p) new_stage ended.more ended.text
    ended.output.output.printed) ended.written

-- or the run is stopped
pub stopped_silently : (p : Plan) (workers : ℕ) (n : NodeId) (f : FleetState) (old new : Option (List ℕ)) →
    HasBeenCut p (silent_on workers) n f old new →
    (more : List Stage) × IsStoppedSilently p workers n more (stopped_text p n) × IsFleetKept p f (end_stage more)
stopped_silently p workers n f old new cut = (
  cut.more,
  record { cut = subst (IsTheCut p (silent_on workers) n cut.more) none cut.output; told = refl },
  cut.kept,
)
  where
    none : cut.text ≡ []
    none = nothing_printed p workers (script_of p) new_stage cut.more cut.text cut.output.output.printed

pub cut_silently : (p : Plan) (workers : ℕ) (n : NodeId) (f : FleetState) (old new : Option (List ℕ)) →
    HasBeenCut p (silent_on workers) n f old new → Appends old new []
cut_silently p workers n f old new cut =
    subst (Appends old new) (nothing_printed p workers (script_of p) new_stage cut.more cut.text
    cut.output.output.printed) cut.written

none_below : (n : ℕ) (text : List ℕ) → text ≡ [] → n < length text → ⊥
none_below n text none below = let few : n < 0 = subst (λ xs. n < length xs) none below in absurd (omega arith)

-- no part of nothing is written
pub never_failed : (p : Plan) (workers : ℕ) (f : FleetState) (text : List ℕ) →
    IsBrokenOff p (silent_on workers) f text → ⊥
never_failed p workers f text is =
    let x = is.broken in
    none_below x.part.0 x.whole
    (nothing_printed p workers (x.line ∷ []) (last_stage_of new_stage x.earlier) x.more x.whole x.printed) x.part.1

nothing_begun : (p : Plan) (workers : ℕ) (lines : List Line) (f : FleetState) (text : List ℕ) →
    IsBegun p (silent_on workers) lines f text → text ≡ []
nothing_begun p workers lines f text is =
    nothing_printed p workers is.under.printed.0 new_stage is.more text is.under.printed.3

-- what is told of a run of which nothing is printed
pub begun_nothing : (p : Plan) (workers : ℕ) (lines : List Line) (f : FleetState) (text : List ℕ) →
    IsBegun p (silent_on workers) lines f text → IsBegun p (silent_on workers) lines f []
begun_nothing p workers lines f text is =
    subst (IsBegun p (silent_on workers) lines f) (nothing_begun p workers lines f text is) is

-- where memory was wanting nothing was written
pub begun_silently : (p : Plan) (workers : ℕ) (lines : List Line) (f : FleetState) (old new : Option (List ℕ)) →
    HasWritten old new (IsBegun p (silent_on workers) lines f) →
    IsBegun p (silent_on workers) lines f [] × Appends old new []
begun_silently p workers lines f old new part = (
  begun_nothing p workers lines f part.0 part.1,
  subst (Appends old new) (nothing_begun p workers lines f part.0 part.1) part.2,
)
