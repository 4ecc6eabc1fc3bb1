-- Bytes are checked with one answer alone.
use Rattle.std.proofs.Common.{◌≡◌, ◌∙◌, ◌⊎◌, ℕ, Bool, true, false, List, Option, Some, None, Result, Ok, Err, length, inl, inr, refl, ap, sym, subst}
use Rattle.ason_base.specs.{Network.IsTopology, declared.calls.TableRows.TableRows, declared.commands.Entry.Entry, declared.commands.Event.Event}
use Rattle.plan_reader.specs.{declared.faults.PlanFault.PlanFault, declared.plan.Plan.Plan}
use Rattle.plan_reader.proofs.{Agree.plans_agree, PostablePlans.network_valid}
use Rattle.script_rules.proofs.{Lawful.HasOneTable, OneTable.one_table}
use Rattle.table_text.specs.TableText.{table_text}
use Rattle.world_core.proofs.{Migrating.{kept-run, one-kept}, Replaying.not_in_run}
use Rattle.world_merge.specs.Merges.{events_of}
use Rattle.world_rules.specs.{Images.image, WorldLaws.{EveryImageHasTheLaws, EveryRunIsShown, TopologiesFindEach}, WorldRuns.world_after, Worlds.world_start}
use Rattle.trace_text.specs.{Checks.{AreChecked, IsFoundRun, AreKeptOf, AreMigrated, AreRun, ChecksAs, IsLastTable, IsOtherTable, IsWrongAfter, IsWrongEnd, IsWrongLine, run_found}, Complete.EveryCheckIsOne, LinesRead.LinesRead, TraceForms.{TraceHead, head_of, is_version_2, lines_behind, of_lines, or_uncounted}, TraceRead.IsPlanIn, declared.checking.Checked.Checked, declared.checking.FoundRun.FoundRun, declared.read.TraceFault.TraceFault, declared.read.TraceFault.TheVariants.{NotRun, Plan as RefusedPlan, OutOfMemory}}
use Rattle.trace_text.proofs.{FirstDisabled.one_first, LinesChecked.right_entries}

-- What follows

-- from the lines behind the plan of a trace of a version
abbrev Follows : ℕ → Plan → Option LinesRead → Result Checked TraceFault → Type 0
Follows v p o (Ok c) =
    (v ≡ c.version) × (p ≡ c.plan)
    × ((ls : LinesRead) × (o ≡ Some ls) × IsFoundRun (is_version_2 v) p ls (run_found c))
Follows v p o (Err (NotRun i)) = IsWrongAfter (is_version_2 v) p o i
Follows v p o (Err (RefusedPlan fault)) = ⊥
Follows v p o (Err OutOfMemory) = ⊥

-- from a plan or its fault
abbrev FollowsPlan : TraceHead → Result Plan PlanFault → Result Checked TraceFault → Type 0
FollowsPlan h (Ok p) r = Follows h.version p (lines_behind p h.rest) r
FollowsPlan h (Err fault) r = r ≡ Err (RefusedPlan fault)

-- from a head
abbrev FollowsHead : Option TraceHead → Result Checked TraceFault → Type 0
FollowsHead None r = r ≡ Err (NotRun 0)
FollowsHead (Some h) r = (plan : Result Plan PlanFault) × IsPlanIn h.version h.plan plan × FollowsPlan h plan r

right_lines : (o : Option LinesRead) (es : List Entry) (text : List ℕ) → or_uncounted o ≡ Ok (es, text) →
    (ls : LinesRead) × (o ≡ Some ls) × (of_lines ls ≡ Ok (ls.entries, text)) × (ls.entries ≡ es)
right_lines None es text h = absurd (cc (h))
right_lines (Some ls) es text h =
    let entries : ls.entries ≡ es = right_entries ls es text h in
    (ls, refl, h ∙ ap (λ (l : List Entry). Ok (l, text)) (sym entries), entries)

follows : (bytes : List ℕ) (r : Result Checked TraceFault) → ChecksAs bytes r →
    (r ≡ Err OutOfMemory) ⊎ FollowsHead (head_of bytes) r
follows bytes (Ok c) (inl is) =
    let (ls, behind, form, entries) =
    right_lines (lines_behind c.plan is.trace.rest) is.entries (table_text c.plan c.rows) is.trace.form in
    let are : AreChecked c.plan ls (run_found c) = record {
      form = form;
      run = subst (λ (es : List Entry). AreRun c.plan (events_of es)) (sym entries) is.run;
      table = subst (λ (es : List Entry). IsLastTable c.plan (events_of es) c.rows) (sym entries) is.table;
      events = is.events ∙ ap length (sym entries);
      left_out = is.left_out;
    } in
    inr (subst (λ h. FollowsHead h (Ok c)) (sym is.trace.head)
    (Ok c.plan, is.trace.plan, (sym is.version, refl, (ls, behind, are))))
follows bytes (Ok c) (inr is) =
    let (ls, behind, form, entries) =
    right_lines (lines_behind c.plan is.trace.rest) is.entries is.text is.trace.form in
    let are : AreMigrated c.plan ls (run_found c) = record {
      text = is.text;
      form = form;
      run = is.run;
      kept = subst (λ (es : List Entry). AreKeptOf c.plan (events_of es) is.run c.left_out) (sym entries) is.kept;
      table = is.table;
      events = is.events;
    } in
    inr (subst (λ h. FollowsHead h (Ok c)) (sym is.trace.head)
    (Ok c.plan, is.trace.plan, (sym is.version, refl, (ls, behind, are))))
follows bytes (Err (NotRun i)) (inl none) =
    inr (subst (λ h. FollowsHead h (Err (NotRun i))) (sym none.0) (ap (λ (n : ℕ). Err (NotRun n)) none.1))
follows bytes (Err (NotRun i)) (inr is) =
    inr (subst (λ h. FollowsHead h (Err (NotRun i))) (sym is.begun) (Ok is.plan, is.spelled, is.wrong))
follows bytes (Err (RefusedPlan fault)) is =
    inr (subst (λ h. FollowsHead h (Err (RefusedPlan fault))) (sym is.begun) (Err fault, is.spelled, refl))
follows bytes (Err OutOfMemory) is = inl refl

-- The last table

-- the laws of worlds that make the table of one alone
pub record TableLaws : Type 0 where
  pub topology : TopologiesFindEach
  pub shown : EveryRunIsShown
  pub laws : EveryImageHasTheLaws

module _ (laws : TableLaws) (p : Plan) (valid : IsTopology p.topology) where
  same_rows : (run : List Event) → AreRun p run → (a b : TableRows) → IsLastTable p run a → IsLastTable p run b → a ≡ b
  same_rows run is a b this that =
      let each = laws.topology p.topology valid in
      let shown = laws.shown p.topology run each is in
      let hold = laws.laws p.topology run each is in
      let last = image (world_after p.topology (world_start p.topology) run) in
      let one : HasOneTable last =
      subst HasOneTable shown.leads (record { legs = hold.one_leg; calls = hold.calls }) in
      one_table p.topology last a b one.legs one.calls this that

  not_other : (es : List Entry) (text : List ℕ) (rows : TableRows) → AreRun p (events_of es) →
      IsLastTable p (events_of es) rows → text ≡ table_text p rows → IsOtherTable p es text → ⊥
  not_other es text rows run last is other =
      other.other (is ∙ ap (table_text p) (same_rows (events_of es) run rows other.rows last other.table))

  -- one thing is found of lines
  one_found : (second : Bool) (ls : LinesRead) (f g : FoundRun) → IsFoundRun second p ls f → IsFoundRun second p ls g →
      f ≡ g
  one_found true ls f g this that =
      let rows : f.rows ≡ g.rows = same_rows (events_of ls.entries) this.run f.rows g.rows this.table that.table in
      let events : f.events ≡ g.events = this.events ∙ sym that.events in
      let left : f.left_out ≡ g.left_out = this.left_out ∙ sym that.left_out in
      λ i. record { events = events i; left_out = left i; rows = rows i }
  one_found false ls f g this that =
      let t = p.topology in
      let all = events_of ls.entries in
      let (runs, left) = one-kept t (world_start t) all this.run that.run f.left_out g.left_out this.kept that.kept in
      let table : IsLastTable p this.run g.rows =
      subst (λ (es : List Event). IsLastTable p es g.rows) (sym runs) that.table in
      let run : AreRun p this.run = kept-run t (world_start t) all this.run f.left_out this.kept in
      let rows : f.rows ≡ g.rows = same_rows this.run run f.rows g.rows this.table table in
      let events : f.events ≡ g.events = this.events ∙ (ap length runs ∙ sym that.events) in
      λ i. record { events = events i; left_out = left i; rows = rows i }

  -- What is wrong of lines

  not_wrong : (second : Bool) (ls : LinesRead) (f : FoundRun) (i : ℕ) → IsFoundRun second p ls f →
      IsWrongLine second p ls i → ⊥
  not_wrong true ls f i are (inl first) = not_in_run p.topology (events_of ls.entries) i first are.run
  not_wrong true ls f i are (inr (run, wrong)) =
      let end : IsWrongEnd p (Ok (ls.entries, table_text p f.rows)) i =
      subst (λ (r : Result (List Entry × List ℕ) ℕ). IsWrongEnd p r i) are.form wrong in
      not_other ls.entries (table_text p f.rows) f.rows are.run are.table refl end.1
  not_wrong false ls f i are wrong = absurd (cc (are.form, wrong))

  one_end : (r : Result (List Entry × List ℕ) ℕ) (i j : ℕ) → IsWrongEnd p r i → IsWrongEnd p r j → i ≡ j
  one_end (Err k) i j this that = this ∙ sym that
  one_end (Ok (es, table)) i j this that = this.0 ∙ sym that.0

  one_wrong : (second : Bool) (ls : LinesRead) (i j : ℕ) → IsWrongLine second p ls i → IsWrongLine second p ls j → i ≡ j
  one_wrong true ls i j (inl this) (inl that) = one_first p.topology (events_of ls.entries) i j this that
  one_wrong true ls i j (inl this) (inr (run, that)) =
      absurd (not_in_run p.topology (events_of ls.entries) i this run)
  one_wrong true ls i j (inr (run, this)) (inl that) =
      absurd (not_in_run p.topology (events_of ls.entries) j that run)
  one_wrong true ls i j (inr (run, this)) (inr (again, that)) = one_end (of_lines ls) i j this that
  one_wrong false ls i j this that = cc (this, that)

  both_checked : (v : ℕ) (o : Option LinesRead) (c d : Checked) → Follows v p o (Ok c) → Follows v p o (Ok d) → c ≡ d
  both_checked v o c d (version, plan, (ls, is, this)) (same_version, again, (ms, also, that)) =
      let same : ls ≡ ms = cc (is, also) in
      let other : IsFoundRun (is_version_2 v) p ls (run_found d) =
      subst (λ (l : LinesRead). IsFoundRun (is_version_2 v) p l (run_found d)) (sym same) that in
      let found : run_found c ≡ run_found d = one_found (is_version_2 v) ls (run_found c) (run_found d) this other in
      let versions : c.version ≡ d.version = sym version ∙ same_version in
      let plans : c.plan ≡ d.plan = sym plan ∙ again in
      λ i. record {
        version = versions i;
        events = (found i).events;
        left_out = (found i).left_out;
        plan = plans i;
        rows = (found i).rows;
      }

  never_both : (v : ℕ) (o : Option LinesRead) (c : Checked) (i : ℕ) → Follows v p o (Ok c) →
      IsWrongAfter (is_version_2 v) p o i → ⊥
  never_both v o c i (version, plan, (ls, is, this)) wrong =
      not_wrong (is_version_2 v) ls (run_found c) i this
      (subst (λ (l : Option LinesRead). IsWrongAfter (is_version_2 v) p l i) is wrong)

  same_wrong : (second : Bool) (o : Option LinesRead) (i j : ℕ) → IsWrongAfter second p o i →
      IsWrongAfter second p o j → i ≡ j
  same_wrong second None i j this that = this ∙ sym that
  same_wrong second (Some ls) i j this that = one_wrong second ls i j this that

  same_answer : (v : ℕ) (o : Option LinesRead) (r s : Result Checked TraceFault) → Follows v p o r → Follows v p o s →
      r ≡ s
  same_answer v o (Ok c) (Ok d) this that = ap (λ (x : Checked). Ok x) (both_checked v o c d this that)
  same_answer v o (Ok c) (Err (NotRun j)) this that = absurd (never_both v o c j this that)
  same_answer v o (Err (NotRun i)) (Ok d) this that = absurd (never_both v o d i that this)
  same_answer v o (Err (NotRun i)) (Err (NotRun j)) this that =
      ap (λ (n : ℕ). Err (NotRun n)) (same_wrong (is_version_2 v) o i j this that)
  same_answer v o r (Err (RefusedPlan fault)) this that = absurd that
  same_answer v o r (Err OutOfMemory) this that = absurd that
  same_answer v o (Err (RefusedPlan fault)) s this that = absurd this
  same_answer v o (Err OutOfMemory) s this that = absurd this

same : TableLaws → (o : Option TraceHead) (r s : Result Checked TraceFault) → FollowsHead o r → FollowsHead o s →
    r ≡ s
same laws None r s first second = first ∙ sym second
same laws (Some h) r s (p, spelled, first) (q, also, second) =
    by_plan p spelled first
    (subst (λ (x : Result Plan PlanFault). FollowsPlan h x s)
    (sym (plans_agree (is_version_2 h.version) h.plan p q spelled also)) second)
  where
    by_plan : (plan : Result Plan PlanFault) → IsPlanIn h.version h.plan plan → FollowsPlan h plan r →
        FollowsPlan h plan s → r ≡ s
    by_plan (Ok p) spelled this that =
        same_answer laws p (network_valid (is_version_2 h.version) h.plan p spelled) h.version
        (lines_behind p h.rest) r s this that
    by_plan (Err fault) spelled this that = this ∙ sym that

pub one_check : TableLaws → EveryCheckIsOne
one_check laws bytes r s first second = either (follows bytes r first) (follows bytes s second)
  where
    either : (r ≡ Err OutOfMemory) ⊎ FollowsHead (head_of bytes) r →
        (s ≡ Err OutOfMemory) ⊎ FollowsHead (head_of bytes) s →
        (r ≡ Err OutOfMemory) ⊎ ((s ≡ Err OutOfMemory) ⊎ (r ≡ s))
    either (inl memory) other = inl memory
    either (inr this) (inl memory) = inr (inl memory)
    either (inr this) (inr that) = inr (inr (same laws (head_of bytes) r s this that))
