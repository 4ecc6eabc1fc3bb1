-- What lines are checked to be.
use Rattle.std.proofs.{Common.{◌≡◌, ◌≢◌, ◌∙◌, ◌+◌, ℕ, true, false, List, Option, Some, None, Result, Ok, bytes_eq, length, inr, refl, ap, sym, subst}, lemmas.List.length-map, lemmas.Slice.Eq.bytes_eq-Decides}
use Rattle.ason_base.specs.{declared.calls.TableRows.TableRows, declared.commands.Entry.Entry, declared.commands.Event.Event}
use Rattle.plan_reader.specs.declared.plan.Plan.{Plan}
use Rattle.table_text.specs.TableText.{table_text}
use Rattle.world_core.specs.Replays.{IsFirstDisabled}
use Rattle.world_core.proofs.{Migrating.kept-run, Replaying.not_in_run}
use Rattle.world_merge.specs.Merges.{events_of}
use Rattle.world_rules.specs.Worlds.{world_start}
use Rattle.trace_text.specs.{Checks.{AreChecked, AreKeptOf, AreMigrated, AreRun, IsFaultBy, IsLastTable, IsWrongEnd, IsWrongLine}, LinesRead.LinesRead, TraceForms.{of_lines, or_index, table_of, with_table}, declared.read.TraceFault.TraceFault, declared.read.TraceFault.TheVariants.{NotRun, Plan as RefusedPlan, OutOfMemory}}

-- Lines of version 2: of the form, their events replayed, and these led to these rows; with this text of a table
module _ (p : Plan) (ls : LinesRead) (right : ls.wrong ≡ None) (events : List Event)
    (are : events ≡ events_of ls.entries) (run : AreRun p events) (rows : TableRows)
    (last : IsLastTable p events rows) (text : List ℕ) (there : Some text ≡ table_of ls.rest) where
  lines_run : AreRun p (events_of ls.entries)
  lines_run = subst (AreRun p) are run

  lines_lead : IsLastTable p (events_of ls.entries) rows
  lines_lead = subst (λ (es : List Event). IsLastTable p es rows) are last

  as_many : (n : ℕ) → n ≡ length events → n ≡ length ls.entries
  as_many n is = is ∙ (ap length are ∙ length-map ls.entries (λ (e : Entry). e.event))

  form_is : of_lines ls ≡ Ok (ls.entries, text)
  form_is =
      ap (λ (w : Option ℕ). or_index ls.entries w ls.rest) right
      ∙ ap (λ (o : Option (List ℕ)). with_table ls.entries o) (sym there)

  -- the table is another one
  pub other_table : (n : ℕ) → n ≡ length events → bytes_eq text (table_text p rows) ≡ false →
      IsWrongLine true p ls (n + 1)
  other_table n is differs =
      let other : text ≢ table_text p rows =
      λ same. absurd (cc ((bytes_eq-Decides text (table_text p rows)).1 same, differs)) in
      inr (
        lines_run,
        subst (λ (r : Result (List Entry × List ℕ) ℕ). IsWrongEnd p r (n + 1)) (sym form_is)
            (ap (λ k. k + 1) (as_many n is), record { rows = rows; table = lines_lead; other = other }),
      )

  -- it is this one
  pub same_table : (n : ℕ) → n ≡ length events → bytes_eq text (table_text p rows) ≡ true →
      AreChecked p ls (record { events = n; left_out = 0; rows = rows })
  same_table n is same =
      let text_is : text ≡ table_text p rows = (bytes_eq-Decides text (table_text p rows)).0 same in
      record {
        form = form_is ∙ ap (λ (t : List ℕ). Ok (ls.entries, t)) text_is;
        run = lines_run;
        table = lines_lead;
        events = as_many n is;
        left_out = refl;
      }

-- Lines of version 1

-- the lines of a form that is right
pub right_entries : (ls : LinesRead) (es : List Entry) (text : List ℕ) → of_lines ls ≡ Ok (es, text) →
    ls.entries ≡ es
right_entries ls es text h = by_wrong ls.wrong h
  where
    by_table : (o : Option (List ℕ)) → with_table ls.entries o ≡ Ok (es, text) → ls.entries ≡ es
    by_table None e = absurd (cc (e))
    by_table (Some table) e =
        let same : (ls.entries, table) ≡ (es, text) = cc (e) in
        ap (λ (pair : List Entry × List ℕ). pair.0) same

    by_wrong : (o : Option ℕ) → or_index ls.entries o ls.rest ≡ Ok (es, text) → ls.entries ≡ es
    by_wrong (Some i) e = absurd (cc (e))
    by_wrong None e = by_table (table_of ls.rest) e

-- of the form, and of their events these were kept
module _ (p : Plan) (ls : LinesRead) (es : List Entry) (text : List ℕ) (form : of_lines ls ≡ Ok (es, text))
    (events : List Event) (are : events ≡ events_of es) (run : List Event) (left_out : ℕ)
    (kept : AreKeptOf p events run left_out) where
  -- with the table to which these lead
  pub migrated : (n : ℕ) (rows : TableRows) → n ≡ length run → IsLastTable p run rows →
      AreMigrated p ls (record { events = n; left_out = left_out; rows = rows })
  migrated n rows is last =
      let entries : ls.entries ≡ es = right_entries ls es text form in
      let all : events ≡ events_of ls.entries = are ∙ ap events_of (sym entries) in
      record {
        text = text;
        form = form ∙ ap (λ (l : List Entry). Ok (l, text)) (sym entries);
        run = run;
        kept = subst (λ (l : List Event). AreKeptOf p l run left_out) all kept;
        table = last;
        events = is;
      }

  -- none of these isn't enabled
  pub never_refused : (Wrong : ℕ → Type 0) (e : TraceFault) → IsFaultBy (IsFirstDisabled p.topology run) e →
      IsFaultBy Wrong e
  never_refused Wrong (NotRun i) first =
      absurd (not_in_run p.topology run i first
      (kept-run p.topology (world_start p.topology) events run left_out kept))
  never_refused Wrong (RefusedPlan fault) none = none
  never_refused Wrong OutOfMemory is = tt
