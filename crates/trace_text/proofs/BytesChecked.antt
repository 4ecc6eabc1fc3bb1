-- What bytes are checked to be.
use Rattle.std.proofs.Common.{◌≡◌, ◌∙◌, ◌⊎◌, ℕ, Bool, cond, true, false, List, Option, Some, None, Ok, Err, bytes_eq, codes, inl, inr, refl, ap, sym, subst}
use Rattle.ason_base.specs.declared.commands.Entry.{Entry}
use Rattle.plan_reader.specs.declared.plan.Plan.{Plan}
use Rattle.trace_text.specs.{Checks.{IsFoundRun, ChecksAs, IsChecked, IsFaultBy, IsFoundAfter, IsWrongAfter}, LinesRead.LinesRead, TraceForms.{TraceHead, head_in, head_of, if_version, is_version_2, lines_behind, of_lines, or_uncounted, plan_in, version_of, with_version}, TraceRead.{IsPlanIn, IsTraceOf}, Words.parted, declared.checking.FoundRun.FoundRun, declared.read.TraceFault.TraceFault, declared.read.TraceFault.TheVariants.{NotRun, Plan as RefusedPlan, OutOfMemory}}

-- the version of a head is 2 or 1
line_known : (line : List ℕ) (v : ℕ) → version_of line ≡ Some v → (v ≡ 2) ⊎ (v ≡ 1)
line_known line v e = go (bytes_eq line (codes "ason-trace 2")) (bytes_eq line (codes "ason-trace 1")) e
  where
    go : (a b : Bool) → cond a (Some 2) (cond b (Some 1) None) ≡ Some v → (v ≡ 2) ⊎ (v ≡ 1)
    go true b e = inl (let is : 2 ≡ v = cc (e) in sym is)
    go false true e = inr (let is : 1 ≡ v = cc (e) in sym is)
    go false false e = absurd (cc (e))

head_known : (bytes : List ℕ) (h : TraceHead) → head_of bytes ≡ Some h → (h.version ≡ 2) ⊎ (h.version ≡ 1)
head_known bytes h e = by_line (parted 10 bytes) e
  where
    by_plan : (v : ℕ) (o : Option (List ℕ × List ℕ)) → (v ≡ 2) ⊎ (v ≡ 1) → with_version v o ≡ Some h →
        (h.version ≡ 2) ⊎ (h.version ≡ 1)
    by_plan v None known e = absurd (cc (e))
    by_plan v (Some (plan, rest)) known e =
        let same : record { version = v; plan = plan; rest = rest } ≡ h = cc (e) in
        subst (λ (g : TraceHead). (g.version ≡ 2) ⊎ (g.version ≡ 1)) same known

    by_version : (line rest : List ℕ) (o : Option ℕ) → version_of line ≡ o → if_version rest o ≡ Some h →
        (h.version ≡ 2) ⊎ (h.version ≡ 1)
    by_version line rest None is e = absurd (cc (e))
    by_version line rest (Some v) is e = by_plan v (plan_in (parted 10 rest)) (line_known line v is) e

    by_line : (o : Option (List ℕ × List ℕ)) → head_in o ≡ Some h → (h.version ≡ 2) ⊎ (h.version ≡ 1)
    by_line None e = absurd (cc (e))
    by_line (Some (line, rest)) e = by_version line rest (version_of line) refl e

-- bytes are checked where the lines behind their plan are
pub bytes_checked : (bytes : List ℕ) (h : TraceHead) (p : Plan) (ls : LinesRead) (f : FoundRun) →
    head_of bytes ≡ Some h → IsPlanIn h.version h.plan (Ok p) → lines_behind p h.rest ≡ Some ls →
    IsFoundRun (is_version_2 h.version) p ls f →
    IsChecked bytes
    (record { version = h.version; events = f.events; left_out = f.left_out; plan = p; rows = f.rows })
bytes_checked bytes h p ls f begun spelled lines found = by_version (head_known bytes h begun)
  where
    found_at : (v : ℕ) → h.version ≡ v → IsFoundRun (is_version_2 v) p ls f
    found_at v is = subst (λ (k : ℕ). IsFoundRun (is_version_2 k) p ls f) is found

    trace_at : (v : ℕ) (es : List Entry) (text : List ℕ) → h.version ≡ v → of_lines ls ≡ Ok (es, text) →
        IsTraceOf bytes (record { version = v; plan_bytes = h.plan; plan = p; entries = es; table = text })
    trace_at v es text is form = record {
      rest = h.rest;
      head = begun ∙ λ i. Some (record { version = is i; plan = h.plan; rest = h.rest });
      plan = subst (λ (k : ℕ). IsPlanIn k h.plan (Ok p)) is spelled;
      form = ap or_uncounted lines ∙ form;
    }

    by_version : (h.version ≡ 2) ⊎ (h.version ≡ 1) → IsChecked bytes
        (record { version = h.version; events = f.events; left_out = f.left_out; plan = p; rows = f.rows })
    by_version (inl is) =
        let are = found_at 2 is in
        inl (record {
          version = is;
          plan_bytes = h.plan;
          entries = ls.entries;
          trace = trace_at 2 ls.entries _ is are.form;
          run = are.run;
          table = are.table;
          events = are.events;
          left_out = are.left_out;
        })
    by_version (inr is) =
        let are = found_at 1 is in
        inr (record {
          version = is;
          plan_bytes = h.plan;
          entries = ls.entries;
          text = are.text;
          trace = trace_at 1 ls.entries are.text is are.form;
          run = are.run;
          kept = are.kept;
          table = are.table;
          events = are.events;
        })

-- and behind their plan this is found
pub found_checked : (bytes : List ℕ) (h : TraceHead) (p : Plan) (f : FoundRun) → head_of bytes ≡ Some h →
    IsPlanIn h.version h.plan (Ok p) → IsFoundAfter (is_version_2 h.version) p (lines_behind p h.rest) f →
    IsChecked bytes
    (record { version = h.version; events = f.events; left_out = f.left_out; plan = p; rows = f.rows })
found_checked bytes h p f begun spelled found = go (lines_behind p h.rest) refl found
  where
    go : (o : Option LinesRead) → lines_behind p h.rest ≡ o → IsFoundAfter (is_version_2 h.version) p o f →
        IsChecked bytes
        (record { version = h.version; events = f.events; left_out = f.left_out; plan = p; rows = f.rows })
    go None is found = absurd found
    go (Some ls) is found = bytes_checked bytes h p ls f begun spelled is found

-- or this is wrong
pub found_wrong : (bytes : List ℕ) (h : TraceHead) (p : Plan) → head_of bytes ≡ Some h →
    IsPlanIn h.version h.plan (Ok p) → (e : TraceFault) →
    IsFaultBy (IsWrongAfter (is_version_2 h.version) p (lines_behind p h.rest)) e → ChecksAs bytes (Err e)
found_wrong bytes h p begun spelled (NotRun i) wrong =
    inr (record { head = h; plan = p; begun = begun; spelled = spelled; wrong = wrong })
found_wrong bytes h p begun spelled (RefusedPlan fault) wrong = absurd wrong
found_wrong bytes h p begun spelled OutOfMemory wrong = tt
