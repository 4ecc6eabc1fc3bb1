-- Lines that are written while their entries come.
use Rattle.std.proofs.{Common.{◌≡◌, ◌∙◌, ◌<◌, ◌^◌, ℕ, List, [], ◌∷◌, ◌++◌, Option, Some, length, map, take, refl, ap, sym, subst, append_assoc}, KnownBytes.Appends-trans, lemmas.List.{append-nil, length-map}}
use Rattle.std.specs.{Io.KnownBytes.Appends, Iterator.{Drains, Yields}, List.AllByRecursion}
use Rattle.ason_base.specs.{declared.calls.TableRows.TableRows, declared.commands.EntryRef.EntryRef}
use Rattle.world_merge.specs.Lines.{lent_line}
use Rattle.plan_reader.specs.declared.plan.Plan.{Plan}
use Rattle.trace_text.specs.{EntryLines.entry_line, TraceText.{end_text, trace_head_text}, Widths.EntryFits, Written.{AppendsPart, StoppedAtEnd, StoppedAtEntry, WroteEntries, WroteTrace, entry_lines}}

-- a line more
pub lines_more : (p : Plan) (es : List EntryRef) (e : EntryRef) →
    entry_lines p (es ++ e ∷ []) ≡ entry_lines p es ++ entry_line p (lent_line e)
lines_more p [] e = append-nil (entry_line p (lent_line e))
lines_more p (x ∷ es) e =
    ap (λ (l : List ℕ). entry_line p (lent_line x) ++ l) (lines_more p es e)
    ∙ sym (append_assoc (entry_line p (lent_line x)) (entry_lines p es) (entry_line p (lent_line e)))

-- the numbers of a line more
pub fits_more : (es : List EntryRef) (e : EntryRef) → AllByRecursion EntryFits (map lent_line es) →
    EntryFits (lent_line e) → AllByRecursion EntryFits (map lent_line (es ++ e ∷ []))
fits_more [] e fit fits = (fits, tt)
fits_more (x ∷ es) e fit fits = (fit.0, fits_more es e fit.1 fits)

yields_more : {S A : Type 0} (gives : S → Option A → S → Type 0) (s : S) (xs : List A) (t u : S) (x : A) →
    Yields gives s xs t → gives t (Some x) u → Yields gives s (xs ++ x ∷ []) u
yields_more gives s [] t u x e step = (u, subst (λ z. gives z (Some x) u) (sym e) step, refl)
yields_more gives s (y ∷ ys) t u x (j, first, others) step =
    (j, first, yields_more gives j ys t u x others step)

-- the lines of those before were written, and the last one's in part
pub stopped : {I : Type 0} (gives : I → Option EntryRef → I → Type 0) (items begun middle state : I) (p : Plan)
    (before : List EntryRef) (last : EntryRef) (a b c : Option (List ℕ)) → begun ≡ items →
    Yields gives begun before middle →
    gives middle (Some last) state → Appends a b (entry_lines p before) →
    AppendsPart b c (entry_line p (lent_line last)) →
    StoppedAtEntry gives items p [] a c
stopped gives items begun middle state p before last a b c is came step lines (n, part, written) = record {
  before = before;
  last = last;
  state = state;
  came = subst (λ z. Yields gives z (before ++ last ∷ []) state) is
      (yields_more gives begun before middle state last came step);
  count = n;
  part = part;
  written = Appends-trans a b c (entry_lines p before) (take n (entry_line p (lent_line last))) lines written;
}

-- behind the head the same stands
pub stopped_behind : {I : Type 0} (gives : I → Option EntryRef → I → Type 0) (items : I) (p : Plan) (front : List ℕ)
    (a b c : Option (List ℕ)) → Appends a b front → StoppedAtEntry gives items p [] b c →
    StoppedAtEntry gives items p front a c
stopped_behind gives items p front a b c head s =
    let part = take s.count (entry_line p (lent_line s.last)) in
    record {
      before = s.before;
      last = s.last;
      state = s.state;
      came = s.came;
      count = s.count;
      part = s.part;
      written = subst (Appends a c) (sym (append_assoc front (entry_lines p s.before) part))
          (Appends-trans a b c front (entry_lines p s.before ++ part) head s.written);
    }

-- all lines were written, and the end in part
pub stopped_at_end : {I : Type 0} (gives : I → Option EntryRef → I → Type 0) (items : I) (p : Plan) (front : List ℕ)
    (rows : TableRows) (a b c d : Option (List ℕ)) → Appends a b front → WroteEntries gives items p b c →
    AppendsPart c d (end_text p rows) → StoppedAtEnd gives items p front rows a d
stopped_at_end gives items p front rows a b c d head es (n, part, written) = record {
  entries = es.entries;
  came = es.came;
  count = n;
  part = part;
  written = Appends-trans a c d (front ++ entry_lines p es.entries) (take n (end_text p rows))
      (Appends-trans a b c front (entry_lines p es.entries) head es.written) written;
}

-- the head, all lines and the end were written
pub wrote_trace : {I : Type 0} (gives : I → Option EntryRef → I → Type 0) (items : I) (p : Plan) (plan_bytes : List ℕ)
    (count : ℕ) (rows : TableRows) (a b c d : Option (List ℕ)) →
    ((es : List EntryRef) → Drains gives items es → length es ≡ count) →
    Appends a b (trace_head_text plan_bytes count) →
    WroteEntries gives items p b c → Appends c d (end_text p rows) → length plan_bytes < 2 ^ 64 → count < 2 ^ 64 →
    WroteTrace gives items p plan_bytes rows a d
wrote_trace gives items p plan_bytes count rows a b c d counted head es end small few =
    let many : length (map lent_line es.entries) ≡ count = length-map es.entries lent_line
    ∙ counted es.entries es.came in
    record {
      entries = es.entries;
      came = es.came;
      written = Appends-trans a c d (trace_head_text plan_bytes (length (map lent_line es.entries)) ++ entry_lines p es.entries)
          (end_text p rows)
          (Appends-trans a b c (trace_head_text plan_bytes (length (map lent_line es.entries)))
          (entry_lines p es.entries)
          (subst (λ n. Appends a b (trace_head_text plan_bytes n)) (sym many) head) es.written)
          end;
      fits = record { plan = small; count = subst (λ n. n < 2 ^ 64) (sym many) few; entries = es.fits };
    }
