-- The trace that was written while the lines of a merge came.
use Rattle.std.proofs.{Common.{◌≡◌, ◌<◌, ◌+◌, ◌∙◌, ℕ, List, [], ◌∷◌, ◌++◌, length, map, take, inl, inr, refl, sym, ap, subst, append_assoc, arith, length-append}, Math.Seq.{take-append-add, take-append-le}, lemmas.List.length-map}
use Rattle.std.specs.{Prelude.Option, Io.KnownBytes.Appends, Iterator.{Drains, Yields, YieldsFirstBy}}
use Rattle.ason_base.specs.{declared.calls.TableRows.TableRows, declared.commands.Entry.Entry, declared.commands.EntryRef.EntryRef}
use Rattle.world_merge.specs.{Lines.{lent_line, lines_left}, declared.merging.Merging.Merging}
use Rattle.plan_reader.specs.declared.plan.Plan.{Plan}
use Rattle.trace_text.specs.{EntryLines.entry_line, Merges.EveryMergeComes, TraceText.{end_text, entries_text, trace_head_text, trace_text}, Written.{AppendsPart, StoppedAtEnd, StoppedAtEntry, WrotePart, entry_lines}}
use Rattle.trace_text.proofs.Parts.{part_first}

-- Lines that came

-- what came so far is in front of what is left
yields_front : (m : Merging) (es : List EntryRef) (state : Merging) →
    Yields (YieldsFirstBy lent_line lines_left) m es state → map lent_line es ++ lines_left state ≡ lines_left m
yields_front m [] state is = ap lines_left (sym is)
yields_front m (e ∷ es) state (j, first, others) =
    ap (λ l. lent_line e ∷ l) (yields_front j es state others) ∙ sym first

-- the lines of entries, and then those of others
lines_both : (p : Plan) (xs ys : List Entry) → entries_text p (xs ++ ys) ≡ entries_text p xs ++ entries_text p ys
lines_both p [] ys = refl
lines_both p (x ∷ xs) ys =
    ap (λ l. entry_line p x ++ l) (lines_both p xs ys)
    ∙ sym (append_assoc (entry_line p x) (entries_text p xs) (entries_text p ys))

map_last : (es : List EntryRef) (e : EntryRef) (others : List Entry) →
    map lent_line (es ++ e ∷ []) ++ others ≡ map lent_line es ++ (lent_line e ∷ others)
map_last [] e others = refl
map_last (x ∷ es) e others = ap (λ l. lent_line x ∷ l) (map_last es e others)

-- Parts of texts

part_in_middle : (a b : Option (List ℕ)) (xs ys zs : List ℕ) (n : ℕ) → n < length ys →
    Appends a b (xs ++ take n ys) → AppendsPart a b (xs ++ (ys ++ zs))
part_in_middle a b xs ys zs n less written =
    let longer = length-append xs (ys ++ zs) in
    let inner = length-append ys zs in (
      length xs + n,
      omega (arith, longer, inner, less),
      subst (Appends a b) (sym (take-append-add xs (ys ++ zs) n
          ∙ ap (λ l. xs ++ l) (take-append-le n ys zs (omega (arith, less))))) written,
    )

part_at_end : (a b : Option (List ℕ)) (xs ys : List ℕ) (n : ℕ) → n < length ys → Appends a b (xs ++ take n ys) →
    AppendsPart a b (xs ++ ys)
part_at_end a b xs ys n less written =
    let longer = length-append xs ys in (
      length xs + n,
      omega (arith, longer, less),
      subst (Appends a b) (sym (take-append-add xs ys n)) written,
    )

-- The trace

abbrev text_of : Plan → List ℕ → Merging → TableRows → List ℕ
text_of p bs m rows = trace_text p bs (lines_left m) rows

stopped_at_entry : (p : Plan) (bs : List ℕ) (m : Merging) (rows : TableRows) (old new : Option (List ℕ)) →
    StoppedAtEntry (YieldsFirstBy lent_line lines_left) m p (trace_head_text bs (length (lines_left m))) old new →
    AppendsPart old new (text_of p bs m rows)
stopped_at_entry p bs m rows old new s =
    subst (AppendsPart old new) (sym whole)
    (part_in_middle old new (front ++ entry_lines p s.before) line (entries_text p others ++ end_text p rows) s.count
    s.part s.written)
  where
    front : List ℕ
    front = trace_head_text bs (length (lines_left m))

    others : List Entry
    others = lines_left s.state

    line : List ℕ
    line = entry_line p (lent_line s.last)

    lines : lines_left m ≡ map lent_line s.before ++ (lent_line s.last ∷ others)
    lines = sym (yields_front m (s.before ++ s.last ∷ []) s.state s.came) ∙ map_last s.before s.last others

    told : entries_text p (lines_left m) ≡ entry_lines p s.before ++ (line ++ entries_text p others)
    told = ap (entries_text p) lines ∙ lines_both p (map lent_line s.before) (lent_line s.last ∷ others)

    whole : text_of p bs m rows
        ≡ (front ++ entry_lines p s.before) ++ (line ++ (entries_text p others ++ end_text p rows))
    whole =
        ap (λ l. (front ++ l) ++ end_text p rows) told
        ∙ (ap (λ l. l ++ end_text p rows) (sym (append_assoc front (entry_lines p s.before)
        (line ++ entries_text p others)))
        ∙ (append_assoc (front ++ entry_lines p s.before) (line ++ entries_text p others) (end_text p rows)
        ∙ ap (λ l. (front ++ entry_lines p s.before) ++ l)
        (append_assoc line (entries_text p others) (end_text p rows))))

stopped_at_end : EveryMergeComes → (p : Plan) (bs : List ℕ) (m : Merging) (rows : TableRows)
    (old new : Option (List ℕ)) →
    StoppedAtEnd (YieldsFirstBy lent_line lines_left) m p (trace_head_text bs (length (lines_left m))) rows old new →
    AppendsPart old new (text_of p bs m rows)
stopped_at_end comes p bs m rows old new s =
    part_at_end old new (front ++ entries_text p (lines_left m)) (end_text p rows) s.count s.part
    (subst (λ es. Appends old new ((front ++ entries_text p es) ++ take s.count (end_text p rows)))
    (comes m s.entries s.came) s.written)
  where
    front : List ℕ
    front = trace_head_text bs (length (lines_left m))

-- what was written of a trace in part is a part of the trace of all lines that are left
pub part_of_trace : EveryMergeComes → (p : Plan) (bs : List ℕ) (m : Merging) (count : ℕ) (rows : TableRows)
    (old new : Option (List ℕ)) → count ≡ length (lines_left m) →
    WrotePart (YieldsFirstBy lent_line lines_left) m p bs count rows old new →
    AppendsPart old new (trace_text p bs (lines_left m) rows)
part_of_trace comes p bs m count rows old new many part =
    go (subst (λ n. WrotePart (YieldsFirstBy lent_line lines_left) m p bs n rows old new) many part)
  where
    go : WrotePart (YieldsFirstBy lent_line lines_left) m p bs (length (lines_left m)) rows old new →
        AppendsPart old new (text_of p bs m rows)
    go (inl head) =
        part_first old new (trace_head_text bs (length (lines_left m)) ++ entries_text p (lines_left m))
        (end_text p rows)
        (part_first old new (trace_head_text bs (length (lines_left m))) (entries_text p (lines_left m)) head)
    go (inr (inl entry)) = stopped_at_entry p bs m rows old new entry
    go (inr (inr end)) = stopped_at_end comes p bs m rows old new end

-- as many come as are left
pub count_comes : EveryMergeComes → (m : Merging) (es : List EntryRef) →
    Drains (YieldsFirstBy lent_line lines_left) m es → length es ≡ length (lines_left m)
count_comes comes m es came = sym (length-map es lent_line) ∙ ap length (comes m es came)
