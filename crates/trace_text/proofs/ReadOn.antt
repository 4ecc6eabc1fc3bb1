-- Lines that are read one after the other.
use Rattle.std.proofs.{Common.{◌≡◌, ◌∙◌, ◌<◌, ◌+◌, ◌-◌, ℕ, suc, List, [], ◌∷◌, ◌++◌, Option, Some, None, ap, sym, arith, append_assoc}, lemmas.List.append-nil}
use Rattle.ason_base.specs.declared.commands.Entry.{Entry}
use Rattle.plan_reader.specs.{declared.lines.Line.Line, declared.plan.Plan.Plan}
use Rattle.trace_text.specs.{LinesRead.{LinesRead, NextEntry, entries_behind, lines_from, next_entry, no_more, or_wrong, place_of}, declared.reading.Place.Place}

behind_twice : (es : List Entry) (e : Entry) (ls : LinesRead) →
    entries_behind (es ++ e ∷ []) ls ≡ entries_behind es (entries_behind (e ∷ []) ls)
behind_twice es e ls = λ i. record { entries = append_assoc es (e ∷ []) ls.entries i; wrong = ls.wrong; rest = ls.rest }

all_of : (es : List Entry) (wrong : Option ℕ) (rest : List ℕ) →
    entries_behind es (no_more wrong rest) ≡ record { entries = es; wrong = wrong; rest = rest }
all_of es wrong rest = λ i. record { entries = append-nil es i; wrong = wrong; rest = rest }

-- what is read from here on, before the first line is looked at
module _ (all : LinesRead) (p : Plan) (lines : List Line) (last : Option Place) (count i : ℕ) (bytes : List ℕ)
    (es : List Entry) where
  abbrev on : NextEntry → LinesRead
  on next = lines_from p next.lines (Some (place_of next.entry)) (count - (i + 1)) (i + 1 + 1) next.rest

  looked_at : i < count → entries_behind es (lines_from p lines last (count - i) (i + 1) bytes) ≡ all →
      entries_behind es (or_wrong (i + 1) bytes on (next_entry p lines last bytes)) ≡ all
  looked_at below so_far =
      let fewer : count - i ≡ suc (count - (i + 1)) = omega (arith, below) in
      sym (ap (λ (n : ℕ). entries_behind es (lines_from p lines last n (i + 1) bytes)) fewer) ∙ so_far

  -- the line is wrong
  pub at_wrong : i < count → next_entry p lines last bytes ≡ None →
      entries_behind es (lines_from p lines last (count - i) (i + 1) bytes) ≡ all →
      record { entries = es; wrong = Some (i + 1); rest = bytes } ≡ all
  at_wrong below is so_far =
      sym (all_of es (Some (i + 1)) bytes)
      ∙ (ap (λ (o : Option NextEntry). entries_behind es (or_wrong (i + 1) bytes on o)) (sym is)
      ∙ looked_at below so_far)

  -- the line says an entry
  pub read_on : (next : NextEntry) → i < count → next_entry p lines last bytes ≡ Some next →
      entries_behind es (lines_from p lines last (count - i) (i + 1) bytes) ≡ all →
      entries_behind (es ++ next.entry ∷ [])
      (lines_from p next.lines (Some (place_of next.entry)) (count - (i + 1)) (i + 1 + 1) next.rest) ≡ all
  read_on next below is so_far =
      behind_twice es next.entry (on next)
      ∙ (ap (λ (o : Option NextEntry). entries_behind es (or_wrong (i + 1) bytes on o)) (sym is)
      ∙ looked_at below so_far)
