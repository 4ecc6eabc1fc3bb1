-- A trace that is written is read.
use Rattle.std.proofs.{Common.{◌≡◌, ◌∙◌, ◌<◌, ◌^◌, ℕ, List, [], ◌∷◌, ◌++◌, Option, Some, None, Result, Ok, codes, length, take, drop, refl, ap, arith, append_assoc}, lemmas.List.append-nil}
use Rattle.std.specs.Fmt.{decimal}
use Rattle.ason_base.specs.{declared.calls.TableRows.TableRows, declared.commands.Entry.Entry, declared.numerals.NumeralFault.NumeralFault}
use Rattle.plan_reader.specs.declared.plan.Plan.{Plan}
use Rattle.table_text.specs.TableText.{table_text}
use Rattle.trace_text.specs.{RoundTrip.{CanAllBeTold, EveryTraceIsRead}, TraceForms.{count_in, count_read, form_of, head_in, head_of, lines_counted, lines_read_in, number_in, of_lines, or_uncounted, plan_in, plan_within, with_table, with_version}, TraceText.{end_text, entries_text}, Words.parted}
use Rattle.trace_text.proofs.{Decimals.{lacks_low, number_read, stamp_read}, EntriesTold.all_read, TablesTold.table_read, TextsParted.{back, front, parted_there, rest_of, word_read}}

-- The text by its lines

one_by_one : (a size b plan c events d es end : List ℕ) →
    (a ++ size ++ b) ++ plan ++ (c ++ events ++ d) ++ es ++ end
    ≡ a ++ (size ++ (b ++ (plan ++ (c ++ (events ++ (d ++ (es ++ end)))))))
one_by_one a size b plan c events d es end = simp append_assoc refl

by_lines : (size plan events es end : List ℕ) →
    (codes "ason-trace 2\nplan " ++ size ++ codes "\n") ++ plan
    ++ (codes "\nevents " ++ events ++ codes "\n") ++ es ++ end
    ≡ codes "ason-trace 2"
    ++ 10 ∷ ((codes "plan " ++ size) ++ 10 ∷ (plan ++ 10 ∷ ((codes "events " ++ events) ++ 10 ∷ (es ++ end))))
by_lines size plan events es end =
    one_by_one (codes "ason-trace 2\nplan ") size (codes "\n") plan (codes "\nevents ") events (codes "\n") es end

-- The head

within_read : (plan rest : List ℕ) → plan_within (plan ++ 10 ∷ rest) (Some (length plan)) ≡ Some (plan, rest)
within_read plan rest =
    let newline : take 1 (drop (length plan) (plan ++ 10 ∷ rest)) ≡ 10 ∷ [] = ap (take 1) (rest_of plan (10 ∷ rest)) in
    rw newline (λ i. Some (front plan (10 ∷ rest) i, back plan 10 rest i))

plan_read : (plan rest : List ℕ) → length plan < 2 ^ 64 →
    plan_in (parted 10 ((codes "plan " ++ decimal (length plan)) ++ 10 ∷ (plan ++ 10 ∷ rest))) ≡ Some (plan, rest)
plan_read plan rest small =
    let size : List ℕ = decimal (length plan) in
    ap plan_in (parted_there 10 (codes "plan " ++ size) (plan ++ 10 ∷ rest)
    (lacks_low 10 (length plan) (omega arith) small))
    ∙ (ap (λ (o : Option (List ℕ)). plan_within (plan ++ 10 ∷ rest) (number_in o)) (word_read (codes "plan ") size)
    ∙ (ap (plan_within (plan ++ 10 ∷ rest)) (stamp_read (length plan) small) ∙ within_read plan rest))

head_read : (plan rest : List ℕ) → length plan < 2 ^ 64 →
    head_of (codes "ason-trace 2" ++ 10 ∷ ((codes "plan " ++ decimal (length plan)) ++ 10 ∷ (plan ++ 10 ∷ rest)))
    ≡ Some (record { version = 2; plan = plan; rest = rest })
head_read plan rest small =
    ap head_in (parted_there 10 (codes "ason-trace 2")
    ((codes "plan " ++ decimal (length plan)) ++ 10 ∷ (plan ++ 10 ∷ rest)) refl)
    ∙ ap (with_version 2) (plan_read plan rest small)

-- What is behind the plan

form_read : (p : Plan) (es : List Entry) (rows : TableRows) → length es < 2 ^ 64 → CanAllBeTold p p.lines None es →
    form_of p ((codes "events " ++ decimal (length es)) ++ 10 ∷ (entries_text p es ++ end_text p rows))
    ≡ Ok (es, table_text p rows)
form_read p es rows small told =
    let events : List ℕ = decimal (length es) in
    let end : List ℕ = end_text p rows in
    let body : List ℕ = entries_text p es ++ end in
    ap (λ (o : Option (List ℕ × List ℕ)). or_uncounted (lines_read_in p o))
    (parted_there 10 (codes "events " ++ events) body (lacks_low 10 (length es) (omega arith) small))
    ∙ (ap (λ (o : Option (List ℕ)). or_uncounted (lines_counted p body (count_in o)))
    (word_read (codes "events ") events)
    ∙ (ap (λ (r : Result ℕ NumeralFault). or_uncounted (lines_counted p body (count_read r)))
    (number_read (length es) small)
    ∙ (ap of_lines (all_read p p.lines None es 1 end told)
    ∙ (λ i. with_table (append-nil es i) (table_read p rows i)))))

pub trace_read : EveryTraceIsRead
trace_read p plan es rows spelled small few told =
    let rest : List ℕ = (codes "events " ++ decimal (length es)) ++ 10 ∷ (entries_text p es ++ end_text p rows) in
    record {
      rest = rest;
      head = ap head_of (by_lines (decimal (length plan)) plan (decimal (length es)) (entries_text p es)
          (end_text p rows))
          ∙ head_read plan rest small;
      plan = spelled;
      form = form_read p es rows few told;
    }
