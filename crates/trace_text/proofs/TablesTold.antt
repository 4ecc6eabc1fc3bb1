-- A table that is written is read.
use Rattle.std.proofs.{Common.{◌≡◌, ◌∙◌, ◌+◌, ◌-◌, ◌==◌, ◌||◌, ℕ, nat_le, Bool, true, false, List, [], ◌∷◌, ◌++◌, Some, codes, length, take, drop, refl, ap, sym, subst, arith, append_assoc, length-append}, lemmas.List.append-nil}
use Rattle.std.specs.{Fmt.decimal, List.flat_map}
use Rattle.ason_base.specs.declared.calls.TableRows.{TableRows}
use Rattle.plan_reader.specs.declared.plan.Plan.{Plan}
use Rattle.table_text.specs.TableText.{back_text, call_ends, call_lsps, call_text, cause_text, table_head_text, leg_labels, leg_place, leg_text, table_text}
use Rattle.trace_text.specs.{TraceForms.{table_in, table_of}, TraceText.end_text}
use Rattle.trace_text.proofs.TextsParted.{front, rest_of, word_read}

-- the text ends with a newline
abbrev EndsLine : List ℕ → Type 0
EndsLine xs = (ys : List ℕ) × (xs ≡ ys ++ 10 ∷ [])

-- further texts that end so
further : {X : Type 0} (f : X → List ℕ) (items : List X) (xs : List ℕ) → ((x : X) → EndsLine (f x)) → EndsLine xs →
    EndsLine (xs ++ flat_map f items)
further f [] xs each ends = subst EndsLine (sym (append-nil xs)) ends
further f (x ∷ items) xs each ends =
    let (ys, is) = each x in
    let here : EndsLine (xs ++ f x) =
    (xs ++ ys, ap (λ (l : List ℕ). xs ++ l) is ∙ sym (append_assoc xs ys (10 ∷ []))) in
    subst EndsLine (append_assoc xs (f x) (flat_map f items)) (further f items (xs ++ f x) each here)

table_ends : (p : Plan) (rows : TableRows) → EndsLine (table_text p rows)
table_ends p rows =
    further (leg_text p) rows.legs (table_head_text rows ++ flat_map (call_text p) rows.calls)
    (λ g. (leg_place p g ++ leg_labels g ++ back_text g, refl))
    (further (call_text p) rows.calls (table_head_text rows)
    (λ c. (call_ends p c ++ call_lsps p c ++ cause_text c.cause, refl))
    (codes "calls " ++ decimal (length rows.calls) ++ codes " legs " ++ decimal (length rows.legs), refl))

in_read : (table ys : List ℕ) → table ≡ ys ++ 10 ∷ [] → table_in (Some (table ++ codes "end\n")) ≡ Some table
in_read table ys is =
    let body : List ℕ = table ++ codes "end\n" in
    let long : length body ≡ length table + 4 = length-append table (codes "end\n") in
    let short : length table ≡ length ys + 1 = ap length is ∙ length-append ys (10 ∷ []) in
    let enough : nat_le 4 (length body) ≡ true = grind (arith, long) in
    let less : length body - 4 ≡ length table = omega (arith, long) in
    let one_less : length body - 5 ≡ length ys = omega (arith, long, short) in
    let end : drop (length body - 4) body ≡ codes "end\n" =
    ap (λ (n : ℕ). drop n body) less ∙ rest_of table (codes "end\n") in
    let begun : take (length body - 4) body ≡ table = ap (λ (n : ℕ). take n body) less ∙ front table (codes "end\n") in
    let newline : drop (length body - 5) body ≡ 10 ∷ codes "end\n" =
    ap (λ (n : ℕ). drop n body) one_less
    ∙ (ap (λ (l : List ℕ). drop (length ys) (l ++ codes "end\n")) is
    ∙ (ap (drop (length ys)) (append_assoc ys (10 ∷ []) (codes "end\n")) ∙ rest_of ys (10 ∷ codes "end\n"))) in
    let either_way : (length body == 4 || true) ≡ true = either (length body == 4) in
    rw (enough, end, newline, either_way, begun) refl
  where
    either : (b : Bool) → (b || true) ≡ true
    either true = refl
    either false = refl

-- the table stands between its lines
pub table_read : (p : Plan) (rows : TableRows) → table_of (end_text p rows) ≡ Some (table_text p rows)
table_read p rows =
    let (ys, is) = table_ends p rows in
    ap table_in (word_read (codes "table\n") (table_text p rows ++ codes "end\n")) ∙ in_read (table_text p rows) ys is
