use Rattle.std.proofs.{Common.{◌≡◌, ◌∙◌, ◌++◌, ℕ, List, Option, Result, OnErr, OnOk, length, subst}, KnownBytes.Appends-trans}
use Rattle.std.specs.Io.KnownBytes.{Appends}
use Rattle.ason_base.proofs.Results.{on_err, on_ok, on_err_always}
use Rattle.trace_text.specs.{TraceText.{events_line, plan_line}, Written.AppendsPart}
use Rattle.trace_text.proofs.Parts.{part_first, part_second}
use Rattle.trace_text.proofs.pieces.write_head.Goals as goal

-- a line, the plan and another line are written one after the other
module _ (a b d e : Option (List ℕ)) (text line plan end last : List ℕ) (first : text ≡ line) (then : end ≡ last)
    (wrote : Appends a b text) (more : Appends b d plan) {T E : Type 0} (r : Result T E) where
  both : Appends a d (line ++ plan)
  both = Appends-trans a b d line plan (subst (Appends a b) first wrote) more

  all_written : OnOk r (Appends d e end) → OnOk r (Appends a e ((line ++ plan) ++ last))
  all_written = on_ok r _ _ (λ w. Appends-trans a d e (line ++ plan) last both (subst (Appends d e) then w))

  part_written : OnErr r (AppendsPart d e end) → OnErr r (AppendsPart a e ((line ++ plan) ++ last))
  part_written = on_err r _ _ (λ w. part_second a d e (line ++ plan) last both (subst (AppendsPart d e) then w))

pub returns-in_err-write_piece-clause-part : goal.returns-in_err-write_piece-clause-part
returns-in_err-write_piece-clause-part g c =
    let a = g.K.Sink.written c.args.out.now in
    let b = g.K.Sink.written c.write_piece.new.out in
    let plan = c.args.plan_bytes.now in
    let line = plan_line (length plan) in
    let first : c.as_bytes.result.now ≡ line = c.as_bytes.ensures.value ∙ c.in_ok-first.ensures.text in
    on_err_always c.from_residual-in_err-write_piece.result _
    (part_first a b (line ++ plan) (events_line c.args.count)
    (part_first a b line plan (subst (AppendsPart a b) first c.in_err-write_piece.ensures.part)))

pub returns-in_err-write_piece-2-clause-part : goal.returns-in_err-write_piece-2-clause-part
returns-in_err-write_piece-2-clause-part g c =
    let a = g.K.Sink.written c.args.out.now in
    let b = g.K.Sink.written c.write_piece.new.out in
    let d = g.K.Sink.written c.write_piece-2.new.out in
    let plan = c.args.plan_bytes.now in
    let line = plan_line (length plan) in
    let first : c.as_bytes.result.now ≡ line = c.as_bytes.ensures.value ∙ c.in_ok-first.ensures.text in
    on_err_always c.from_residual-in_err-write_piece-2.result _
    (part_first a d (line ++ plan) (events_line c.args.count)
    (part_second a b d line plan (subst (Appends a b) first c.in_ok-write_piece.ensures.all)
    c.in_err-write_piece-2.ensures.part))

pub returns-clause-all : goal.returns-clause-all
returns-clause-all g c =
    all_written _ _ _ _ _ _ _ _ _ (c.as_bytes.ensures.value ∙ c.in_ok-first.ensures.text)
    (c.as_bytes-2.ensures.value ∙ c.in_ok-last.ensures) c.in_ok-write_piece.ensures.all
    c.in_ok-write_piece-2.ensures.all c.write_piece-3.result c.write_piece-3.ensures.all

pub returns-clause-part : goal.returns-clause-part
returns-clause-part g c =
    part_written _ _ _ _ _ _ _ _ _ (c.as_bytes.ensures.value ∙ c.in_ok-first.ensures.text)
    (c.as_bytes-2.ensures.value ∙ c.in_ok-last.ensures) c.in_ok-write_piece.ensures.all
    c.in_ok-write_piece-2.ensures.all c.write_piece-3.result c.write_piece-3.ensures.part
