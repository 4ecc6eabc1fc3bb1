use Rattle.std.proofs.Common.{List, ℕ, ap, subst, ◌∙◌, Err, Ok, rules}
use Rattle.plan_reader.specs.{Entries.{FailsBy, FailsWith}, PlanScript.{AddsWords, IsRead, script_line}, PlanTexts.{texts, words_of}, declared.script.Script.Script}
use Rattle.plan_reader.proofs.LinesRead.{line_faulty, noise_faulty, words_read}
use Rattle.plan_reader.proofs.script.read_text.Goals as goal

pub returns-in_err-line-clause-fault : goal.returns-in_err-line-clause-fault
returns-in_err-line-clause-fault c =
    let x = c.from_residual-in_err-line.result in
    let h : FailsBy x (script_line c.args.two_way c.args.t.now c.args.names.now c.args.read.now.calls
    (texts c.deref.result.now)) = search rules in
    subst (λ (ws : List (List ℕ)). FailsWith x (λ k.
    AddsWords c.args.two_way c.args.t.now c.args.names.now c.args.read.now ws (Err k)))
    (ap texts c.deref.ensures.value ∙ c.in_ok-words.ensures ∙ ap words_of c.text_of.ensures)
    (line_faulty c.args.two_way c.args.t.now c.args.names.now c.args.read.now (texts c.deref.result.now) x h)

pub returns-in_err-check_line-clause-fault : goal.returns-in_err-check_line-clause-fault
returns-in_err-check_line-clause-fault c =
    let x = c.from_residual-in_err-check_line.result in
    let h : FailsWith x (λ k. IsRead (Ok c.in_ok-line.line) (Err k)) = search rules in
    subst (λ (ws : List (List ℕ)). FailsWith x (λ k.
    AddsWords c.args.two_way c.args.t.now c.args.names.now c.args.read.now ws (Err k)))
    (ap texts c.deref.ensures.value ∙ c.in_ok-words.ensures ∙ ap words_of c.text_of.ensures)
    (noise_faulty c.args.two_way c.args.t.now c.args.names.now c.args.read.now (texts c.deref.result.now)
    c.in_ok-line.line x c.in_ok-line.ensures.line h)

pub returns-clause-ok : goal.returns-clause-ok
returns-clause-ok c =
    let after : Script = record { calls = c.read_line.new.calls; lines = c.push.new.self } in
    subst (λ ws. AddsWords c.args.two_way c.args.t.now c.args.names.now c.args.read.now ws (Ok after))
    (ap texts c.deref.ensures.value ∙ c.in_ok-words.ensures ∙ ap words_of c.text_of.ensures)
    (words_read c.args.two_way c.args.t.now c.args.names.now c.args.read.now after (texts c.deref.result.now)
    c.in_ok-line.line c.in_ok-line.ensures.line c.in_ok-check_line.ensures.passes c.in_ok-line.ensures.calls
    c.in_ok-push.ensures.ok)
