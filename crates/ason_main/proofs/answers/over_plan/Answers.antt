use Rattle.std.proofs.Common.{ℕ, List, map, string_bytes, subst, sym}
use Rattle.commands.specs.{declared.tasks.Inquiry.Inquiry, Replies.{Watch, request_for}}
use Rattle.ason_main.specs.Answers.{IsAnswered}
use Rattle.ason_main.proofs.NoFleet.{ask_answered}
use Rattle.ason_main.proofs.answers.over_plan.Goals as goal

pub returns-in-Run : goal.returns-in-Run
returns-in-Run g c =
    subst (λ (q : Inquiry). IsAnswered g.K.Sink.written g.K.Sink.faults
    (request_for (map string_bytes c.args.asked.now.words.now) q) c.args.bytes.now c.args.out.now c.run.new.out
    c.run.new.kept c.run.result) (sym c.in-Run.is) (c.run.ensures c.args.bytes.now c.requires.plan)

pub returns-in-Watch : goal.returns-in-Watch
returns-in-Watch g c =
    let bs = c.args.bytes.now in
    let new = c.watch_named.new.out in
    let kept = c.watch_named.new.kept in
    subst (λ (q : Inquiry). IsAnswered g.K.Sink.written g.K.Sink.faults
    (request_for (map string_bytes c.args.asked.now.words.now) q) bs c.args.out.now new kept c.watch_named.result)
    (sym c.in-Watch.is)
    (subst (λ (name : List ℕ). IsAnswered g.K.Sink.written g.K.Sink.faults (Watch c.in-Watch.pace name) bs
    c.args.out.now new kept c.watch_named.result) c.name_before.ensures (c.watch_named.ensures bs c.requires.plan))

pub returns-in-Survey : goal.returns-in-Survey
returns-in-Survey g c =
    subst (λ (q : Inquiry). IsAnswered g.K.Sink.written g.K.Sink.faults
    (request_for (map string_bytes c.args.asked.now.words.now) q) c.args.bytes.now c.args.out.now c.survey.new.out
    c.survey.new.kept c.survey.result) (sym c.in-Survey.is) (c.survey.ensures c.args.bytes.now c.requires.plan)

pub returns-in-Ask : goal.returns-in-Ask
returns-in-Ask g c =
    ask_answered g.K.Sink.written g.K.Sink.faults (map string_bytes c.args.asked.now.words.now)
    c.args.asked.now.inquiry c.args.bytes.now c.args.out.now c.tell_ends.new.out c.args.kept.now c.tell_ends.result
    c.requires.none c.in-Ask.question c.word_at-from.result.now c.word_at.result.now c.in-Ask.is
    c.word_at-from.ensures c.word_at.ensures (c.tell_ends.ensures c.args.bytes.now c.requires.plan)
