use Rattle.std.proofs.{Common.{ap, sym, ◌∙◌}, lemmas.Result.on_ok_weaker}
use Rattle.mesh_rules.specs.{Changes.followed_by, Reports.with_report, Turns.decide}
use Rattle.call_control.specs.Rules.{reported_here}
use Rattle.call_control.proofs.Told.{notify-decides}
use Rattle.call_control.proofs.reports.answer_report.Goals as goal

pub returns : goal.returns
returns c =
    let t = c.args.parts.now.tables.now in
    let calls = c.args.parts.now.calls.now in
    let m = c.in-Notify in
    let g = c.in-Some-Some.leg.now in
    let down = c.in-Some-Some.down in
    let f = c.in-Some.fibre in
    let told = c.in_ok-call.call in
    on_ok_weaker c.decide.result
    (λ put. put ∙ ap (followed_by c.args.change.now) (ap (decide t.legs told) c.leg_of-back.ensures
    ∙ notify-decides t calls m.lsp m.egress m.at m.link m.code g down f c.in-Some-with_lsp.call.now told
    (sym c.in-Some-Some.ensures) (sym c.in-Some-Some.ensures') (sym c.in-Some.ensures) (sym c.in-Some-with_lsp.ensures)
    (c.in_ok-call.ensures ∙ ap (λ d. with_report d g.lsp down f) c.in_ok-copy.ensures)
    ∙ ap (reported_here t calls) (sym m.is)))
    c.decide.ensures
