use Rattle.std.proofs.Common.{◌∙◌, ap, cond, sym}
use Rattle.mesh_rules.specs.Changes.{followed_by}
use Rattle.notify.specs.Answers.{pass_answer}
use Rattle.call_control.specs.Rules.{reported_here}
use Rattle.mesh_nodes.proofs.Followed.{nothing-then}
use Rattle.node_core.proofs.messages.on_notify.Goals as goal

pub returns-then-reports : goal.returns-then-reports
returns-then-reports c =
    let t = c.args.parts.now.tables.now in
    let m = c.args.msg.now in
    let read = c.ingress_of in
    let told = reported_here t c.args.parts.now.calls.now m in
    c.in_ok-answer_report.ensures
    ∙ ap (λ calls. followed_by c.nothing-change.result (reported_here read.result.tables.now calls m))
    read.ensures.calls
    ∙ ap (λ tables. followed_by c.nothing-change.result (reported_here tables c.args.parts.now.calls.now m))
    read.ensures.tables
    ∙ ap (λ a. followed_by a told) c.nothing-change.ensures ∙ nothing-then told
    ∙ ap (λ b. cond b told (pass_answer t c.args.from m)) (sym (sym c.reports.ensures ∙ c.if-reports.true))
