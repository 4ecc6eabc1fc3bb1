use Rattle.std.proofs.Common.{◌≡◌, subst}
use Rattle.std.specs.Prelude.{IfOk}
use Rattle.notify.proofs.NoCall.{pass-answer}
use Rattle.notify.proofs.notifies.pass_change.Goals as goal

pub returns-in-Notify : goal.returns-in-Notify
returns-in-Notify c =
    let m = c.in-Notify in
    subst (λ a. IfOk c.on_notify.result (λ change. change ≡ a))
    (pass-answer c.args.tables.now c.args.from c.args.msg.now m.lsp m.egress m.at m.link m.code m.is)
    c.on_notify.ensures
