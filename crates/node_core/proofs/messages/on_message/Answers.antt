use Rattle.std.proofs.Common.{◌≡◌, ◌∙◌, IfOk, ap, subst}
use Rattle.ason_base.specs.declared.messages.Msg.TheVariants.{PathErr}
use Rattle.node_core.proofs.Followed.{removal-is, resv-is}
use Rattle.node_core.proofs.messages.on_message.Goals as goal

pub returns-in-Resv : goal.returns-in-Resv
returns-in-Resv c =
    let t = c.args.parts.now.tables.now in
    let k = c.args.parts.now.calls.now in
    let m = c.in-Resv in
    subst (λ a. IfOk c.on_resv.result (λ change. change ≡ a))
    (resv-is t k c.args.from c.args.msg.now m.lsp m.egress m.link m.label m.is) c.on_resv.ensures

pub returns-then-removed : goal.returns-then-removed
returns-then-removed c =
    let t = c.args.parts.now.tables.now in
    let k = c.args.parts.now.calls.now in
    let m = c.in-PathErr in
    let is = m.is ∙ ap (λ gone. PathErr m.lsp m.egress m.at gone m.code) c.if-removed.true in
    subst (λ a. IfOk c.remove.result (λ change. change ≡ a))
    (removal-is t k c.args.from c.args.msg.now m.lsp m.egress m.at m.code is) c.remove.ensures
