use Rattle.std.proofs.{Common.{subst, sym}, lemmas.Result.IfOk-weaker}
use Rattle.std.specs.Prelude.{IfOk}
use Rattle.ason_main.specs.Running.{LineTells}
use Rattle.ason_main.proofs.Lines.{tells_settle}
use Rattle.ason_main.proofs.runner.lines.text_of.Goals as goal

pub returns-in-Settle : goal.returns-in-Settle
returns-in-Settle c =
    let p = c.args.plan.now in
    subst (λ l. IfOk c.unsettled_text.result (λ text. LineTells p l c.args.fleet.now text.items)) (sym c.in-Settle.is)
    (IfOk-weaker c.unsettled_text.result _ _
    (λ text tells. tells_settle p c.in-Settle.field-0 c.args.fleet.now text.items tells) c.unsettled_text.ensures)
