use Rattle.std.proofs.{Common.{ap, ◌∙◌}, lemmas.Result.IfOk-weaker}
use Rattle.table_text.specs.ViewText.{view_text}
use Rattle.ason_main.specs.Views.{IsReadView, IsViewOf}
use Rattle.ason_main.proofs.Viewed.{read_view}
use Rattle.ason_main.proofs.watching.view_of.Goals as goal

pub returns-clause-text : goal.returns-clause-text
returns-clause-text c =
    let p = c.args.plan.now in
    let n = c.args.watched.now.node in
    let f = c.args.fleet.now in
    let t = c.in_ok-table.table in
    IfOk-weaker c.view_text.result _ (λ text. IsViewOf p n f text.items)
    (λ text told. record {
      station = c.requires.0;
      there = c.requires.1;
      table = t;
      is_table =
          read_view n f c.args.watched.now.viewer c.read_last.new.viewer t c.requires c.in_ok-table.ensures.read;
      told = told ∙ ap (λ legs. view_text p n t.entries legs) c.items.ensures;
    }) c.view_text.ensures

pub returns-clause-read : goal.returns-clause-read
returns-clause-read c =
    let p = c.args.plan.now in
    let n = c.args.watched.now.node in
    let t = c.in_ok-table.table in
    IfOk-weaker c.view_text.result _
    (λ text. IsReadView p n c.args.fleet.now c.args.watched.now.viewer c.read_last.new.viewer text.items)
    (λ text told. record {
      table = t;
      read = c.in_ok-table.ensures.read;
      told = told ∙ ap (λ legs. view_text p n t.entries legs) c.items.ensures;
    }) c.view_text.ensures
