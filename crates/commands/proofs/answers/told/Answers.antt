use Rattle.std.proofs.{Common.{subst, sym}, lemmas.Result.IfOk-weaker}
use Rattle.std.specs.Prelude.{IfOk}
use Rattle.commands.specs.{Replies.IsTold, declared.tasks.Question.Question}
use Rattle.table_text.proofs.BestPairs.{one_text}
use Rattle.commands.proofs.answers.told.Goals as goal

pub returns-in-Best : goal.returns-in-Best
returns-in-Best c =
    let p = c.args.plan.now in
    let from = c.args.from.now in
    let to = c.args.to.now in
    subst (λ (q : Question). IfOk c.best_text.result (λ text. IsTold q p from to text.items)) (sym c.in-Best.is)
    (IfOk-weaker c.best_text.result _ (λ text. IsTold Question.Best p from to text.items)
    (λ text told. record {
      is = told;
      only = λ other same. one_text p c.requires from to other text.items same told;
    }) c.best_text.ensures)
